-- What a line of a script asks is of its cluster, and so is what a read gave.
use Rattle.std.proofs.Common.{◌≡◌, ℕ, ◌<◌, Bool, List, length}
use Rattle.std.proofs.lemmas.List.Elements.{recursion_from_All}
use Rattle.quorum_rules.specs.Limits.{Numbers}
use Rattle.text_lines.specs.Fields as text
use Rattle.message_texts.specs.Texts.{IsVersion, IsRequest, IsReply, IsBody}
use Rattle.wire_forms.specs.declared.Request.TheVariants.{Time, Read as AskRead, Write as AskWrite}
use Rattle.wire_forms.specs.declared.Reply.TheVariants.{TimeIs, Found, Nothing, Ack, Refused}
use Rattle.wire_forms.specs.declared.Body.TheVariants.{Ask as Asks, Answer as Answers}
use Rattle.protocol.specs.Messages.{IsBytes, IsFormed, IsFormedRequest, IsFormedReply, IsFormedBody, Version, Request, Reply, Body}
use Rattle.protocol.specs.Instance.{setting_of}
use Rattle.protocol.specs.Lines.{Line, FitsLine}
use Rattle.event_lines.specs.Lines.{IsLine}
use Rattle.run_words.specs.declared.line.Line.TheVariants.{Write, Read, Resend, Call, Give, Hear, Lost, CrashNode, CrashClient, Lie, Tell, Poke, False, Sound, Mix, Prune, Back, Restart}
use Rattle.protocol.proofs.lemmas.Strings.{all_bytes}

bytes_of : (xs : List ℕ) → text.IsBytes xs → IsBytes xs
unfolding text.IsBytes
bytes_of xs h = all_bytes xs h

formed : (v : Version) → IsVersion v → IsFormed v
formed v h = (recursion_from_All (λ d. length d ≡ 32) v.sum h.sum.digests, recursion_from_All (λ b. b < 256) v.fragment h.fragment.bytes)

formed_request : (r : Request) → IsRequest r → IsFormedRequest r
formed_request Time h = tt
formed_request (AskRead bound) h = tt
formed_request (AskWrite v) h = formed v h

formed_reply : (r : Reply) → IsReply r → IsFormedReply r
formed_reply (TimeIs time) h = tt
formed_reply (Found v) h = formed v h
formed_reply Nothing h = tt
formed_reply Ack h = tt
formed_reply (Refused reason) h = tt

formed_body : (b : Body) → IsBody b → IsFormedBody b
formed_body (Asks ask) h = formed_request ask.request h.request
formed_body (Answers reply) h = formed_reply reply h

-- a line of a script for this cluster
pub fits_line : (c : Numbers) (nodes clients : ℕ → Bool) (line : Line) → IsLine c line → FitsLine (setting_of c nodes clients) line
fits_line c nodes clients (Write client block value) h = (h.1.there, (h.2.whole, bytes_of value h.2.bytes))
fits_line c nodes clients (Read client block) h = h.1.there
fits_line c nodes clients (Resend client) h = tt
fits_line c nodes clients (Call client node) h = tt
fits_line c nodes clients (Give node message) h = tt
fits_line c nodes clients (Hear client message) h = tt
fits_line c nodes clients (Lost client node) h = tt
fits_line c nodes clients (CrashNode node) h = tt
fits_line c nodes clients (CrashClient client) h = tt
fits_line c nodes clients (Lie m) h = formed_body m.body h.body
fits_line c nodes clients (Tell m) h = formed_body m.body h.0.body
fits_line c nodes clients (Poke m) h = formed_body m.body h.0.body
fits_line c nodes clients (False client node rule) h = h.2
fits_line c nodes clients (Sound client node block time value) h = (h.4.whole, bytes_of value h.4.bytes)
fits_line c nodes clients (Mix client node block time value other) h = ((h.4.whole, bytes_of value h.4.bytes), (h.5.whole, bytes_of other h.5.bytes))
fits_line c nodes clients (Prune node block) h = h.1.there
fits_line c nodes clients (Back client) h = tt
fits_line c nodes clients (Restart node) h = tt
