-- The text of an event line as a line of a script.
use Rattle.std.proofs.Common.{◌≡◌, ◌≢◌, lit<, ℕ, List, ◌∷◌, Some, None, sym, ap, ◌∙◌}
use Rattle.std.specs.Prelude.{codes}
use Rattle.quorum_rules.specs.Limits.{Numbers}
use Rattle.text_lines.specs.Lines.{fields_of, Lacks}
use Rattle.wire_forms.specs.declared.message.Request.{Request}
use Rattle.wire_forms.specs.declared.message.Request.TheVariants.{Time, Read as Reads, Write as Writes}
use Rattle.wire_forms.specs.declared.message.Reply.TheVariants.{TimeIs, Found, Nothing, Ack, Refused}
use Rattle.wire_forms.specs.declared.message.Body.{Body}
use Rattle.wire_forms.specs.declared.message.Body.TheVariants.{Ask as Asks, Answer as Answers}
use Rattle.message_texts.specs.Texts.{IsRequest, IsBody, HasShortRequest, HasLimits}
use Rattle.run_words.specs.declared.line.Line.{Line}
use Rattle.run_words.specs.declared.line.Line.TheVariants.{Lie, Tell, Poke}
use Rattle.line_forms.specs.declared.cause.Cause.TheVariants.{UnknownWord}
use Rattle.event_lines.specs.declared.line.ReplayLine.{ReplayLine}
use Rattle.event_lines.specs.declared.line.ReplayLine.TheVariants.{Plain, Put, Get, Next}
use Rattle.event_lines.specs.Forms.{line_cause}
use Rattle.event_lines.specs.Lines.{IsEventLine, HasText, event_fields, event_text}
use Rattle.event_lines.proofs.lemmas.Accepted.{event_apart, line_fine}
use Rattle.event_lines.proofs.lemmas.Lacking.{event_lacks, line_lacks_newline}

pub one_line : (c : Numbers) (l : ReplayLine) → IsEventLine c l → Lacks 10 (event_text l)
one_line c l h = line_lacks_newline (event_fields l) (event_lacks 10 (lit< tt) (lit< tt) c l h)

pub no_liar : (c : Numbers) (l : ReplayLine) (rest : List (List ℕ)) → IsEventLine c l → fields_of (event_text l) ≢ codes "liar" ∷ rest
no_liar c l rest h e =
    let clash : Some UnknownWord ≡ None = sym (ap (line_cause c) (sym (event_apart c l h) ∙ e)) ∙ line_fine c l h in cc

request_short : (r : Request) → IsRequest r → HasShortRequest r
request_short Time h = tt
request_short (Reads bound) h = tt
request_short (Writes v) h = (h.sum.few, h.fragment.few)

body_short : (b : Body) → IsBody b → HasLimits b
body_short (Asks ask) h = request_short ask.request h.request
body_short (Answers (Found v)) h = (h.sum.few, h.fragment.few)
body_short (Answers (TimeIs time)) h = tt
body_short (Answers Nothing) h = tt
body_short (Answers Ack) h = tt
body_short (Answers (Refused reason)) h = tt

line_printed : (c : Numbers) (l : Line) → IsEventLine c (Plain l) → HasText (Plain l)
line_printed c (Lie m) h = body_short m.body h.body
line_printed c (Tell m) h = body_short m.body h.0.body
line_printed c (Poke m) h = body_short m.body h.0.body
line_printed c _ h = tt

pub event_printed : (c : Numbers) (l : ReplayLine) → IsEventLine c l → HasText l
event_printed c (Plain l) h = line_printed c l h
event_printed c (Put client offset bytes) h = tt
event_printed c (Get client offset length) h = tt
event_printed c (Next client) h = tt
