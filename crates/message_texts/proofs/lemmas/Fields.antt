-- The fields of a message's text, and that each message has a text of its own.
use Rattle.std.proofs.Common.{◌≡◌, lit<, ℕ, ◌-◌, ◌^◌, ◌<◌, ◌≤◌, List, [], ◌∷◌, ◌++◌, length, get_or, take, drop, Bor, Option, Some, None, refl, sym, ap, ◌∙◌, arith}
use Rattle.std.specs.Prelude.{decimal}
use Rattle.std.proofs.lemmas.List.{take_all, length-drop}
use Rattle.hex.specs.Hex.{encode_lower}
use Rattle.cross_sum.specs.Digest.{flat}
use Rattle.text_lines.specs.Fields.{value_text, number_of}
use Rattle.text_lines.specs.Lines.{fields_of, texts, Lacks, AllLack}
use Rattle.text_lines.proofs.lemmas.Joined.{parts-joined, line_from_fields, Lacks-append, Lacks-decimal, Lacks-encode_lower, Lacks-value_text}
use Rattle.text_lines.proofs.lemmas.Numbers.{number_of-some}
use Rattle.stamp_order.specs.declared.Stamp.{Stamp}
use Rattle.stamp_order.specs.declared.Bound.{Bound}
use Rattle.stamp_order.specs.declared.Bound.TheVariants.{All as Every, AtMost, Below}
use Rattle.wire_forms.specs.declared.message.Version.{Version}
use Rattle.wire_forms.specs.declared.message.Request.{Request}
use Rattle.wire_forms.specs.declared.message.Request.TheVariants.{Time, Read, Write}
use Rattle.wire_forms.specs.declared.message.Reason.{Reason}
use Rattle.wire_forms.specs.declared.message.Reason.TheVariants.{BadBlock, BadLength, TimeZero, BadVerifier, BadDigest}
use Rattle.wire_forms.specs.declared.message.Reply.{Reply}
use Rattle.wire_forms.specs.declared.message.Reply.TheVariants.{TimeIs, Found, Nothing, Ack, Refused}
use Rattle.wire_forms.specs.declared.message.Body.{Body}
use Rattle.wire_forms.specs.declared.message.Body.TheVariants.{Ask as Asks, Answer as Answers}
use Rattle.wire_forms.specs.declared.message.Message.{Message}
use Rattle.message_texts.specs.Texts.{Spells, IsStamp, IsVersion, IsBound, IsRequest, IsReply, IsBody, IsMessage, stamp_text, version_fields, bound_fields, request_fields, reason_text, reply_fields, word_of, body_fields, message_fields, text_of}

-- ---- no field has a space

lacks_number : (n : ℕ) → n < 2 ^ 64 → Lacks 32 (decimal n)
lacks_number n lt = Lacks-decimal 32 n (lit< tt) lt

lacks_stamp : (s : Stamp) → IsStamp s → Lacks 32 (stamp_text s)
lacks_stamp s h =
    let client = lacks_number s.client (let c = h.client in omega arith) in
    Lacks-append 32 (decimal s.time ++ 46 ∷ decimal s.client) (46 ∷ encode_lower s.verifier)
    (Lacks-append 32 (decimal s.time) (46 ∷ decimal s.client) (lacks_number s.time h.time) client)
    (Lacks-encode_lower 32 s.verifier (lit< tt) (lit< tt))

lacks_value : (bytes : List ℕ) → Lacks 32 (value_text bytes)
lacks_value bytes = Lacks-value_text 32 bytes (lit< tt) (lit< tt)

lacks_version : (v : Version) → IsVersion v → AllLack 32 (version_fields v)
lacks_version v h = (lacks_stamp v.stamp h.stamp, (lacks_value (flat v.sum), (lacks_value v.fragment, tt)))

lacks_bound : (b : Bound) → IsBound b → AllLack 32 (bound_fields b)
lacks_bound Every h = (refl, tt)
lacks_bound (AtMost s) h = (refl, (lacks_stamp s h, tt))
lacks_bound (Below s) h = (refl, (lacks_stamp s h, tt))

lacks_request : (r : Request) → IsRequest r → AllLack 32 (request_fields r)
lacks_request Time h = (refl, tt)
lacks_request (Read b) h = (refl, lacks_bound b h)
lacks_request (Write v) h = (refl, lacks_version v h)

lacks_reason : (r : Reason) → Lacks 32 (reason_text r)
lacks_reason BadBlock = refl
lacks_reason BadLength = refl
lacks_reason TimeZero = refl
lacks_reason BadVerifier = refl
lacks_reason BadDigest = refl

lacks_reply : (r : Reply) → IsReply r → AllLack 32 (reply_fields r)
lacks_reply (TimeIs time) h = (refl, (lacks_number time h, tt))
lacks_reply (Found v) h = (refl, lacks_version v h)
lacks_reply Nothing h = (refl, tt)
lacks_reply Ack h = (refl, tt)
lacks_reply (Refused r) h = (refl, (lacks_reason r, tt))

lacks_body : (b : Body) → IsBody b → AllLack 32 (body_fields b)
lacks_body (Asks ask) h = (lacks_number ask.block (let c = h.block in omega arith), lacks_request ask.request h.request)
lacks_body (Answers reply) h = lacks_reply reply h

lacks_word : (b : Body) → Lacks 32 (word_of b)
lacks_word (Asks ask) = refl
lacks_word (Answers reply) = refl

lacks_message : (m : Message) → IsMessage m → AllLack 32 (message_fields m)
lacks_message m h =
    let client = lacks_number m.client (let c = h.client in omega arith) in
    let node = lacks_number m.node (let c = h.node in omega arith) in
    (lacks_word m.body, (client, (node, (lacks_number m.tag.op h.op, (lacks_number m.tag.phase h.phase, lacks_body m.body h.body)))))

-- the text comes apart into the fields
pub fields-text_of : (m : Message) → IsMessage m → fields_of (text_of m) ≡ message_fields m
fields-text_of m h = parts-joined 32 (word_of m.body) (decimal m.client ∷ decimal m.node ∷ decimal m.tag.op ∷ decimal m.tag.phase ∷ body_fields m.body) (lacks_message m h)

-- ---- reading

-- what the fields spell, the text spells
pub text_spelled : (text : List ℕ) (o : Option Message) → Spells IsMessage message_fields (fields_of text) o → Spells IsMessage text_of text o
text_spelled text None h = λ m is same. h m is (ap fields_of same ∙ fields-text_of m is)
text_spelled text (Some m) h = (h.0, line_from_fields text (message_fields m) h.1)

five_fields : (xs : List (Bor (List ℕ))) (d : Bor (List ℕ)) → 5 ≤ length xs
    → texts xs ≡ (get_or xs 0 d).now ∷ (get_or xs 1 d).now ∷ (get_or xs 2 d).now ∷ (get_or xs 3 d).now ∷ (get_or xs 4 d).now ∷ texts (drop 5 xs)
five_fields [] d h = absurd (omega arith)
five_fields (a ∷ []) d h = absurd (omega arith)
five_fields (a ∷ b ∷ []) d h = absurd (omega arith)
five_fields (a ∷ b ∷ e ∷ []) d h = absurd (omega arith)
five_fields (a ∷ b ∷ e ∷ f ∷ []) d h = absurd (omega arith)
five_fields (a ∷ b ∷ e ∷ f ∷ g ∷ xs) d h = refl

pub message_spelled : (xs : List (Bor (List ℕ))) (d : Bor (List ℕ)) (client node op phase : ℕ) (body : Body) → 5 ≤ length xs
    → number_of (2 ^ 32) (get_or xs 1 d).now ≡ Some client → number_of (2 ^ 8) (get_or xs 2 d).now ≡ Some node
    → number_of (2 ^ 64) (get_or xs 3 d).now ≡ Some op → number_of (2 ^ 64) (get_or xs 4 d).now ≡ Some phase
    → Spells IsBody (λ b. word_of b ∷ body_fields b) ((get_or xs 0 d).now ∷ texts (take (length xs - 5) (drop 5 xs))) (Some body)
    → Spells IsMessage message_fields (texts xs) (Some (record { client = client; node = node; tag = record { op = op; phase = phase }; body = body }))
message_spelled xs d client node op phase body long c n o p b =
    let c1 = number_of-some (2 ^ 32) (get_or xs 1 d).now client c in
    let n1 = number_of-some (2 ^ 8) (get_or xs 2 d).now node n in
    let o1 = number_of-some (2 ^ 64) (get_or xs 3 d).now op o in
    let p1 = number_of-some (2 ^ 64) (get_or xs 4 d).now phase p in
    let whole : take (length xs - 5) (drop 5 xs) ≡ drop 5 xs = take_all (length xs - 5) (drop 5 xs) (omega (arith, length-drop 5 xs)) in
    let e : texts xs ≡ (get_or xs 0 d).now ∷ (get_or xs 1 d).now ∷ (get_or xs 2 d).now ∷ (get_or xs 3 d).now ∷ (get_or xs 4 d).now ∷ texts (take (length xs - 5) (drop 5 xs)) =
    five_fields xs d long ∙ ap (λ (l : List (Bor (List ℕ))). (get_or xs 0 d).now ∷ (get_or xs 1 d).now ∷ (get_or xs 2 d).now ∷ (get_or xs 3 d).now ∷ (get_or xs 4 d).now ∷ texts l) (sym whole) in
    let w : (get_or xs 0 d).now ≡ word_of body = cc in
    let r : texts (take (length xs - 5) (drop 5 xs)) ≡ body_fields body = cc in
    (record { client = c1.1; node = n1.1; op = o1.1; phase = p1.1; body = b.0 }, e ∙ rw (w, c1.0, n1.0, o1.0, p1.0, r) refl)
