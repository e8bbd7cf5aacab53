-- The forms have the fields of messages' texts, and no others.
use Rattle.std.proofs.Common.{◌≡◌, lit<, lit≤, ℕ, zero, suc, get_or, ◌^◌, ◌<◌, Bool, true, false, not, List, [], ◌∷◌, ◌++◌, length, Option, Some, None, Result, Ok, Err, refl, sym, ap, ◌∙◌, arith, inl, inr, ◌⊎◌}
use Rattle.std.specs.Prelude.{codes, decimal, IsErrAnd, ◌↔◌}
use Rattle.std.specs.List.{list_any, AllByRecursion}
use Rattle.std.specs.Str.{bytes_eq}
use Rattle.std.proofs.Math.Bool.{or-true}
use Rattle.std.proofs.lemmas.Bool.{cases_Bool, both_ways, and_parts, or_cases}
use Rattle.std.proofs.lemmas.Slice.Eq.{bytes_eq-Decides}
use Rattle.text_lines.specs.Lines.{fields_of}
use Rattle.text_lines.proofs.lemmas.Joined.{line_from_fields, some_part}
use Rattle.stamp_order.specs.declared.Bound.TheVariants.{All as Every, AtMost, Below}
use Rattle.wire_forms.specs.declared.message.Version.{Version}
use Rattle.wire_forms.specs.declared.message.Request.{Request}
use Rattle.wire_forms.specs.declared.message.Request.TheVariants.{Time, Read, Write}
use Rattle.wire_forms.specs.declared.message.Reason.{Reason}
use Rattle.wire_forms.specs.declared.message.Reason.TheVariants.{BadBlock, BadLength, TimeZero, BadVerifier, BadDigest}
use Rattle.wire_forms.specs.declared.message.Reply.{Reply}
use Rattle.wire_forms.specs.declared.message.Reply.TheVariants.{TimeIs, Found, Nothing, Ack, Refused}
use Rattle.wire_forms.specs.declared.message.Body.{Body}
use Rattle.wire_forms.specs.declared.message.Body.TheVariants.{Ask as Asks, Answer as Answers}
use Rattle.wire_forms.specs.declared.message.Message.{Message}
use Rattle.message_texts.specs.Texts.{IsVersion, IsRequest, IsReply, IsBody, IsMessage, IsText, version_fields, request_fields, reply_fields, reason_text, message_fields, text_of}
use Rattle.message_texts.proofs.lemmas.Fields.{fields-text_of}
use Rattle.line_forms.specs.Tables.{Gives, first_of}
use Rattle.line_forms.specs.declared.cause.Cause.{Cause}
use Rattle.line_forms.specs.declared.cause.Cause.TheVariants.{WrongCount, BadMessage}
use Rattle.line_forms.specs.declared.refusal.LineRefusal.{LineRefusal}
use Rattle.line_forms.specs.declared.refusal.LineRefusal.TheVariants as line_refusals
use Rattle.event_lines.specs.Forms.{message_cause, messages_of}
use Rattle.event_lines.specs.Messages.{Part, is_part, are_parts, are_of, ask, answer, version, reasons, ask_forms, answer_forms, is_ask, is_answer}
use Rattle.event_lines.specs.Messages.Part.{word, number, stamp, value}
use Rattle.event_lines.specs.Words.{Speech}
use Rattle.event_lines.specs.declared.word.Speech.TheVariants.{Lie, Tell, Poke}
use Rattle.event_lines.proofs.Parts.{word_spelled, number_spelled, stamp_spelled, fragment_part, sum_part, is_word, is_number, is_stamp_text, is_fragment_text, is_sum_text}

-- ---- fields one by one

abbrev First : Part → List Part → List (List ℕ) → Type 0
First part form fields = (field : List ℕ) × (rest : List (List ℕ)) × (fields ≡ field ∷ rest) × (is_part part field ≡ true) × (are_parts form rest ≡ true)

first : (part : Part) (form : List Part) (fields : List (List ℕ)) → are_parts (part ∷ form) fields ≡ true → First part form fields
first part form [] h = absurd cc
first part form (field ∷ rest) h = let both = and_parts (is_part part field) (are_parts form rest) h in (field, rest, refl, both.0, both.1)

-- the first field, and those after it
next : {fields rest more : List (List ℕ)} {field text : List ℕ} → fields ≡ field ∷ rest → field ≡ text → rest ≡ more → fields ≡ text ∷ more
next a b c = cc

none_left : (fields : List (List ℕ)) → are_parts [] fields ≡ true → fields ≡ []
none_left [] h = refl
none_left (field ∷ fields) h = absurd cc

-- the fields of what all messages begin with
pub record Front (head : List ℕ) (form : List Part) (fields : List (List ℕ)) : Type 0 where
  client : ℕ
  node : ℕ
  op : ℕ
  phase : ℕ
  rest : List (List ℕ)
  client_small : client < 2 ^ 32
  node_small : node < 2 ^ 8
  op_small : op < 2 ^ 64
  phase_small : phase < 2 ^ 64
  are : fields ≡ head ∷ decimal client ∷ decimal node ∷ decimal op ∷ decimal phase ∷ rest
  more : are_parts form rest ≡ true

front : (head : List ℕ) (form : List Part) (fields : List (List ℕ)) → are_parts (word (head ∷ []) ∷ number (2 ^ 32) ∷ number (2 ^ 8) ∷ number (2 ^ 64) ∷ number (2 ^ 64) ∷ form) fields ≡ true → Front head form fields
front head form fields h =
    let a = first (word (head ∷ [])) (number (2 ^ 32) ∷ number (2 ^ 8) ∷ number (2 ^ 64) ∷ number (2 ^ 64) ∷ form) fields h in
    let b = first (number (2 ^ 32)) (number (2 ^ 8) ∷ number (2 ^ 64) ∷ number (2 ^ 64) ∷ form) a.1 a.4 in
    let c = first (number (2 ^ 8)) (number (2 ^ 64) ∷ number (2 ^ 64) ∷ form) b.1 b.4 in
    let d = first (number (2 ^ 64)) (number (2 ^ 64) ∷ form) c.1 c.4 in
    let e = first (number (2 ^ 64)) form d.1 d.4 in
    let w = word_spelled head a.0 a.3 in
    let client = number_spelled (2 ^ 32) b.0 b.3 in
    let node = number_spelled (2 ^ 8) c.0 c.3 in
    let op = number_spelled (2 ^ 64) d.0 d.3 in
    let phase = number_spelled (2 ^ 64) e.0 e.3 in
    record {
      client = client.0;
      node = node.0;
      op = op.0;
      phase = phase.0;
      rest = e.1;
      client_small = client.1;
      node_small = node.1;
      op_small = op.1;
      phase_small = phase.1;
      are = next a.2 w (next b.2 client.2 (next c.2 node.2 (next d.2 op.2 (next e.2 phase.2 refl))));
      more = e.4;
    }

-- ---- what the forms spell

version_told : (fields : List (List ℕ)) → are_parts version fields ≡ true → (v : Version) × IsVersion v × (fields ≡ version_fields v)
version_told fields h =
    let a = first stamp (value 32 1024 ∷ value 1 16384 ∷ []) fields h in
    let b = first (value 32 1024) (value 1 16384 ∷ []) a.1 a.4 in
    let c = first (value 1 16384) [] b.1 b.4 in
    let s = stamp_spelled a.0 a.3 in
    let sum = sum_part b.0 b.3 in
    let f = fragment_part c.0 c.3 in (
      record { stamp = s.0; sum = sum.0; fragment = f.0 },
      record { stamp = s.1; sum = sum.1; fragment = f.1 },
      next a.2 s.2 (next b.2 sum.2 (next c.2 f.2 (none_left c.1 c.4))),
    )

-- a request whose fields these are
abbrev Requests : List (List ℕ) → Type 0
Requests fields = (r : Request) × IsRequest r × (fields ≡ request_fields r)

-- an answer whose fields these are
abbrev Replies : List (List ℕ) → Type 0
Replies fields = (r : Reply) × IsReply r × (fields ≡ reply_fields r)

time_told : (fields : List (List ℕ)) → are_parts (word (codes "time" ∷ []) ∷ []) fields ≡ true → Requests fields
time_told fields h =
    let a = first (word (codes "time" ∷ [])) [] fields h in
    (Time, tt, next a.2 (word_spelled (codes "time") a.0 a.3) (none_left a.1 a.4))

all_told : (fields : List (List ℕ)) → are_parts (word (codes "read" ∷ []) ∷ word (codes "all" ∷ []) ∷ []) fields ≡ true → Requests fields
all_told fields h =
    let a = first (word (codes "read" ∷ [])) (word (codes "all" ∷ []) ∷ []) fields h in
    let b = first (word (codes "all" ∷ [])) [] a.1 a.4 in
    (Read Every, tt, next a.2 (word_spelled (codes "read") a.0 a.3) (next b.2 (word_spelled (codes "all") b.0 b.3) (none_left b.1 b.4)))

at_most_told : (fields : List (List ℕ)) → are_parts (word (codes "read" ∷ []) ∷ word (codes "atmost" ∷ []) ∷ stamp ∷ []) fields ≡ true → Requests fields
at_most_told fields h =
    let a = first (word (codes "read" ∷ [])) (word (codes "atmost" ∷ []) ∷ stamp ∷ []) fields h in
    let b = first (word (codes "atmost" ∷ [])) (stamp ∷ []) a.1 a.4 in
    let c = first stamp [] b.1 b.4 in
    let s = stamp_spelled c.0 c.3 in
    (Read (AtMost s.0), s.1, next a.2 (word_spelled (codes "read") a.0 a.3) (next b.2 (word_spelled (codes "atmost") b.0 b.3) (next c.2 s.2 (none_left c.1 c.4))))

below_told : (fields : List (List ℕ)) → are_parts (word (codes "read" ∷ []) ∷ word (codes "below" ∷ []) ∷ stamp ∷ []) fields ≡ true → Requests fields
below_told fields h =
    let a = first (word (codes "read" ∷ [])) (word (codes "below" ∷ []) ∷ stamp ∷ []) fields h in
    let b = first (word (codes "below" ∷ [])) (stamp ∷ []) a.1 a.4 in
    let c = first stamp [] b.1 b.4 in
    let s = stamp_spelled c.0 c.3 in
    (Read (Below s.0), s.1, next a.2 (word_spelled (codes "read") a.0 a.3) (next b.2 (word_spelled (codes "below") b.0 b.3) (next c.2 s.2 (none_left c.1 c.4))))

write_told : (fields : List (List ℕ)) → are_parts (word (codes "write" ∷ []) ∷ version) fields ≡ true → Requests fields
write_told fields h =
    let a = first (word (codes "write" ∷ [])) version fields h in
    let v = version_told a.1 a.4 in
    (Write v.0, v.1, next a.2 (word_spelled (codes "write") a.0 a.3) v.2)

time_is_told : (fields : List (List ℕ)) → are_parts (word (codes "time" ∷ []) ∷ number (2 ^ 64) ∷ []) fields ≡ true → Replies fields
time_is_told fields h =
    let a = first (word (codes "time" ∷ [])) (number (2 ^ 64) ∷ []) fields h in
    let b = first (number (2 ^ 64)) [] a.1 a.4 in
    let n = number_spelled (2 ^ 64) b.0 b.3 in
    (TimeIs n.0, n.1, next a.2 (word_spelled (codes "time") a.0 a.3) (next b.2 n.2 (none_left b.1 b.4)))

found_told : (fields : List (List ℕ)) → are_parts (word (codes "found" ∷ []) ∷ version) fields ≡ true → Replies fields
found_told fields h =
    let a = first (word (codes "found" ∷ [])) version fields h in
    let v = version_told a.1 a.4 in
    (Found v.0, v.1, next a.2 (word_spelled (codes "found") a.0 a.3) v.2)

nothing_told : (fields : List (List ℕ)) → are_parts (word (codes "nothing" ∷ []) ∷ []) fields ≡ true → Replies fields
nothing_told fields h =
    let a = first (word (codes "nothing" ∷ [])) [] fields h in
    (Nothing, tt, next a.2 (word_spelled (codes "nothing") a.0 a.3) (none_left a.1 a.4))

ack_told : (fields : List (List ℕ)) → are_parts (word (codes "ack" ∷ []) ∷ []) fields ≡ true → Replies fields
ack_told fields h =
    let a = first (word (codes "ack" ∷ [])) [] fields h in
    (Ack, tt, next a.2 (word_spelled (codes "ack") a.0 a.3) (none_left a.1 a.4))

-- one of the reasons has this digit
reason_told : (field : List ℕ) → is_part reasons field ≡ true → (r : Reason) × (field ≡ reason_text r)
reason_told field h =
    elim (cases_Bool (bytes_eq field (codes "1"))) [
      | inl e ↦ (BadBlock, (bytes_eq-Decides field (codes "1")).0 e)
      | inr e1 ↦ elim (cases_Bool (bytes_eq field (codes "2"))) [
        | inl e ↦ (BadLength, (bytes_eq-Decides field (codes "2")).0 e)
        | inr e2 ↦ elim (cases_Bool (bytes_eq field (codes "3"))) [
          | inl e ↦ (TimeZero, (bytes_eq-Decides field (codes "3")).0 e)
          | inr e3 ↦ elim (cases_Bool (bytes_eq field (codes "4"))) [
            | inl e ↦ (BadVerifier, (bytes_eq-Decides field (codes "4")).0 e)
            | inr e4 ↦
                let last : list_any (λ w. bytes_eq field w) (codes "5" ∷ []) ≡ true = rw (e1, e2, e3, e4) at h in
                (BadDigest, word_spelled (codes "5") field last)
          ]
        ]
      ]
    ]

refused_told : (fields : List (List ℕ)) → are_parts (word (codes "refused" ∷ []) ∷ reasons ∷ []) fields ≡ true → Replies fields
refused_told fields h =
    let a = first (word (codes "refused" ∷ [])) (reasons ∷ []) fields h in
    let b = first reasons [] a.1 a.4 in
    let r = reason_told b.0 b.3 in
    (Refused r.0, tt, next a.2 (word_spelled (codes "refused") a.0 a.3) (next b.2 r.1 (none_left b.1 b.4)))

-- ---- whole messages

-- an ask whose fields these are
abbrev pub Asked : List (List ℕ) → Type 0
Asked fields = (m : Message) × IsMessage m × (is_ask m.body ≡ true) × (fields ≡ message_fields m)

-- an answer whose fields these are
abbrev pub Answered : List (List ℕ) → Type 0
Answered fields = (m : Message) × IsMessage m × (is_answer m.body ≡ true) × (fields ≡ message_fields m)

ask_told : (request : List Part) (fields : List (List ℕ)) → are_parts (ask request) fields ≡ true → ((rest : List (List ℕ)) → are_parts request rest ≡ true → Requests rest) → Asked fields
ask_told request fields h told =
    let f = front (codes "ask") (number (2 ^ 32) ∷ request) fields h in
    let a = first (number (2 ^ 32)) request f.rest f.more in
    let n = number_spelled (2 ^ 32) a.0 a.3 in
    let r = told a.1 a.4 in (
      record { client = f.client; node = f.node; tag = record { op = f.op; phase = f.phase }; body = Asks (record { block = n.0; request = r.0 }) },
      record { client = f.client_small; node = f.node_small; op = f.op_small; phase = f.phase_small; body = record { block = n.1; request = r.1 } },
      refl,
      f.are ∙ ap (λ (x : List (List ℕ)). codes "ask" ∷ decimal f.client ∷ decimal f.node ∷ decimal f.op ∷ decimal f.phase ∷ x) (next a.2 n.2 r.2),
    )

answer_told : (reply : List Part) (fields : List (List ℕ)) → are_parts (answer reply) fields ≡ true → ((rest : List (List ℕ)) → are_parts reply rest ≡ true → Replies rest) → Answered fields
answer_told reply fields h told =
    let f = front (codes "answer") reply fields h in
    let r = told f.rest f.more in (
      record { client = f.client; node = f.node; tag = record { op = f.op; phase = f.phase }; body = Answers r.0 },
      record { client = f.client_small; node = f.node_small; op = f.op_small; phase = f.phase_small; body = r.1 },
      refl,
      f.are ∙ ap (λ (x : List (List ℕ)). codes "answer" ∷ decimal f.client ∷ decimal f.node ∷ decimal f.op ∷ decimal f.phase ∷ x) r.2,
    )

-- a form of the list has the fields, or none has
pub first_form : (form : List Part) (forms : List (List Part)) (fields : List (List ℕ)) → are_of (form ∷ forms) fields ≡ true → (are_parts form fields ≡ true) ⊎ (are_of forms fields ≡ true)
first_form form forms fields h = or_cases (are_parts form fields) (are_of forms fields) h

any_ask : (forms : List (List Part)) (fields : List (List ℕ)) → are_of forms fields ≡ true → AllByRecursion (λ form. are_parts form fields ≡ true → Asked fields) forms → Asked fields
any_ask [] fields h told = absurd cc
any_ask (form ∷ forms) fields h told = elim (first_form form forms fields h) [ inl e ↦ told.0 e | inr e ↦ any_ask forms fields e told.1 ]

any_answer : (forms : List (List Part)) (fields : List (List ℕ)) → are_of forms fields ≡ true → AllByRecursion (λ form. are_parts form fields ≡ true → Answered fields) forms → Answered fields
any_answer [] fields h told = absurd cc
any_answer (form ∷ forms) fields h told = elim (first_form form forms fields h) [ inl e ↦ told.0 e | inr e ↦ any_answer forms fields e told.1 ]

-- fields of the forms of asks are those of an ask
pub asked : (fields : List (List ℕ)) → are_of ask_forms fields ≡ true → Asked fields
asked fields h =
    any_ask ask_forms fields h (
      (λ e. ask_told (word (codes "time" ∷ []) ∷ []) fields e time_told),
      (
        (λ e. ask_told (word (codes "read" ∷ []) ∷ word (codes "all" ∷ []) ∷ []) fields e all_told),
        (
          (λ e. ask_told (word (codes "read" ∷ []) ∷ word (codes "atmost" ∷ []) ∷ stamp ∷ []) fields e at_most_told),
          (
            (λ e. ask_told (word (codes "read" ∷ []) ∷ word (codes "below" ∷ []) ∷ stamp ∷ []) fields e below_told),
            ((λ e. ask_told (word (codes "write" ∷ []) ∷ version) fields e write_told), tt),
          ),
        ),
      ),
    )

-- fields of the forms of answers are those of an answer
pub answered : (fields : List (List ℕ)) → are_of answer_forms fields ≡ true → Answered fields
answered fields h =
    any_answer answer_forms fields h (
      (λ e. answer_told (word (codes "time" ∷ []) ∷ number (2 ^ 64) ∷ []) fields e time_is_told),
      (
        (λ e. answer_told (word (codes "found" ∷ []) ∷ version) fields e found_told),
        (
          (λ e. answer_told (word (codes "nothing" ∷ []) ∷ []) fields e nothing_told),
          (
            (λ e. answer_told (word (codes "ack" ∷ []) ∷ []) fields e ack_told),
            ((λ e. answer_told (word (codes "refused" ∷ []) ∷ reasons ∷ []) fields e refused_told), tt),
          ),
        ),
      ),
    )

-- ---- the other way round

front_has : (head : List ℕ) (form : List Part) (client node op phase : ℕ) (rest : List (List ℕ)) → client < 2 ^ 32 → node < 2 ^ 8 → op < 2 ^ 64 → phase < 2 ^ 64 → are_parts form rest ≡ true
    → are_parts (word (head ∷ []) ∷ number (2 ^ 32) ∷ number (2 ^ 8) ∷ number (2 ^ 64) ∷ number (2 ^ 64) ∷ form) (head ∷ decimal client ∷ decimal node ∷ decimal op ∷ decimal phase ∷ rest) ≡ true
front_has head form client node op phase rest a b c d more =
    rw (is_word head, is_number (2 ^ 32) client (lit≤ tt) a, is_number (2 ^ 8) node (lit≤ tt) b, is_number (2 ^ 64) op (lit≤ tt) c, is_number (2 ^ 64) phase (lit≤ tt) d) more

version_has : (v : Version) → IsVersion v → are_parts version (version_fields v) ≡ true
version_has v h = rw (is_stamp_text v.stamp h.stamp, is_sum_text v.sum h.sum, is_fragment_text v.fragment h.fragment) refl

ask_has : (m : Message) (block : ℕ) (r : Request) (request : List Part) → IsMessage m → m.body ≡ Asks (record { block = block; request = r }) → block < 2 ^ 32 → are_parts request (request_fields r) ≡ true → are_parts (ask request) (message_fields m) ≡ true
ask_has m block r request h e small more =
    rw e (front_has (codes "ask") (number (2 ^ 32) ∷ request) m.client m.node m.tag.op m.tag.phase (decimal block ∷ request_fields r) h.client h.node h.op h.phase (rw (is_number (2 ^ 32) block (lit≤ tt) small) more))

answer_has : (m : Message) (r : Reply) (reply : List Part) → IsMessage m → m.body ≡ Answers r → are_parts reply (reply_fields r) ≡ true → are_parts (answer reply) (message_fields m) ≡ true
answer_has m r reply h e more = rw e (front_has (codes "answer") reply m.client m.node m.tag.op m.tag.phase (reply_fields r) h.client h.node h.op h.phase more)

-- some form of the list has the fields
here : (form : List Part) (forms : List (List Part)) (fields : List (List ℕ)) → are_parts form fields ≡ true → are_of (form ∷ forms) fields ≡ true
here form forms fields h = rw h refl

later : (form : List Part) (forms : List (List Part)) (fields : List (List ℕ)) → are_of forms fields ≡ true → are_of (form ∷ forms) fields ≡ true
later form forms fields h = rw h (or-true _)

-- the form at a place of the list has the fields
nth : (forms : List (List Part)) (place : ℕ) (form : List Part) (fields : List (List ℕ)) → place < length forms → get_or forms place [] ≡ form → are_parts form fields ≡ true → are_of forms fields ≡ true
nth [] place form fields lt e h = absurd (omega arith)
nth (first ∷ forms) zero form fields lt e h = here first forms fields (rw e h)
nth (first ∷ forms) (suc place) form fields lt e h = later first forms fields (nth forms place form fields (omega arith) e h)

-- the message asks this
ask_of : (m : Message) (block : ℕ) (r : Request) → IsMessage m → m.body ≡ Asks (record { block = block; request = r }) → (block < 2 ^ 32) → IsRequest r → are_of ask_forms (message_fields m) ≡ true
ask_of m block Time h e small req = nth ask_forms 0 _ (message_fields m) (lit< tt) refl (ask_has m block Time (word (codes "time" ∷ []) ∷ []) h e small refl)
ask_of m block (Read Every) h e small req =
    nth ask_forms 1 _ (message_fields m) (lit< tt) refl (ask_has m block (Read Every) (word (codes "read" ∷ []) ∷ word (codes "all" ∷ []) ∷ []) h e small refl)
ask_of m block (Read (AtMost s)) h e small req =
    nth ask_forms 2 _ (message_fields m) (lit< tt) refl
    (ask_has m block (Read (AtMost s)) (word (codes "read" ∷ []) ∷ word (codes "atmost" ∷ []) ∷ stamp ∷ []) h e small (rw (is_stamp_text s req) refl))
ask_of m block (Read (Below s)) h e small req =
    nth ask_forms 3 _ (message_fields m) (lit< tt) refl
    (ask_has m block (Read (Below s)) (word (codes "read" ∷ []) ∷ word (codes "below" ∷ []) ∷ stamp ∷ []) h e small (rw (is_stamp_text s req) refl))
ask_of m block (Write v) h e small req =
    nth ask_forms 4 _ (message_fields m) (lit< tt) refl (ask_has m block (Write v) (word (codes "write" ∷ []) ∷ version) h e small (version_has v req))

reason_has : (r : Reason) → is_part reasons (reason_text r) ≡ true
reason_has BadBlock = refl
reason_has BadLength = refl
reason_has TimeZero = refl
reason_has BadVerifier = refl
reason_has BadDigest = refl

-- the message answers this
answer_of : (m : Message) (r : Reply) → IsMessage m → m.body ≡ Answers r → IsReply r → are_of answer_forms (message_fields m) ≡ true
answer_of m (TimeIs time) h e rep =
    nth answer_forms 0 _ (message_fields m) (lit< tt) refl (answer_has m (TimeIs time) (word (codes "time" ∷ []) ∷ number (2 ^ 64) ∷ []) h e (rw (is_number (2 ^ 64) time (lit≤ tt) rep) refl))
answer_of m (Found v) h e rep = nth answer_forms 1 _ (message_fields m) (lit< tt) refl (answer_has m (Found v) (word (codes "found" ∷ []) ∷ version) h e (version_has v rep))
answer_of m Nothing h e rep = nth answer_forms 2 _ (message_fields m) (lit< tt) refl (answer_has m Nothing (word (codes "nothing" ∷ []) ∷ []) h e refl)
answer_of m Ack h e rep = nth answer_forms 3 _ (message_fields m) (lit< tt) refl (answer_has m Ack (word (codes "ack" ∷ []) ∷ []) h e refl)
answer_of m (Refused r) h e rep =
    nth answer_forms 4 _ (message_fields m) (lit< tt) refl (answer_has m (Refused r) (word (codes "refused" ∷ []) ∷ reasons ∷ []) h e (rw (reason_has r) refl))

-- the fields of an ask are of the forms of asks
pub ask_fits : (m : Message) → IsMessage m → is_ask m.body ≡ true → are_of ask_forms (message_fields m) ≡ true
ask_fits m h is = by_cases m.body refl is h.body
  where
    by_cases : (b : Body) → m.body ≡ b → is_ask b ≡ true → IsBody b → are_of ask_forms (message_fields m) ≡ true
    by_cases (Asks ask) e t body = ask_of m ask.block ask.request h e body.block body.request
    by_cases (Answers reply) e t body = absurd cc

pub answer_fits : (m : Message) → IsMessage m → is_answer m.body ≡ true → are_of answer_forms (message_fields m) ≡ true
answer_fits m h is = by_cases m.body refl is h.body
  where
    by_cases : (b : Body) → m.body ≡ b → is_answer b ≡ true → IsBody b → are_of answer_forms (message_fields m) ≡ true
    by_cases (Asks ask) e t body = absurd cc
    by_cases (Answers reply) e t body = answer_of m reply h e body

-- ---- any message

front_fits : (forms more : List (List Part)) (fields : List (List ℕ)) → are_of forms fields ≡ true → are_of (forms ++ more) fields ≡ true
front_fits [] more fields h = absurd cc
front_fits (form ∷ forms) more fields h =
    elim (first_form form forms fields h) [ inl e ↦ here form (forms ++ more) fields e | inr e ↦ later form (forms ++ more) fields (front_fits forms more fields e) ]

back_fits : (forms more : List (List Part)) (fields : List (List ℕ)) → are_of more fields ≡ true → are_of (forms ++ more) fields ≡ true
back_fits [] more fields h = h
back_fits (form ∷ forms) more fields h = later form (forms ++ more) fields (back_fits forms more fields h)

either_fits : (forms more : List (List Part)) (fields : List (List ℕ)) → are_of (forms ++ more) fields ≡ true → (are_of forms fields ≡ true) ⊎ (are_of more fields ≡ true)
either_fits [] more fields h = inr h
either_fits (form ∷ forms) more fields h =
    elim (first_form form (forms ++ more) fields h) [
      | inl e ↦ inl (here form forms fields e)
      | inr e ↦ elim (either_fits forms more fields e) [ inl f ↦ inl (later form forms fields f) | inr f ↦ inr f ]
    ]

pub any_fits : (m : Message) → IsMessage m → are_of (ask_forms ++ answer_forms) (message_fields m) ≡ true
any_fits m h = by_cases m.body refl
  where
    by_cases : (b : Body) → m.body ≡ b → are_of (ask_forms ++ answer_forms) (message_fields m) ≡ true
    by_cases (Asks ask) e = front_fits ask_forms answer_forms (message_fields m) (ask_fits m h (ap is_ask e))
    by_cases (Answers reply) e = back_fits ask_forms answer_forms (message_fields m) (answer_fits m h (ap is_answer e))

-- ---- what is wrong with a text

-- the text of a message was read
pub message_read : (text : List ℕ) (m : Message) → IsMessage m → text ≡ text_of m → (message_cause (ask_forms ++ answer_forms) (fields_of text) ≡ None) × (IsMessage m × (message_fields m ≡ fields_of text))
message_read text m h e =
    let fields : fields_of text ≡ message_fields m = ap fields_of e ∙ fields-text_of m h in
    let none : message_cause (ask_forms ++ answer_forms) (message_fields m) ≡ None = told (any_fits m h) in
    (ap (message_cause (ask_forms ++ answer_forms)) fields ∙ none, (h, sym fields))
  where
    told : are_of (ask_forms ++ answer_forms) (message_fields m) ≡ true → message_cause (ask_forms ++ answer_forms) (message_fields m) ≡ None
    told is = rw is refl

text_of_fields : (text : List ℕ) (m : Message) → IsMessage m → fields_of text ≡ message_fields m → IsText text
text_of_fields text m h e = (m, h, line_from_fields text (message_fields m) e)

some_fields : (forms : List (List Part)) (fields : List (List ℕ)) → (fields ≡ [] → ⊥) → are_of forms fields ≡ false → message_cause forms fields ≡ Some BadMessage
some_fields forms [] some h = absurd (some refl)
some_fields forms (field ∷ fields) some h = rw h refl

-- no message has the text
pub no_message : (text : List ℕ) → ¬ IsText text → message_cause (ask_forms ++ answer_forms) (fields_of text) ≡ Some BadMessage
no_message text none =
    elim (cases_Bool (are_of (ask_forms ++ answer_forms) (fields_of text))) [
      | inl is ↦ elim (either_fits ask_forms answer_forms (fields_of text) is) [
        | inl e ↦ let a = asked (fields_of text) e in absurd (none (text_of_fields text a.0 a.1 a.3))
        | inr e ↦ let a = answered (fields_of text) e in absurd (none (text_of_fields text a.0 a.1 a.3))
      ]
      | inr not ↦ some_fields (ask_forms ++ answer_forms) (fields_of text) (some_part 32 text) not
    ]

-- ---- messages of one kind

none_of_front : (forms more : List (List Part)) (fields : List (List ℕ)) → are_of (forms ++ more) fields ≡ false → are_of forms fields ≡ false
none_of_front forms more fields h =
    elim (cases_Bool (are_of forms fields)) [ inl is ↦ absurd (both_ways (are_of (forms ++ more) fields) h (front_fits forms more fields is)) | inr not ↦ not ]

none_of_back : (forms more : List (List Part)) (fields : List (List ℕ)) → are_of (forms ++ more) fields ≡ false → are_of more fields ≡ false
none_of_back forms more fields h =
    elim (cases_Bool (are_of more fields)) [ inl is ↦ absurd (both_ways (are_of (forms ++ more) fields) h (back_fits forms more fields is)) | inr not ↦ not ]

-- no message of this kind has the fields, where none has them
none_spoken : (speech : Speech) (fields : List (List ℕ)) → are_of (ask_forms ++ answer_forms) fields ≡ false → are_of (messages_of speech) fields ≡ false
none_spoken Lie fields h = h
none_spoken Tell fields h = none_of_back ask_forms answer_forms fields h
none_spoken Poke fields h = none_of_front ask_forms answer_forms fields h

if_none : (b : Bool) (cause : Cause) → first_of ((false, WrongCount) ∷ (not b, BadMessage) ∷ []) ≡ Some cause → (b ≡ false) × (Some BadMessage ≡ Some cause)
if_none true cause h = absurd cc
if_none false cause h = (refl, h)

-- what is wrong with a message is wrong with one of a kind
pub speech_cause : (speech : Speech) (fields : List (List ℕ)) (cause : Cause) → message_cause (ask_forms ++ answer_forms) fields ≡ Some cause → message_cause (messages_of speech) fields ≡ Some cause
speech_cause speech [] cause h = h
speech_cause speech (field ∷ fields) cause h =
    let none = if_none (are_of (ask_forms ++ answer_forms) (field ∷ fields)) cause h in
    some_fields (messages_of speech) (field ∷ fields) (λ e. absurd cc) (none_spoken speech (field ∷ fields) none.0) ∙ none.1

pub speech_refused : {X Y : Type 0} (P : X → Type 0) (Q : Y → Type 0) (speech : Speech) (fields : List (List ℕ)) (r : LineRefusal) → Gives P (message_cause (ask_forms ++ answer_forms) fields) (Err r) → Gives Q (message_cause (messages_of speech) fields) (Err r)
speech_refused P Q speech fields line_refusals.NoMemory h = tt
speech_refused P Q speech fields (line_refusals.Cause cause) h = speech_cause speech fields cause h

-- a refusal that `?` gives on
pub given_on : {X : Type 0} (P : X → Type 0) (cause : Option Cause) (result : Result X LineRefusal) (r : LineRefusal) → IsErrAnd result (λ e. e ≡ r) → Gives P cause (Err r) → Gives P cause result
given_on P cause (Ok x) r is h = absurd is
given_on P cause (Err e) r is h = rw is h

-- ---- the texts that the forms have

pub ask_texts : (text : List ℕ) → (are_of ask_forms (fields_of text) ≡ true) ↔ ((m : Message) × IsMessage m × (is_ask m.body ≡ true) × (text ≡ text_of m))
ask_texts text = (
  λ is. let a = asked (fields_of text) is in (a.0, a.1, a.2, line_from_fields text (message_fields a.0) a.3),
  λ a. ap (are_of ask_forms) (ap fields_of a.3 ∙ fields-text_of a.0 a.1) ∙ ask_fits a.0 a.1 a.2,
)

pub answer_texts : (text : List ℕ) → (are_of answer_forms (fields_of text) ≡ true) ↔ ((m : Message) × IsMessage m × (is_answer m.body ≡ true) × (text ≡ text_of m))
answer_texts text = (
  λ is. let a = answered (fields_of text) is in (a.0, a.1, a.2, line_from_fields text (message_fields a.0) a.3),
  λ a. ap (are_of answer_forms) (ap fields_of a.3 ∙ fields-text_of a.0 a.1) ∙ answer_fits a.0 a.1 a.2,
)
