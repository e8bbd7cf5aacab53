-- No field of an event line has a space or a newline.
use Rattle.std.proofs.Common.{◌≡◌, ℕ, ◌^◌, ◌<◌, Bool, true, false, eqb, ltb, leb, ◌≤◌, List, [], ◌∷◌, ◌++◌, refl, arith, inl, inr}
use Rattle.std.specs.Prelude.{codes, decimal}
use Rattle.std.specs.List.{list_any, list_all}
use Rattle.std.specs.Str.{bytes_eq}
use Rattle.std.proofs.lemmas.Bool.{cases_Bool, and_parts, leb-true}
use Rattle.std.proofs.lemmas.Bool.Decides.{nat_tests}
use Rattle.std.proofs.lemmas.Slice.Eq.{bytes_eq-Decides}
use Rattle.hex.specs.Hex.{encode_lower}
use Rattle.quorum_rules.specs.Limits.{Numbers}
use Rattle.text_lines.specs.Lines.{Lacks, AllLack, line_of_fields}
use Rattle.text_lines.specs.Fields.{value_text}
use Rattle.text_lines.proofs.lemmas.Joined.{Lacks-append, Lacks-decimal, Lacks-encode_lower, Lacks-value_text}
use Rattle.text_lines.proofs.lemmas.Values.{value_of-some}
use Rattle.stamp_order.specs.declared.Stamp.{Stamp}
use Rattle.wire_forms.specs.declared.message.Message.{Message}
use Rattle.wire_forms.specs.declared.rule.Rule.{Rule}
use Rattle.wire_forms.specs.declared.rule.Rule.TheVariants.{Silent, Old, Top, Bad}
use Rattle.message_texts.specs.Texts.{IsStamp, IsMessage, stamp_text, message_fields}
use Rattle.run_words.specs.declared.line.Line.{Line}
use Rattle.run_words.specs.declared.line.Line.TheVariants.{Write, Read, Resend, Call, Give, Hear, Lost, CrashNode, CrashClient, Lie, Tell, Poke, False, Sound, Mix, Prune, Back, Restart}
use Rattle.event_lines.specs.declared.line.ReplayLine.{ReplayLine}
use Rattle.event_lines.specs.declared.line.ReplayLine.TheVariants.{Plain, Put, Get, Next}
use Rattle.wire_forms.specs.Liars.{IsClientNumber}
use Rattle.event_lines.specs.Lines.{IsNode, IsBlock, IsEventLine, event_fields, rule_text}
use Rattle.event_lines.specs.Messages.{Part, is_part, are_parts, are_of, ask_forms, answer_forms}
use Rattle.event_lines.specs.Messages.Part.{word, number, stamp, value}
use Rattle.event_lines.proofs.Parts.{number_spelled, stamp_spelled, value_spelled}
use Rattle.event_lines.proofs.Messages.{any_fits, first_form}

-- every byte of the text is above the space, the newline and the point
abbrev is_high : List ℕ → Bool
is_high text = list_all (λ byte. ltb 46 byte) text

pub other_byte : (byte mark : ℕ) → mark < 46 → ltb 46 byte ≡ true → eqb byte mark ≡ false
other_byte byte mark low h = grind (arith, nat_tests)

high_lacks : (mark : ℕ) (text : List ℕ) → mark < 46 → is_high text ≡ true → Lacks mark text
high_lacks mark [] low h = refl
high_lacks mark (byte ∷ text) low h =
    let both = and_parts (ltb 46 byte) (is_high text) h in
    rw (other_byte byte mark low both.0) (high_lacks mark text low both.1)

other_point : (mark : ℕ) → mark < 46 → eqb 46 mark ≡ false
other_point mark low = grind (arith, nat_tests)

-- ---- the fields of messages

abbrev has_high_words : Part → Bool
has_high_words (word words) = list_all is_high words
has_high_words (number limit) = leb limit (2 ^ 64)
has_high_words stamp = true
has_high_words (value group most) = true

module _ (mark : ℕ) (some : 0 < mark) (low : mark < 46) where
  word_lacks : (words : List (List ℕ)) (field : List ℕ) → list_all is_high words ≡ true → list_any (λ w. bytes_eq field w) words ≡ true → Lacks mark field
  word_lacks [] field h is = absurd cc
  word_lacks (w ∷ words) field h is =
      let both = and_parts (is_high w) (list_all is_high words) h in
      elim (cases_Bool (bytes_eq field w)) [
        | inl same ↦ rw ((bytes_eq-Decides field w).0 same) (high_lacks mark w low both.0)
        | inr other ↦ let more : list_any (λ w. bytes_eq field w) words ≡ true = rw other at is in word_lacks words field both.1 more
      ]

  stamp_lacks : (s : Stamp) → IsStamp s → Lacks mark (stamp_text s)
  stamp_lacks s h =
      let k = h.client in
      let point : Lacks mark (46 ∷ []) = rw (other_point mark low) refl in
      Lacks-append mark (decimal s.time ++ (46 ∷ decimal s.client)) (46 ∷ encode_lower s.verifier)
      (Lacks-append mark (decimal s.time) (46 ∷ decimal s.client) (Lacks-decimal mark s.time (omega arith) h.time)
      (Lacks-append mark (46 ∷ []) (decimal s.client) point (Lacks-decimal mark s.client (omega arith) (omega arith))))
      (Lacks-append mark (46 ∷ []) (encode_lower s.verifier) point (Lacks-encode_lower mark s.verifier some (omega arith)))

  part_lacks : (part : Part) (field : List ℕ) → has_high_words part ≡ true → is_part part field ≡ true → Lacks mark field
  part_lacks (word words) field h is = word_lacks words field h is
  part_lacks (number limit) field h is =
      let n = number_spelled limit field is in
      let lt = n.1 in
      let small : limit ≤ 2 ^ 64 = leb-true limit (2 ^ 64) h in
      rw n.2 (Lacks-decimal mark n.0 (omega arith) (omega arith))
  part_lacks stamp field h is =
      let s = stamp_spelled field is in
      rw s.2 (stamp_lacks s.0 s.1)
  part_lacks (value group most) field h is =
      let v = value_spelled group most field is in
      rw (value_of-some field v.0 v.1).0 (Lacks-value_text mark v.0 some (omega arith))

  form_lacks : (form : List Part) (fields : List (List ℕ)) → list_all has_high_words form ≡ true → are_parts form fields ≡ true → AllLack mark fields
  form_lacks [] [] h are = tt
  form_lacks [] (field ∷ fields) h are = absurd cc
  form_lacks (part ∷ form) [] h are = absurd cc
  form_lacks (part ∷ form) (field ∷ fields) h are =
      let high = and_parts (has_high_words part) (list_all has_high_words form) h in
      let both = and_parts (is_part part field) (are_parts form fields) are in
      (part_lacks part field high.0 both.0, form_lacks form fields high.1 both.1)

  forms_lack : (forms : List (List Part)) (fields : List (List ℕ)) → list_all (λ form. list_all has_high_words form) forms ≡ true → are_of forms fields ≡ true → AllLack mark fields
  forms_lack [] fields h are = absurd cc
  forms_lack (form ∷ forms) fields h are =
      let high = and_parts (list_all has_high_words form) (list_all (λ form. list_all has_high_words form) forms) h in
      elim (first_form form forms fields are) [ inl e ↦ form_lacks form fields high.0 e | inr e ↦ forms_lack forms fields high.1 e ]

  message_lacks : (m : Message) → IsMessage m → AllLack mark (message_fields m)
  message_lacks m h = forms_lack (ask_forms ++ answer_forms) (message_fields m) refl (any_fits m h)

  -- ---- the fields of event lines

  number_lacks : (n : ℕ) → n < 2 ^ 64 → Lacks mark (decimal n)
  number_lacks n lt = Lacks-decimal mark n (omega arith) lt

  client_lacks : (n : ℕ) → IsClientNumber n → Lacks mark (decimal n)
  client_lacks n h = number_lacks n (omega arith)

  node_lacks : (c : Numbers) (n : ℕ) → IsNode c n → Lacks mark (decimal n)
  node_lacks c n h = number_lacks n (omega arith)

  block_lacks : (c : Numbers) (n : ℕ) → IsBlock c n → Lacks mark (decimal n)
  block_lacks c n h = number_lacks n (omega arith)

  value_lacks : (v : List ℕ) → Lacks mark (value_text v)
  value_lacks v = Lacks-value_text mark v some (omega arith)

  rule_lacks : (r : Rule) → Lacks mark (rule_text r)
  rule_lacks Silent = high_lacks mark (codes "silent") low refl
  rule_lacks Old = high_lacks mark (codes "old") low refl
  rule_lacks Top = high_lacks mark (codes "top") low refl
  rule_lacks Bad = high_lacks mark (codes "bad") low refl

  line_lacks : (c : Numbers) (l : Line) → IsEventLine c (Plain l) → AllLack mark (event_fields (Plain l))
  line_lacks c (Write client block v) h = (high_lacks mark (codes "write") low refl, (client_lacks client h.0, (block_lacks c block h.1, (value_lacks v, tt))))
  line_lacks c (Read client block) h = (high_lacks mark (codes "read") low refl, (client_lacks client h.0, (block_lacks c block h.1, tt)))
  line_lacks c (Resend client) h = (high_lacks mark (codes "resend") low refl, (client_lacks client h, tt))
  line_lacks c (Call client node) h = (high_lacks mark (codes "call") low refl, (client_lacks client h.0, (node_lacks c node h.1, tt)))
  line_lacks c (Give node message) h = (high_lacks mark (codes "give") low refl, (node_lacks c node h.0, (number_lacks message h.1, tt)))
  line_lacks c (Hear client message) h = (high_lacks mark (codes "hear") low refl, (client_lacks client h.0, (number_lacks message h.1, tt)))
  line_lacks c (Lost client node) h = (high_lacks mark (codes "lost") low refl, (client_lacks client h.0, (node_lacks c node h.1, tt)))
  line_lacks c (CrashNode node) h = (high_lacks mark (codes "crash") low refl, (high_lacks mark (codes "node") low refl, (node_lacks c node h, tt)))
  line_lacks c (CrashClient client) h = (high_lacks mark (codes "crash") low refl, (high_lacks mark (codes "client") low refl, (client_lacks client h, tt)))
  line_lacks c (Lie message) h = (high_lacks mark (codes "lie") low refl, message_lacks message h)
  line_lacks c (Tell message) h = (high_lacks mark (codes "tell") low refl, message_lacks message h.0)
  line_lacks c (Poke message) h = (high_lacks mark (codes "poke") low refl, message_lacks message h.0)
  line_lacks c (False client node rule) h = (high_lacks mark (codes "false") low refl, (client_lacks client h.0, (node_lacks c node h.1, (rule_lacks rule, tt))))
  line_lacks c (Sound client node block time v) h =
      (high_lacks mark (codes "sound") low refl, (client_lacks client h.0, (node_lacks c node h.1, (block_lacks c block h.2, (number_lacks time h.3, (value_lacks v, tt))))))
  line_lacks c (Mix client node block time v w) h =
      (high_lacks mark (codes "mix") low refl, (client_lacks client h.0, (node_lacks c node h.1, (block_lacks c block h.2, (number_lacks time h.3, (value_lacks v, (value_lacks w, tt)))))))
  line_lacks c (Prune node block) h = (high_lacks mark (codes "prune") low refl, (node_lacks c node h.0, (block_lacks c block h.1, tt)))
  line_lacks c (Back client) h = (high_lacks mark (codes "back") low refl, (high_lacks mark (codes "client") low refl, (client_lacks client h.1, tt)))
  line_lacks c (Restart node) h = (high_lacks mark (codes "restart") low refl, (high_lacks mark (codes "node") low refl, (node_lacks c node h.1, tt)))

  pub event_lacks : (c : Numbers) (l : ReplayLine) → IsEventLine c l → AllLack mark (event_fields l)
  event_lacks c (Plain l) h = line_lacks c l h
  event_lacks c (Put client offset bytes) h = (high_lacks mark (codes "put") low refl, (client_lacks client h.0, (number_lacks offset h.1, (value_lacks bytes, tt))))
  event_lacks c (Get client offset length) h = (high_lacks mark (codes "get") low refl, (client_lacks client h.0, (number_lacks offset h.1, (number_lacks length h.2, tt))))
  event_lacks c (Next client) h = (high_lacks mark (codes "next") low refl, (client_lacks client h, tt))

joined_lack : (first : List ℕ) (more : List (List ℕ)) → AllLack 10 (first ∷ more) → Lacks 10 (line_of_fields (first ∷ more))
joined_lack first [] h = h.0
joined_lack first (next ∷ more) h = Lacks-append 10 first (32 ∷ line_of_fields (next ∷ more)) h.0 (joined_lack next more h.1)

-- no newline stands in the line of fields that have none
pub line_lacks_newline : (fields : List (List ℕ)) → AllLack 10 fields → Lacks 10 (line_of_fields fields)
line_lacks_newline [] h = refl
line_lacks_newline (first ∷ more) h = joined_lack first more h
