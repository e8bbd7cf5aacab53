-- The parts of messages' texts, and what they spell.
use Rattle.std.proofs.Common.{◌≡◌, lit≤, ℕ, ◌*◌, ◌%◌, ◌^◌, ◌<◌, ◌≤◌, Bool, true, false, ◌&&◌, ◌||◌, eqb, leb, List, [], ◌∷◌, ◌++◌, length, Option, Some, None, is_some, refl, sym, ap, ◌∙◌, arith, append_assoc}
use Rattle.std.specs.Prelude.{decimal}
use Rattle.std.specs.List.{list_any}
use Rattle.std.specs.Str.{bytes_eq}
use Rattle.std.proofs.lemmas.Bool.{and_parts, eq-eqb}
use Rattle.std.proofs.lemmas.Bool.Decides.{nat_tests}
use Rattle.std.proofs.lemmas.Slice.Eq.{bytes_eq-Decides}
use Rattle.hex.specs.Hex.{encode_lower}
use Rattle.hex.proofs.HexLemmas.{length-encode_with}
use Rattle.cross_sum.specs.Digest.{flat}
use Rattle.text_lines.specs.Lines.{parts_at}
use Rattle.text_lines.specs.Fields.{number_of, value_of, value_text}
use Rattle.text_lines.proofs.lemmas.Numbers.{number_of-some, number_of-decimal}
use Rattle.text_lines.proofs.lemmas.Values.{value_of-some, value_of-text}
use Rattle.stamp_order.specs.declared.Stamp.{Stamp}
use Rattle.message_texts.specs.Texts.{IsBytes, IsDigest, IsStamp, IsSum, IsFragment, stamp_text, sum_text}
use Rattle.message_texts.proofs.lemmas.Digits.{low_encoded, sum_of_digits}
use Rattle.message_texts.proofs.lemmas.Spelling.{are_bytes, are_all_bytes, text_from_parts_at, stamp_parts, length-flat, fragment_spelled}
use Rattle.event_lines.specs.Messages.{is_digest, is_stamp, is_value}

-- ---- what a part spells

pub word_spelled : (word field : List ℕ) → list_any (λ w. bytes_eq field w) (word ∷ []) ≡ true → field ≡ word
word_spelled word field h = by_cases (bytes_eq field word) refl h
  where
    by_cases : (b : Bool) → bytes_eq field word ≡ b → (b || false) ≡ true → field ≡ word
    by_cases true e t = (bytes_eq-Decides field word).0 e
    by_cases false e t = absurd cc

pub number_spelled : (limit : ℕ) (field : List ℕ) → is_some (number_of limit field) ≡ true → (n : ℕ) × (n < limit) × (field ≡ decimal n)
number_spelled limit field h = by_cases (number_of limit field) refl h
  where
    by_cases : (o : Option ℕ) → number_of limit field ≡ o → is_some o ≡ true → (n : ℕ) × (n < limit) × (field ≡ decimal n)
    by_cases None e t = absurd cc
    by_cases (Some n) e t = let s = number_of-some limit field n e in (n, s.1, s.0)

tail_of : List ℕ → List ℕ
tail_of [] = []
tail_of (x ∷ xs) = xs

digest_spelled : (digits : List ℕ) → is_digest (value_of (120 ∷ digits)) ≡ true → (v : List ℕ) × IsDigest v × (digits ≡ encode_lower v)
unfolding tail_of
digest_spelled digits h = by_cases (value_of (120 ∷ digits)) refl h
  where
    by_cases : (o : Option (List ℕ)) → value_of (120 ∷ digits) ≡ o → is_digest o ≡ true → (v : List ℕ) × IsDigest v × (digits ≡ encode_lower v)
    by_cases None e t = absurd cc
    by_cases (Some v) e t =
        let s = value_of-some (120 ∷ digits) v e in
        let count : length v ≡ 32 = grind (arith, nat_tests) in
        (v, record { count = count; bytes = are_all_bytes v s.1 }, ap tail_of s.0)

pub stamp_spelled : (field : List ℕ) → is_stamp (parts_at 46 field) ≡ true → (s : Stamp) × IsStamp s × (field ≡ stamp_text s)
stamp_spelled field h = by_parts (parts_at 46 field) refl h
  where
    by_parts : (ps : List (List ℕ)) → parts_at 46 field ≡ ps → is_stamp ps ≡ true → (s : Stamp) × IsStamp s × (field ≡ stamp_text s)
    by_parts [] e t = absurd cc
    by_parts (time ∷ []) e t = absurd cc
    by_parts (time ∷ client ∷ []) e t = absurd cc
    by_parts (time ∷ client ∷ digits ∷ more ∷ ps) e t = absurd cc
    by_parts (time ∷ client ∷ digits ∷ []) e t =
        let all = and_parts (is_some (number_of (2 ^ 64) time) && is_some (number_of (2 ^ 32) client)) (is_digest (value_of (120 ∷ digits))) t in
        let both = and_parts (is_some (number_of (2 ^ 64) time)) (is_some (number_of (2 ^ 32) client)) all.0 in
        let n = number_spelled (2 ^ 64) time both.0 in
        let k = number_spelled (2 ^ 32) client both.1 in
        let d = digest_spelled digits all.1 in (
          record { time = n.0; client = k.0; verifier = d.0 },
          record { time = n.1; client = k.1; verifier = d.1 },
          text_from_parts_at 46 field (time ∷ client ∷ digits ∷ []) e
              ∙ ap (λ (x : List ℕ). x ++ 46 ∷ (client ++ 46 ∷ digits)) n.2
              ∙ ap (λ (x : List ℕ). decimal n.0 ++ 46 ∷ (x ++ 46 ∷ digits)) k.2
              ∙ ap (λ (x : List ℕ). decimal n.0 ++ 46 ∷ (decimal k.0 ++ 46 ∷ x)) d.2
              ∙ sym (append_assoc (decimal n.0) (46 ∷ decimal k.0) (46 ∷ encode_lower d.0)),
        )

-- a value, and what its test says
pub value_spelled : (group most : ℕ) (field : List ℕ) → is_value group most (value_of field) ≡ true → (v : List ℕ) × (value_of field ≡ Some v) × (length v % group ≡ 0) × (length v ≤ most)
value_spelled group most field h = by_cases (value_of field) refl h
  where
    by_cases : (o : Option (List ℕ)) → value_of field ≡ o → is_value group most o ≡ true → (v : List ℕ) × (value_of field ≡ Some v) × (length v % group ≡ 0) × (length v ≤ most)
    by_cases None e t = absurd cc
    by_cases (Some v) e t =
        let both = and_parts (eqb (length v % group) 0) (leb (length v) most) t in
        let one = both.0 in
        let other = both.1 in
        (v, e, grind (arith, nat_tests), grind (arith, nat_tests))

pub fragment_part : (field : List ℕ) → is_value 1 16384 (value_of field) ≡ true → (v : List ℕ) × IsFragment v × (field ≡ value_text v)
fragment_part field h =
    let v = value_spelled 1 16384 field h in
    let s = fragment_spelled field v.0 v.1 v.3 in
    (v.0, s.0, s.1)

pub sum_part : (field : List ℕ) → is_value 32 1024 (value_of field) ≡ true → (sum : List (List ℕ)) × IsSum sum × (field ≡ sum_text sum)
sum_part field h =
    let v = value_spelled 32 1024 field h in
    let s = value_of-some field v.0 v.1 in
    let even = v.2 in
    let few = v.3 in
    let double : length (encode_lower v.0) ≡ 2 * length v.0 = length-encode_with _ v.0 in
    let d = sum_of_digits (encode_lower v.0) (low_encoded v.0 (are_all_bytes v.0 s.1), omega arith, omega (arith, double, few), omega (arith, double, even)) in
    (d.0, d.2, s.0 ∙ ap (λ (x : List ℕ). 120 ∷ x) d.1)

-- ---- which fields are such parts

pub is_word : (word : List ℕ) → list_any (λ w. bytes_eq word w) (word ∷ []) ≡ true
is_word word = rw ((bytes_eq-Decides word word).1 refl) refl

pub is_number : (limit n : ℕ) → limit ≤ 2 ^ 64 → n < limit → is_some (number_of limit (decimal n)) ≡ true
is_number limit n small lt = rw (number_of-decimal limit n small lt) refl

pub is_stamp_text : (s : Stamp) → IsStamp s → is_stamp (parts_at 46 (stamp_text s)) ≡ true
is_stamp_text s h =
    let digits : is_digest (value_of (value_text s.verifier)) ≡ true = rw (value_of-text s.verifier (are_bytes s.verifier h.verifier.bytes), eq-eqb (length s.verifier) 32 h.verifier.count) refl in
    rw (stamp_parts s h, is_number (2 ^ 64) s.time (lit≤ tt) h.time, is_number (2 ^ 32) s.client (lit≤ tt) h.client) digits

is_value_text : (group most : ℕ) (v : List ℕ) → IsBytes v → length v % group ≡ 0 → length v ≤ most → is_value group most (value_of (value_text v)) ≡ true
is_value_text group most v bytes even few =
    let first : eqb (length v % group) 0 ≡ true = eq-eqb (length v % group) 0 even in
    let second : leb (length v) most ≡ true = grind (arith, nat_tests) in
    rw (value_of-text v (are_bytes v bytes), first) second

pub is_fragment_text : (v : List ℕ) → IsFragment v → is_value 1 16384 (value_of (value_text v)) ≡ true
is_fragment_text v h = is_value_text 1 16384 v h.bytes (omega arith) h.few

pub is_sum_text : (sum : List (List ℕ)) → IsSum sum → is_value 32 1024 (value_of (sum_text sum)) ≡ true
is_sum_text sum h =
    let len = length-flat [] sum h.digests in
    let few = h.few in
    is_value_text 32 1024 (flat sum) h.bytes (omega (arith, len)) (omega (arith, len, few))
