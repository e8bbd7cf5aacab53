-- Which field spells what.
use Rattle.std.proofs.Common.{◌≡◌, lit<, lit≤, ℕ, ◌+◌, ◌-◌, ◌*◌, ◌^◌, ◌<◌, ◌≤◌, true, false, List, [], ◌∷◌, ◌++◌, length, take, drop, get_or, Option, Some, None, Result, Ok, Err, refl, sym, ap, subst, ◌∙◌, append_assoc, arith, inl, inr}
use Rattle.std.specs.Prelude.{decimal, All}
use Rattle.std.specs.List.{join_with_byte, list_any}
use Rattle.std.specs.Char.{is_ascii_uppercase}
use Rattle.std.specs.Result.{result_ok}
use Rattle.std.proofs.lemmas.Bool.{cases_lt}
use Rattle.std.proofs.lemmas.List.{get_or_past, append-nil, length-append, length-drop, length-take-le}
use Rattle.std.proofs.lemmas.List.Concat.{flat_map-append}
use Rattle.std.proofs.Math.Seq.{take-add}
use Rattle.std.proofs.lemmas.List.Elements.{All-from_get_or, All-get_or, All-head, All-tail, All-push}
use Rattle.std.proofs.lemmas.List.Splits.{join_with_byte-slice_split}
use Rattle.hex.specs.Hex.{encode_lower, decode_of, decode_sized}
use Rattle.hex.specs.Hex as hex
use Rattle.hex.specs.declared.error.FromHexError.{FromHexError}
use Rattle.hex.proofs.HexLemmas.{decode_sized-ok, decode_sized-twice, decode_sized-encode_lower, decode_of-ok}
use Rattle.cross_sum.specs.Digest.{flat}
use Rattle.text_lines.specs.Fields.{number_of, value_of, value_text, IsBytes as AreBytes}
use Rattle.text_lines.specs.Lines.{parts_at, Lacks}
use Rattle.text_lines.proofs.lemmas.Joined.{some_part, parts-joined, Lacks-decimal, Lacks-encode_lower}
use Rattle.text_lines.proofs.lemmas.Numbers.{number_of-some, number_of-decimal}
use Rattle.text_lines.proofs.lemmas.Values.{value_of-some, value_of-text, value_of-capital, value_of-decoded}
use Rattle.stamp_order.specs.declared.Stamp.{Stamp}
use Rattle.message_texts.specs.Texts.{Spells, IsBytes, IsDigest, IsStamp, IsSum, IsFragment, stamp_text, sum_text}

-- ---- bytes

pub places_of_bytes : (xs : List ℕ) → IsBytes xs → hex.IsBytes xs
places_of_bytes xs h i =
    elim (cases_lt i (length xs)) [
      | inl lt ↦ All-get_or (λ b. b < 256) xs i 0 lt h
      | inr le ↦ let past : get_or xs i 0 ≡ 0 = get_or_past xs i 0 le in omega arith
    ]

pub bytes_of_places : (xs : List ℕ) → hex.IsBytes xs → IsBytes xs
bytes_of_places xs h = All-from_get_or (λ b. b < 256) xs 0 (λ i lt. h i)

pub are_bytes : (xs : List ℕ) → IsBytes xs → AreBytes xs
unfolding AreBytes
are_bytes xs h = places_of_bytes xs h

pub are_all_bytes : (xs : List ℕ) → AreBytes xs → IsBytes xs
unfolding AreBytes
are_all_bytes xs h = bytes_of_places xs h

-- ---- values

-- two values of one text are one
pub value_text_injective : (a b : List ℕ) → IsBytes a → IsBytes b → value_text a ≡ value_text b → a ≡ b
value_text_injective a b p q e =
    let same : Some a ≡ Some b = sym (value_of-text a (are_bytes a p)) ∙ ap value_of e ∙ value_of-text b (are_bytes b q) in cc

tail_of : List ℕ → List ℕ
tail_of [] = []
tail_of (x ∷ xs) = xs

pub encode_injective : (a b : List ℕ) → IsBytes a → IsBytes b → encode_lower a ≡ encode_lower b → a ≡ b
encode_injective a b p q e = value_text_injective a b p q (ap (λ (x : List ℕ). 120 ∷ x) e)

-- digits that decode, with no capital, are the text of what they decode to
pub digits_spell : (digits bytes : List ℕ) → list_any is_ascii_uppercase digits ≡ false → decode_of digits ≡ Ok bytes → (digits ≡ encode_lower bytes) × IsBytes bytes
unfolding tail_of
digits_spell digits bytes low e =
    let h = value_of-some (120 ∷ digits) bytes (value_of-decoded 120 digits bytes refl low e) in
    (ap tail_of h.0, are_all_bytes bytes h.1)

-- the digits of bytes have no capital
pub no_capital : (bytes : List ℕ) → IsBytes bytes → list_any is_ascii_uppercase (encode_lower bytes) ≡ true → ⊥
no_capital bytes p e =
    let clash : Some bytes ≡ None = sym (value_of-text bytes (are_bytes bytes p)) ∙ value_of-capital 120 (encode_lower bytes) e in cc

pub capital_spells_none : (digits : List ℕ) → list_any is_ascii_uppercase digits ≡ true → Spells IsDigest encode_lower digits None
capital_spells_none digits e a is same = no_capital a is.bytes (ap (list_any is_ascii_uppercase) (sym same) ∙ e)

pub hash_spelled : (digits : List ℕ) (r : Result (List ℕ) FromHexError) → list_any is_ascii_uppercase digits ≡ false → decode_sized digits 32 ≡ r → Spells IsDigest encode_lower digits (result_ok r)
hash_spelled digits (Ok h) low e =
    let long : length digits ≡ 2 * 32 = decode_sized-ok digits 32 h e in
    let whole : decode_of digits ≡ Ok h = sym (decode_sized-twice digits 32 long) ∙ e in
    let s = digits_spell digits h low whole in
    let half = (decode_of-ok digits h whole).2 in
    (record { count = omega (arith, long, half); bytes = s.1 }, s.0)
hash_spelled digits (Err d) low e =
    λ a is same.
    let clash : Ok a ≡ Err d = sym (decode_sized-encode_lower a 32 is.count (places_of_bytes a is.bytes)) ∙ ap (λ (x : List ℕ). decode_sized x 32) (sym same) ∙ e in cc

-- ---- stamps

pub text_from_parts_at : (mark : ℕ) (t : List ℕ) (ps : List (List ℕ)) → parts_at mark t ≡ ps → t ≡ join_with_byte mark ps
text_from_parts_at mark t ps e = sym (join_with_byte-slice_split mark t) ∙ ap (join_with_byte mark) e

-- what is cut at a mark
pub cut_at : (mark : ℕ) (t a r : List ℕ) → parts_at mark t ≡ a ∷ parts_at mark r → t ≡ a ++ mark ∷ r
cut_at mark t a r e = by_parts (parts_at mark r) refl
  where
    by_parts : (ps : List (List ℕ)) → parts_at mark r ≡ ps → t ≡ a ++ mark ∷ r
    by_parts [] is = absurd (some_part mark r is)
    by_parts (p ∷ ps) is =
        text_from_parts_at mark t (a ∷ p ∷ ps) (e ∙ ap (λ (x : List (List ℕ)). a ∷ x) is) ∙ ap (λ (x : List ℕ). a ++ mark ∷ x) (sym (text_from_parts_at mark r (p ∷ ps) is))

pub stamp_parts : (s : Stamp) → IsStamp s → parts_at 46 (stamp_text s) ≡ decimal s.time ∷ decimal s.client ∷ encode_lower s.verifier ∷ []
stamp_parts s h =
    let time : Lacks 46 (decimal s.time) = Lacks-decimal 46 s.time (lit< tt) h.time in
    let client : Lacks 46 (decimal s.client) = Lacks-decimal 46 s.client (lit< tt) (let c = h.client in omega arith) in
    let digits : Lacks 46 (encode_lower s.verifier) = Lacks-encode_lower 46 s.verifier (lit< tt) (lit< tt) in
    ap (parts_at 46) (append_assoc (decimal s.time) (46 ∷ decimal s.client) (46 ∷ encode_lower s.verifier))
    ∙ parts-joined 46 (decimal s.time) (decimal s.client ∷ encode_lower s.verifier ∷ []) (time, (client, (digits, tt)))

module _ (field : List ℕ) where
  -- the parts of a field that is some stamp's text
  parts_if : (s : Stamp) → IsStamp s → field ≡ stamp_text s → parts_at 46 field ≡ decimal s.time ∷ decimal s.client ∷ encode_lower s.verifier ∷ []
  parts_if s h e = ap (parts_at 46) e ∙ stamp_parts s h

  pub stamp_needs_time : parts_at 46 field ≡ field ∷ [] → Spells IsStamp stamp_text field None
  stamp_needs_time e = λ s h is. let p = parts_if s h is in let clash : field ∷ [] ≡ decimal s.time ∷ decimal s.client ∷ encode_lower s.verifier ∷ [] = sym e ∙ p in cc

  module _ (time rest : List ℕ) (first : parts_at 46 field ≡ time ∷ parts_at 46 rest) where
    rest_if : (s : Stamp) → IsStamp s → field ≡ stamp_text s → (time ≡ decimal s.time) × (parts_at 46 rest ≡ decimal s.client ∷ encode_lower s.verifier ∷ [])
    rest_if s h is =
        let both : time ∷ parts_at 46 rest ≡ decimal s.time ∷ decimal s.client ∷ encode_lower s.verifier ∷ [] = sym first ∙ parts_if s h is in
        ((cc), (cc))

    pub stamp_needs_client : parts_at 46 rest ≡ rest ∷ [] → Spells IsStamp stamp_text field None
    stamp_needs_client e = λ s h is. let p = rest_if s h is in let clash : rest ∷ [] ≡ decimal s.client ∷ encode_lower s.verifier ∷ [] = sym e ∙ p.1 in cc

    module _ (client digits : List ℕ) (second : parts_at 46 rest ≡ client ∷ parts_at 46 digits) where
      last_if : (s : Stamp) → IsStamp s → field ≡ stamp_text s → (time ≡ decimal s.time) × (client ≡ decimal s.client) × (digits ≡ encode_lower s.verifier)
      last_if s h is =
          let r = rest_if s h is in
          let both : client ∷ parts_at 46 digits ≡ decimal s.client ∷ encode_lower s.verifier ∷ [] = sym second ∙ r.1 in
          (r.0, (cc), text_from_parts_at 46 digits (encode_lower s.verifier ∷ []) (cc))

      pub stamp_time_spelled : number_of (2 ^ 64) time ≡ None → Spells IsStamp stamp_text field None
      stamp_time_spelled e = λ s h is.
          let l = last_if s h is in
          let clash : None ≡ Some s.time = sym e ∙ ap (number_of (2 ^ 64)) l.0 ∙ number_of-decimal (2 ^ 64) s.time (lit≤ tt) h.time in cc

      pub stamp_client_spelled : number_of (2 ^ 32) client ≡ None → Spells IsStamp stamp_text field None
      stamp_client_spelled e = λ s h is.
          let l = last_if s h is in
          let clash : None ≡ Some s.client = sym e ∙ ap (number_of (2 ^ 32)) l.1 ∙ number_of-decimal (2 ^ 32) s.client (lit≤ tt) h.client in cc

      pub stamp_hash_spelled : Spells IsDigest encode_lower digits None → Spells IsStamp stamp_text field None
      stamp_hash_spelled none = λ s h is. let l = last_if s h is in none s.verifier h.verifier l.2

      pub stamp_spelled : (t k : ℕ) (v : List ℕ) → number_of (2 ^ 64) time ≡ Some t → number_of (2 ^ 32) client ≡ Some k → Spells IsDigest encode_lower digits (Some v) → Spells IsStamp stamp_text field (Some (record { time = t; client = k; verifier = v }))
      stamp_spelled t k v a b d =
          let n = number_of-some (2 ^ 64) time t a in
          let m = number_of-some (2 ^ 32) client k b in
          let whole = cut_at 46 field time rest first in
          let behind = cut_at 46 rest client digits second in
          let front : field ≡ decimal t ++ (46 ∷ rest) = whole ∙ ap (λ (x : List ℕ). x ++ (46 ∷ rest)) n.0 in
          let end : rest ≡ decimal k ++ (46 ∷ encode_lower v) = behind ∙ ap (λ (x : List ℕ). x ++ (46 ∷ digits)) m.0 ∙ ap (λ (x : List ℕ). decimal k ++ (46 ∷ x)) d.1 in (
            record { time = n.1; client = m.1; verifier = d.0 },
            front ∙ ap (λ (x : List ℕ). decimal t ++ (46 ∷ x)) end ∙ sym (append_assoc (decimal t) (46 ∷ decimal k) (46 ∷ encode_lower v)),
          )

-- ---- values of a field

module _ (field : List ℕ) where
  pub fragment_needs_value : value_of field ≡ None → Spells IsFragment value_text field None
  fragment_needs_value e = λ x h is. let clash : None ≡ Some x = sym e ∙ ap value_of is ∙ value_of-text x (are_bytes x h.bytes) in cc

  pub fragment_too_long : (bytes : List ℕ) → value_of field ≡ Some bytes → 16384 < length bytes → Spells IsFragment value_text field None
  fragment_too_long bytes e long = λ x h is.
      let same : Some bytes ≡ Some x = sym e ∙ ap value_of is ∙ value_of-text x (are_bytes x h.bytes) in
      let b : bytes ≡ x = cc in
      let n = ap length b in let few = h.few in omega (arith, n, few, long)

  pub fragment_spelled : (bytes : List ℕ) → value_of field ≡ Some bytes → length bytes ≤ 16384 → Spells IsFragment value_text field (Some bytes)
  fragment_spelled bytes e few = let h = value_of-some field bytes e in (record { bytes = are_all_bytes bytes h.1; few = few }, h.0)

  pub sum_needs_value : value_of field ≡ None → Spells IsSum sum_text field None
  sum_needs_value e = λ x h is. let clash : None ≡ Some (flat x) = sym e ∙ ap value_of is ∙ value_of-text (flat x) (are_bytes (flat x) h.bytes) in cc

  pub length-flat : (sum : List (List ℕ)) → All (λ d. length d ≡ 32) sum → length (flat sum) ≡ 32 * length sum
  length-flat [] h = refl
  length-flat (d ∷ sum) h =
      let one : length d ≡ 32 = All-head (λ (x : List ℕ). length x ≡ 32) d sum h in
      let more = length-flat sum (All-tail (λ (x : List ℕ). length x ≡ 32) d sum h) in
      let both = length-append d (flat sum) in omega (arith, one, more, both)

  pub sum_of_other_length : (bytes : List ℕ) → value_of field ≡ Some bytes → ((k : ℕ) → length bytes ≡ 32 * k → k ≤ 32 → ⊥) → Spells IsSum sum_text field None
  sum_of_other_length bytes e other = λ x h is.
      let same : Some bytes ≡ Some (flat x) = sym e ∙ ap value_of is ∙ value_of-text (flat x) (are_bytes (flat x) h.bytes) in
      let b : bytes ≡ flat x = cc in
      other (length x) (ap length b ∙ length-flat x h.digests) h.few

  pub sum_spelled : (bytes : List ℕ) (sum : List (List ℕ)) → value_of field ≡ Some bytes → flat sum ≡ bytes → All (λ d. length d ≡ 32) sum → length bytes ≤ 1024 → Spells IsSum sum_text field (Some sum)
  sum_spelled bytes sum e same each few =
      let h = value_of-some field bytes e in
      let len = length-flat sum each in
      let n = ap length same in (
        record { digests = each; bytes = subst IsBytes (sym same) (are_all_bytes bytes h.1); few = omega (arith, len, n, few) },
        h.0 ∙ ap value_text (sym same),
      )

-- ---- digests one after the other

pub one_digest_more : (bytes : List ℕ) (ds : List (List ℕ)) (i : ℕ) (d : List ℕ) → 32 * i + 32 ≤ length bytes → flat ds ≡ take (32 * i) bytes → d ≡ take (32 * i + 32 - 32 * i) (drop (32 * i) bytes)
    → (flat (ds ++ d ∷ []) ≡ take (32 * (i + 1)) bytes) × (length d ≡ 32)
one_digest_more bytes ds i d room before is =
    let same : 32 * i + 32 - 32 * i ≡ 32 = omega arith in
    let next : 32 * (i + 1) ≡ 32 * i + 32 = omega arith in
    let now : d ≡ take 32 (drop (32 * i) bytes) = is ∙ ap (λ (n : ℕ). take n (drop (32 * i) bytes)) same in (
      flat_map-append (λ x. x) ds (d ∷ []) ∙ ap (λ (x : List ℕ). flat ds ++ x) (append-nil d) ∙ ap (λ (x : List ℕ). x ++ d) before
          ∙ ap (λ (x : List ℕ). take (32 * i) bytes ++ x) now ∙ sym (take-add (32 * i) 32 bytes) ∙ ap (λ (n : ℕ). take n bytes) (sym next),
      ap length now ∙ length-take-le 32 (drop (32 * i) bytes) (omega (arith, length-drop (32 * i) bytes)),
    )

pub all_32_more : (ds : List (List ℕ)) (d : List ℕ) → All (λ x. length x ≡ 32) ds → length d ≡ 32 → All (λ x. length x ≡ 32) (ds ++ d ∷ [])
all_32_more ds d all one = All-push (λ (x : List ℕ). length x ≡ 32) ds d all one

-- ---- numbers

pub number_of-u64 : (n : ℕ) → n < 2 ^ 64 → number_of (2 ^ 64) (decimal n) ≡ Some n
number_of-u64 n lt = number_of-decimal (2 ^ 64) n (lit≤ tt) lt

pub number_of-u32 : (n : ℕ) → n < 2 ^ 32 → number_of (2 ^ 32) (decimal n) ≡ Some n
number_of-u32 n lt = number_of-decimal (2 ^ 32) n (lit≤ tt) lt

pub number_of-u8 : (n : ℕ) → n < 2 ^ 8 → number_of (2 ^ 8) (decimal n) ≡ Some n
number_of-u8 n lt = number_of-decimal (2 ^ 8) n (lit≤ tt) lt

pub ruleset numbers = (number_of-some, number_of-u64, number_of-u32, number_of-u8)

pub number_spelled : (limit : ℕ) (field : List ℕ) (o : Option ℕ) → limit ≤ 2 ^ 64 → o ≡ number_of limit field → Spells (λ n. n < limit) decimal field o
number_spelled limit field None small e = λ n lt is. let clash : None ≡ Some n = e ∙ ap (number_of limit) is ∙ number_of-decimal limit n small lt in cc
number_spelled limit field (Some n) small e = let h = number_of-some limit field n (sym e) in (h.1, h.0)
