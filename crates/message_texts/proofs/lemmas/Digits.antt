-- Runs of hexadecimal digits, and what they spell.
use Rattle.std.proofs.Common.{◌≡◌, ℕ, zero, suc, ◌*◌, ◌/◌, ◌%◌, ◌≤◌, ◌<◌, Bool, true, false, List, [], ◌∷◌, ◌++◌, length, take, drop, refl, sym, ap, subst, ◌∙◌, arith}
use Rattle.std.specs.Prelude.{All, slice_index}
use Rattle.std.specs.List.{AllPass, list_any}
use Rattle.std.specs.Char.{is_ascii_uppercase}
use Rattle.std.proofs.lemmas.Bool.{agree_below_at}
use Rattle.std.proofs.lemmas.List.{length-take-le, length-drop, take-append-drop}
use Rattle.std.proofs.lemmas.List.Elements.{All-nil, All-cons, All-head, All-tail, All-weaker}
use Rattle.hex.specs.Hex.{encode_lower, encode_with, lower_digits, is_hex_digit}
use Rattle.hex.proofs.HexLemmas.{length-encode_with, decode_of-digits}
use Rattle.cross_sum.specs.Digest.{flat}
use Rattle.message_texts.specs.declared.piece.Piece.TheVariants.{Digits}
use Rattle.message_texts.specs.Texts.{IsBytes, IsDigest, IsSum, IsFragment}
use Rattle.message_texts.specs.Pieces.{is_low_digit, IsPiece}
use Rattle.message_texts.proofs.lemmas.Spelling.{digits_spell, length-flat}

-- ---- bytes to digits

yes : ℕ → Bool
yes _ = true

low_digit : (k : ℕ) → k < 16 → is_low_digit (slice_index lower_digits k) ≡ true
unfolding yes
low_digit k lt = agree_below_at (λ i. is_low_digit (slice_index lower_digits i)) yes 16 k refl lt

pub low_encoded : (bytes : List ℕ) → IsBytes bytes → AllPass is_low_digit (encode_lower bytes)
unfolding encode_with
low_encoded [] h = All-nil (λ (c : ℕ). is_low_digit c ≡ true)
low_encoded (b ∷ bytes) h =
    let small : b < 256 = All-head (λ (x : ℕ). x < 256) b bytes h in
    All-cons (λ (c : ℕ). is_low_digit c ≡ true) (slice_index lower_digits (b / 16)) (slice_index lower_digits (b % 16) ∷ encode_lower bytes) (low_digit (b / 16) (omega arith))
    (All-cons (λ (c : ℕ). is_low_digit c ≡ true) (slice_index lower_digits (b % 16)) (encode_lower bytes) (low_digit (b % 16) (omega arith)) (low_encoded bytes (All-tail (λ (x : ℕ). x < 256) b bytes h)))

length-encoded : (bytes : List ℕ) → length (encode_lower bytes) ≡ 2 * length bytes
length-encoded bytes = length-encode_with lower_digits bytes

-- ---- digits to bytes

low_is_hex : (c : ℕ) → is_low_digit c ≡ true → is_hex_digit c ≡ true
low_is_hex c h = grind arith

low_is_no_capital : (c : ℕ) → is_low_digit c ≡ true → is_ascii_uppercase c ≡ false
low_is_no_capital c h = grind arith

no_capitals : (d : List ℕ) → AllPass is_low_digit d → list_any is_ascii_uppercase d ≡ false
no_capitals [] h = refl
no_capitals (c ∷ d) h =
    let one = low_is_no_capital c (All-head (λ (x : ℕ). is_low_digit x ≡ true) c d h) in
    let more = no_capitals d (All-tail (λ (x : ℕ). is_low_digit x ≡ true) c d h) in
    rw (one, more) refl

pub low_spells : (d : List ℕ) → AllPass is_low_digit d → length d % 2 ≡ 0 → (bytes : List ℕ) × (d ≡ encode_lower bytes) × IsBytes bytes
low_spells d low even =
    let hexes = All-weaker (λ (c : ℕ). is_low_digit c ≡ true) (λ (c : ℕ). is_hex_digit c ≡ true) (λ c. low_is_hex c) d low in
    let decoded = decode_of-digits d even hexes in
    let h = digits_spell d decoded.0 (no_capitals d low) decoded.1 in
    (decoded.0, h.0, h.1)

-- bytes in groups of 32
groups : (k : ℕ) (bytes : List ℕ) → length bytes ≡ 32 * k → (sum : List (List ℕ)) × All (λ d. length d ≡ 32) sum × (flat sum ≡ bytes) × (length sum ≡ k)
groups zero [] e = ([], All-nil (λ (d : List ℕ). length d ≡ 32), refl, refl)
groups zero (b ∷ bytes) e = absurd (omega arith)
groups (suc k) bytes e =
    let long : 32 ≤ length bytes = omega arith in
    let first = length-take-le 32 bytes long in
    let more = groups k (drop 32 bytes) (let n = length-drop 32 bytes in omega (arith, n)) in (
      take 32 bytes ∷ more.0,
      All-cons (λ (d : List ℕ). length d ≡ 32) (take 32 bytes) more.0 first more.1,
      ap (λ (x : List ℕ). take 32 bytes ++ x) more.2 ∙ take-append-drop 32 bytes,
      ap suc more.3,
    )

-- ---- what the pieces of digits stand for

pub hash_digits : (v : List ℕ) → IsDigest v → IsPiece (Digits 64 64 64) (encode_lower v)
hash_digits v h =
    let n = length-encoded v in
    let c = h.count in
    let long : length (encode_lower v) ≡ 64 = omega (arith, n, c) in
    (low_encoded v h.bytes, omega (arith, long), omega (arith, long), ap (λ (k : ℕ). k % 64) long)

pub hash_of_digits : (d : List ℕ) → IsPiece (Digits 64 64 64) d → (v : List ℕ) × (d ≡ encode_lower v) × IsDigest v
hash_of_digits d h =
    let least = h.1 in
    let most = h.2 in
    let s = low_spells d h.0 (omega arith) in
    let n = length-encoded s.0 in
    let e = ap length s.1 in
    (s.0, s.1, record { count = omega (arith, n, e, least, most); bytes = s.2 })

pub sum_digits : (sum : List (List ℕ)) → IsSum sum → IsPiece (Digits 64 0 2048) (encode_lower (flat sum))
sum_digits sum h =
    let n = length-encoded (flat sum) in
    let f = length-flat [] sum h.digests in
    let few = h.few in
    let long : length (encode_lower (flat sum)) ≡ 64 * length sum = omega (arith, n, f) in
    (low_encoded (flat sum) h.bytes, omega arith, omega (arith, long, few), ap (λ (k : ℕ). k % 64) long ∙ omega arith)

pub sum_of_digits : (d : List ℕ) → IsPiece (Digits 64 0 2048) d → (sum : List (List ℕ)) × (d ≡ encode_lower (flat sum)) × IsSum sum
sum_of_digits d h =
    let most = h.2 in
    let even = h.3 in
    let s = low_spells d h.0 (omega arith) in
    let n = length-encoded s.0 in
    let e = ap length s.1 in
    let g = groups (length s.0 / 32) s.0 (omega (arith, n, e, even)) in
    let k = g.3 in (
      g.0,
      s.1 ∙ ap encode_lower (sym g.2),
      record { digests = g.1; bytes = subst IsBytes (sym g.2) s.2; few = omega (arith, n, e, most, k) },
    )

pub fragment_digits : (bytes : List ℕ) → IsFragment bytes → IsPiece (Digits 2 0 32768) (encode_lower bytes)
fragment_digits bytes h =
    let n = length-encoded bytes in
    let few = h.few in
    (low_encoded bytes h.bytes, omega arith, omega (arith, n, few), ap (λ (k : ℕ). k % 2) n ∙ omega arith)

pub fragment_of_digits : (d : List ℕ) → IsPiece (Digits 2 0 32768) d → (bytes : List ℕ) × (d ≡ encode_lower bytes) × IsFragment bytes
fragment_of_digits d h =
    let most = h.2 in
    let even = h.3 in
    let s = low_spells d h.0 even in
    let n = length-encoded s.0 in
    let e = ap length s.1 in
    (s.0, s.1, record { bytes = s.2; few = omega (arith, n, e, most) })
