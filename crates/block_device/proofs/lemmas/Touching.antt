-- Which blocks a range touches.
use Rattle.std.proofs.Common.{◌≡◌, ℕ, suc, zero, Some, None, if◌then◌else◌, ◌+◌, ◌-◌, ◌*◌, ◌/◌, ◌<◌, ◌≤◌, min, max, Bool, true, false, [], ◌∷◌, ◌++◌, refl, ap, ◌∙◌, zero-mul, arith}
use Rattle.std.specs.List.{filter, range_with_len}
use Rattle.std.proofs.Math.Nat.{mul-le-mul_right, div-mul-le_self, lt-div-mul-add}
use Rattle.std.proofs.lemmas.Nat.{le-div, div_below}
use Rattle.std.proofs.lemmas.Bool.{lt-ltb, le-ltb, ltb-true, ltb-false, eqb-false}
use Rattle.std.proofs.lemmas.List.{append-nil}
use Rattle.std.proofs.lemmas.List.Elements.{filter-append}
use Rattle.quorum_rules.specs.Limits.{Numbers}
use Rattle.wire_forms.specs.declared.device.DeviceOp.{DeviceOp}
use Rattle.line_forms.specs.declared.cause.DeviceFault.{DeviceFault}
use Rattle.block_device.specs.Ranges.{start_of, len_of, fault_of, is_touched}

-- ---- a range without a fault
no_tests : (a b : Bool) (x y : DeviceFault) → (if a then Some x else (if b then Some y else None)) ≡ None → (a ≡ false) × (b ≡ false)
no_tests true b x y h = cc
no_tests false true x y h = cc
no_tests false false x y h = (refl, refl)

-- the range has a byte, and ends within the device; so blocks have bytes
pub record IsWithin (size blocks start len : ℕ) : Type 0 where
  pub some : 0 < len
  pub end : start + len ≤ size * blocks
  pub sized : 0 < size

sized_if : (size blocks start len : ℕ) → 0 < len → start + len ≤ size * blocks → 0 < size
sized_if zero blocks start len some end = absurd (let z : 0 * blocks ≡ 0 = zero-mul blocks in omega arith)
sized_if (suc size) blocks start len some end = omega arith

pub within_if : (c : Numbers) (op : DeviceOp) → fault_of c op ≡ None → IsWithin c.size c.blocks (start_of op) (len_of op)
within_if c op h =
    let t = no_tests _ _ _ _ h in
    let end : start_of op + len_of op ≤ c.size * c.blocks = ltb-false (c.size * c.blocks) (start_of op + len_of op) t.0 in
    let none : len_of op ≡ 0 → ⊥ = eqb-false (len_of op) 0 t.1 in
    let some : 0 < len_of op = elim (len_of op) as (λ n. (n ≡ 0 → ⊥) → 0 < n) [ zero ↦ λ f. absurd (f refl) | suc n ↦ λ f. omega arith ] none in
    record { some = some; end = end; sized = sized_if c.size c.blocks (start_of op) (len_of op) some end }

-- ---- ranges of numbers
pub range_append : (a m n : ℕ) → range_with_len a (m + n) ≡ range_with_len a m ++ range_with_len (a + m) n
range_append a zero n =
    let none : 0 + n ≡ n = omega arith in
    let same : a ≡ a + 0 = omega arith in
    ap (range_with_len a) none ∙ ap (λ b. range_with_len b n) same
range_append a (suc m) n =
    let one : suc m + n ≡ suc (m + n) = omega arith in
    let on : (a + 1) + m ≡ a + suc m = omega arith in
    ap (range_with_len a) one ∙ ap (λ z. a ∷ z) (range_append (a + 1) m n ∙ ap (λ b. range_with_len (a + 1) m ++ range_with_len b n) on)

pub range_more : (a n k : ℕ) → a + n ≡ k → range_with_len a (n + 1) ≡ range_with_len a n ++ k ∷ []
range_more a n k e = range_append a n 1 ∙ ap (λ b. range_with_len a n ++ b ∷ []) e

filter_none : (p : ℕ → Bool) (a n : ℕ) → ((k : ℕ) → a ≤ k → k < a + n → p k ≡ false) → filter p (range_with_len a n) ≡ []
filter_none p a zero h = refl
filter_none p a (suc n) h = rw (h a (omega arith) (omega arith)) (filter_none p (a + 1) n (λ k low high. h k (omega arith) (omega arith)))

filter_all : (p : ℕ → Bool) (a n : ℕ) → ((k : ℕ) → a ≤ k → k < a + n → p k ≡ true) → filter p (range_with_len a n) ≡ range_with_len a n
filter_all p a zero h = refl
filter_all p a (suc n) h = rw (h a (omega arith) (omega arith)) (ap (λ z. a ∷ z) (filter_all p (a + 1) n (λ k low high. h k (omega arith) (omega arith))))

-- what a test that holds from a on for n numbers keeps of the first numbers
filter_between : (p : ℕ → Bool) (a n all : ℕ) → a + n ≤ all → ((k : ℕ) → k < a → p k ≡ false) → ((k : ℕ) → a ≤ k → k < a + n → p k ≡ true)
    → ((k : ℕ) → a + n ≤ k → p k ≡ false) → filter p (range_with_len 0 all) ≡ range_with_len a n
filter_between p a n all within before inside behind =
    let rest = all - (a + n) in
    let whole : all ≡ a + (n + rest) = omega arith in
    let front : 0 + a ≡ a = omega arith in
    let first = filter_none p 0 a (λ k low high. before k (omega arith)) in
    let last = filter_none p (a + n) rest (λ k low high. behind k (omega arith)) in
    ap (λ z. filter p (range_with_len 0 z)) whole
    ∙ ap (filter p) (range_append 0 a (n + rest))
    ∙ filter-append p (range_with_len 0 a) (range_with_len (0 + a) (n + rest))
    ∙ ap (λ z. z ++ filter p (range_with_len (0 + a) (n + rest))) first
    ∙ ap (λ b. filter p (range_with_len b (n + rest))) front
    ∙ ap (filter p) (range_append a n rest)
    ∙ filter-append p (range_with_len a n) (range_with_len (a + n) rest)
    ∙ ap (λ z. filter p (range_with_len a n) ++ z) last
    ∙ append-nil (filter p (range_with_len a n))
    ∙ filter_all p a n inside

-- ---- blocks and places
pub first_place : (size p : ℕ) → p / size * size ≤ p
first_place size p = div-mul-le_self p size

pub last_place : (size p : ℕ) → 0 < size → p < (p / size + 1) * size
last_place size p sized = let h : p < p / size * size + size = lt-div-mul-add sized in omega arith

pub next_block : (size j k : ℕ) → j < k → (j + 1) * size ≤ k * size
next_block size j k h = mul-le-mul_right size (omega arith)

-- ---- the blocks of a range, from that of its first byte to that of its last
touched_if : (size start len k : ℕ) → k * size < start + len → start < (k + 1) * size → 0 < len → 0 < size → is_touched size start len k ≡ true
unfolding is_touched
touched_if size start len k low high some sized = lt-ltb (max start (k * size)) (min (start + len) ((k + 1) * size)) (omega arith)

pub touched_then : (size start len k : ℕ) → is_touched size start len k ≡ true → (k * size < start + len) × (start < (k + 1) * size)
unfolding is_touched
touched_then size start len k h =
    let most = ltb-true (max start (k * size)) (min (start + len) ((k + 1) * size)) h in
    (omega arith, omega arith)

untouched_if : (size start len k : ℕ) → ((k + 1) * size ≤ start → is_touched size start len k ≡ false) × (start + len ≤ k * size → is_touched size start len k ≡ false)
unfolding is_touched
untouched_if size start len k = (
  λ h. le-ltb (max start (k * size)) (min (start + len) ((k + 1) * size)) (omega arith),
  λ h. le-ltb (max start (k * size)) (min (start + len) ((k + 1) * size)) (omega arith),
)

-- a range without a byte touches none
pub touched_none : (size start len blocks : ℕ) → len ≡ 0 → filter (is_touched size start len) (range_with_len 0 blocks) ≡ []
unfolding is_touched
touched_none size start len blocks none = filter_none (is_touched size start len) 0 blocks (λ k low high. le-ltb (max start (k * size)) (min (start + len) ((k + 1) * size)) (omega arith))

-- block k is one from that of the first byte to that of the last
pub record IsBetween (size start len k : ℕ) : Type 0 where
  pub from : start / size ≤ k
  pub to : k < (start + len - 1) / size + 1

pub between_reaches : (size start len k : ℕ) → 0 < size → 0 < len → IsBetween size start len k → (k * size < start + len) × (start < (k + 1) * size)
between_reaches size start len k sized some h =
    let last = (start + len - 1) / size in
    let low : k * size ≤ last * size = mul-le-mul_right size (let t = h.to in omega arith) in
    let high : (start / size + 1) * size ≤ (k + 1) * size = mul-le-mul_right size (let f = h.from in omega arith) in
    (omega (arith, first_place size (start + len - 1)), omega (arith, last_place size start sized))

pub touched_range : (size blocks start len n : ℕ) → 0 < size → 0 < len → start + len ≤ size * blocks → start / size + n ≡ (start + len - 1) / size + 1
    → filter (is_touched size start len) (range_with_len 0 blocks) ≡ range_with_len (start / size) n
touched_range size blocks start len n sized some within count =
    let first = start / size in
    let last = (start + len - 1) / size in
    let below : last < blocks = div_below (start + len - 1) size blocks sized (omega arith) in
    filter_between (is_touched size start len) first n blocks (omega arith)
    (λ k h. (untouched_if size start len k).0 (omega (arith, next_block size k first h, first_place size start)))
    (λ k low high.
    let r = between_reaches size start len k sized some (record { from = low; to = omega arith }) in
    touched_if size start len k r.0 r.1 some sized)
    (λ k h. (untouched_if size start len k).1 (omega (arith, next_block size last k (omega arith), last_place size (start + len - 1) sized)))

pub first_before_last : (size start len : ℕ) → 0 < size → 0 < len → start / size ≤ (start + len - 1) / size
first_before_last size start len sized some = le-div (start / size) (start + len - 1) size sized (omega (arith, first_place size start))

pub last_block : (size blocks start len : ℕ) → IsWithin size blocks start len → (start + len - 1) / size < blocks
last_block size blocks start len w = let end = w.end in let some = w.some in div_below (start + len - 1) size blocks w.sized (omega arith)
