-- The bytes of a put in one block, and values with bytes merged in.
use Rattle.std.proofs.Common.{◌≡◌, ℕ, ◌+◌, ◌-◌, ◌*◌, ◌<◌, ◌≤◌, min, true, false, List, [], ◌∷◌, ◌++◌, ◌⊎◌, inl, inr, length, take, drop, get_or, refl, ap, ◌∙◌, arith}
use Rattle.std.proofs.lemmas.Bool.{cases_lt, le-leb, lt-leb}
use Rattle.std.proofs.lemmas.List.{append-nil, take_min, drop_all, length-take, length-drop, length-append, get_or-take, get_or-drop, get_or_append_left, get_or-append_right}
use Rattle.std.proofs.Math.Bool.{and-false}
use Rattle.block_device.specs.Ranges.{is_covered, bytes_in}
use Rattle.block_device.specs.Steps.{put_steps}
use Rattle.block_device.specs.Device.{merged}
use Rattle.block_device.specs.declared.steps.BlockStep.TheVariants.{Read, Whole, Merge}

-- ---- which steps a put has in a block
covered_if : (size start len k : ℕ) → start ≤ k * size → (k + 1) * size ≤ start + len → is_covered size start len k ≡ true
unfolding is_covered
covered_if size start len k low high = rw (le-leb start (k * size) low) (le-leb ((k + 1) * size) (start + len) high)

uncovered_if : (size start len k : ℕ) → (k * size < start) ⊎ (start + len < (k + 1) * size) → is_covered size start len k ≡ false
unfolding is_covered
uncovered_if size start len k (inl low) = rw (lt-leb start (k * size) low) refl
uncovered_if size start len k (inr high) = rw (lt-leb ((k + 1) * size) (start + len) high) (and-false _)

pub put_whole : (size start : ℕ) (bytes : List ℕ) (k : ℕ) → start ≤ k * size → (k + 1) * size ≤ start + length bytes
    → put_steps size start bytes k ≡ Whole k (bytes_in size start bytes k) ∷ []
unfolding put_steps
put_whole size start bytes k low high = rw (covered_if size start (length bytes) k low high)

pub put_partly : (size start : ℕ) (bytes : List ℕ) (k : ℕ) → (k * size < start) ⊎ (start + length bytes < (k + 1) * size)
    → put_steps size start bytes k ≡ Read k ∷ Merge k (start - k * size) (bytes_in size start bytes k) ∷ []
unfolding put_steps
put_partly size start bytes k part = rw (uncovered_if size start (length bytes) k part)

pub whole_or_partly : (size start len k : ℕ)
    → ((start ≤ k * size) × ((k + 1) * size ≤ start + len)) ⊎ ((k * size < start) ⊎ (start + len < (k + 1) * size))
whole_or_partly size start len k =
    elim (cases_lt (k * size) start) [
      | inl low ↦ inr (inl low)
      | inr low ↦ elim (cases_lt (start + len) ((k + 1) * size)) [ inl high ↦ inr (inr high) | inr high ↦ inl (low, high) ]
    ]

-- ---- the bytes of a put in a block
-- a part that ends where the block or the bytes end
pub bytes_in-cut : (size start : ℕ) (bytes : List ℕ) (k from to : ℕ) → from ≡ k * size - start → to ≡ min ((k + 1) * size) (start + length bytes) - start
    → take (to - from) (drop from bytes) ≡ bytes_in size start bytes k
unfolding bytes_in
bytes_in-cut size start bytes k from to begin end =
    let most = (k + 1) * size - start - from in
    let least : to - from ≡ min most (length (drop from bytes)) = let l = length-drop from bytes in omega arith in
    ap (λ n. take n (drop from bytes)) least ∙ take_min most (drop from bytes)
    ∙ ap (λ f. take ((k + 1) * size - start - f) (drop f bytes)) begin

-- they fill the part of the block that the put's range has
pub length-bytes_in : (size start : ℕ) (bytes : List ℕ) (k : ℕ) → k * size < start + length bytes → start < (k + 1) * size
    → k * size + (start - k * size) + length (bytes_in size start bytes k) ≡ min ((k + 1) * size) (start + length bytes)
unfolding bytes_in
length-bytes_in size start bytes k low high =
    let from = k * size - start in
    let l = length-take ((k + 1) * size - start - from) (drop from bytes) in
    let m = length-drop from bytes in
    omega arith

pub bytes_in-at : (size start : ℕ) (bytes : List ℕ) (k i j : ℕ) → i < (k + 1) * size - start - (k * size - start) → k * size - start + i ≡ j
    → get_or (bytes_in size start bytes k) i 0 ≡ get_or bytes j 0
unfolding bytes_in
bytes_in-at size start bytes k i j h e =
    let from = k * size - start in
    get_or-take ((k + 1) * size - start - from) (drop from bytes) i 0 h ∙ get_or-drop from bytes i 0 ∙ ap (λ p. get_or bytes p 0) e

-- ---- a value with bytes merged in
-- put together from the front on
pub merged_parts : (old bytes : List ℕ) (at n : ℕ) (s b t v w x y : List ℕ) → s ≡ old → b ≡ bytes → n ≡ at + length bytes → t ≡ drop n old
    → v ≡ [] → w ≡ v ++ take at s → x ≡ w ++ b → y ≡ x ++ t → y ≡ merged old at bytes
unfolding merged
merged_parts old bytes at n s b t v w x y lent more count tail none front middle whole =
    let begun : w ≡ take at old = front ∙ ap (λ z. z ++ take at s) none ∙ ap (take at) lent in
    let behind : t ≡ drop (at + length bytes) old = tail ∙ ap (λ i. drop i old) count in
    cc

pub merged_whole : (old : List ℕ) (at : ℕ) (bytes : List ℕ) → at ≡ 0 → length old ≤ length bytes → merged old at bytes ≡ bytes
unfolding merged
merged_whole old at bytes none all =
    ap (λ a. take a old ++ bytes ++ drop (at + length bytes) old) none
    ∙ ap (λ z. bytes ++ z) (drop_all (at + length bytes) old (omega arith))
    ∙ append-nil bytes

pub length-merged : (old : List ℕ) (at : ℕ) (bytes : List ℕ) → at + length bytes ≤ length old → length (merged old at bytes) ≡ length old
unfolding merged
length-merged old at bytes fits =
    let behind = drop (at + length bytes) old in
    let a = length-append (take at old ++ bytes) behind in
    let b = length-append (take at old) bytes in
    let t = length-take at old in
    let d = length-drop (at + length bytes) old in
    omega arith

pub merged-inside : (old : List ℕ) (at : ℕ) (bytes : List ℕ) (i j : ℕ) → at + length bytes ≤ length old → j < length bytes → at + j ≡ i
    → get_or (merged old at bytes) i 0 ≡ get_or bytes j 0
unfolding merged
merged-inside old at bytes i j fits within e =
    let front : length (take at old) ≡ at = let t = length-take at old in omega arith in
    let count = length-append (take at old) bytes in
    let place : i - at ≡ j = omega arith in
    get_or_append_left (take at old ++ bytes) (drop (at + length bytes) old) 0 i (omega arith)
    ∙ get_or-append_right (take at old) bytes at i 0 front (omega arith)
    ∙ ap (λ p. get_or bytes p 0) place

pub merged-outside : (old : List ℕ) (at : ℕ) (bytes : List ℕ) (i : ℕ) → at + length bytes ≤ length old → (i < at) ⊎ (at + length bytes ≤ i)
    → get_or (merged old at bytes) i 0 ≡ get_or old i 0
unfolding merged
merged-outside old at bytes i fits (inl before) =
    let front : length (take at old) ≡ at = let t = length-take at old in omega arith in
    let count = length-append (take at old) bytes in
    get_or_append_left (take at old ++ bytes) (drop (at + length bytes) old) 0 i (omega arith)
    ∙ get_or_append_left (take at old) bytes 0 i (omega arith)
    ∙ get_or-take at old i 0 before
merged-outside old at bytes i fits (inr behind) =
    let front : length (take at old) ≡ at = let t = length-take at old in omega arith in
    let count : length (take at old ++ bytes) ≡ at + length bytes = length-append (take at old) bytes ∙ ap (λ n. n + length bytes) front in
    let place : at + length bytes + (i - (at + length bytes)) ≡ i = omega arith in
    get_or-append_right (take at old ++ bytes) (drop (at + length bytes) old) (at + length bytes) i 0 count behind
    ∙ get_or-drop (at + length bytes) old (i - (at + length bytes)) 0
    ∙ ap (λ p. get_or old p 0) place
