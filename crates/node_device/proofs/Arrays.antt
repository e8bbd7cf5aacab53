-- Blocks as parts of one array.
use Rattle.std.proofs.Common.{◌≡◌, ℕ, zero, suc, ◌+◌, ◌-◌, ◌*◌, ◌<◌, ◌≤◌, List, ◌++◌, inl, inr, length, take, drop, get_or, refl, sym, ap, ◌∙◌, arith}
use Rattle.std.specs.List.{flat_map, slice_range, range_with_len}
use Rattle.std.proofs.lemmas.Bool.{cases_lt}
use Rattle.std.proofs.Math.Nat.{mul-le-mul_right}
use Rattle.std.proofs.lemmas.List.{ext_get_or, length-take, length-drop, length-append, get_or-take, get_or-drop, get_or_append_left, get_or-append_right}
use Rattle.std.proofs.lemmas.List.FromFn.{length-map-range_with_len, get_or-map-range_with_len}
use Rattle.block_device.specs.Device.{byte_at, bytes_of, merged, AreBlocks, IsWritten}
use Rattle.node_device.specs.Moments.{array_of}
use Rattle.block_device.proofs.lemmas.Reading.{byte_in, length-blocks, blocks_at}

-- ---- neighbouring blocks

same_blocks : (f g : ℕ → List ℕ) (n first : ℕ) → ((k : ℕ) → first ≤ k → k < first + n → f k ≡ g k) → flat_map f (range_with_len first n) ≡ flat_map g (range_with_len first n)
same_blocks f g zero first h = refl
same_blocks f g (suc n) first h =
    ap (λ z. z ++ flat_map f (range_with_len (first + 1) n)) (h first (omega arith) (omega arith))
    ∙ ap (λ z. g first ++ z) (same_blocks f g n (first + 1) (λ k low high. h k (omega arith) (omega arith)))

-- arrays of the same blocks
pub same_array : (blocks : ℕ) (f g : ℕ → List ℕ) → ((k : ℕ) → k < blocks → f k ≡ g k) → array_of blocks f ≡ array_of blocks g
same_array blocks f g h = same_blocks f g blocks 0 (λ k low high. h k (omega arith))

module _ (size blocks : ℕ) (held : ℕ → List ℕ) (are : AreBlocks size blocks held) where
  pub length_array : length (array_of blocks held) ≡ blocks * size
  length_array = length-blocks size held blocks 0 (λ k low high. are k (omega arith))

  pub array_at : (p : ℕ) → p < blocks * size → get_or (array_of blocks held) p 0 ≡ byte_at size held p
  array_at p below =
      let none : 0 * size + p ≡ p = omega arith in
      blocks_at size held blocks 0 p (λ k low high. are k (omega arith)) below ∙ ap (byte_at size held) none

  length_range : (start len : ℕ) → start + len ≤ blocks * size → length (slice_range (array_of blocks held) start (start + len)) ≡ len
  length_range start len within =
      let t = length-take (start + len - start) (drop start (array_of blocks held)) in
      let e = length-drop start (array_of blocks held) in
      omega (arith, t, e, length_array, within)

  range_at : (start len i : ℕ) → start + len ≤ blocks * size → i < len → get_or (slice_range (array_of blocks held) start (start + len)) i 0 ≡ byte_at size held (start + i)
  range_at start len i within below =
      get_or-take (start + len - start) (drop start (array_of blocks held)) i 0 (omega arith)
      ∙ get_or-drop start (array_of blocks held) i 0
      ∙ array_at (start + i) (omega (arith, within, below))

  -- a range of the device's bytes is one of the array
  pub range_of : (start len : ℕ) → start + len ≤ blocks * size → bytes_of size held start len ≡ slice_range (array_of blocks held) start (start + len)
  range_of start len within =
      ext_get_or 0 (bytes_of size held start len) (slice_range (array_of blocks held) start (start + len)) (length-map-range_with_len (byte_at size held) start len ∙ sym (length_range start len within))
      (λ i h. get_or-map-range_with_len (byte_at size held) start len i (start + i) 0 (let n = length-map-range_with_len (byte_at size held) start len in omega (arith, n, h)) refl
      ∙ sym (range_at start len i within (let n = length-map-range_with_len (byte_at size held) start len in omega (arith, n, h))))

  -- and so is a block
  pub block_of : (k : ℕ) → k < blocks → held k ≡ slice_range (array_of blocks held) (k * size) ((k + 1) * size)
  block_of k below =
      let more : (k + 1) * size ≡ k * size + size = omega arith in
      let fits : (k + 1) * size ≤ blocks * size = mul-le-mul_right size (omega arith) in
      let within : k * size + size ≤ blocks * size = omega (arith, more, fits) in
      ext_get_or 0 (held k) (slice_range (array_of blocks held) (k * size) (k * size + size)) (are k below ∙ sym (length_range (k * size) size within))
      (λ i h. byte_in size held k i (let n = are k below in omega (arith, n, h)) ∙ sym (range_at (k * size) size i within (let n = are k below in omega (arith, n, h))))
      ∙ ap (λ n. slice_range (array_of blocks held) (k * size) n) (sym more)

-- ---- bytes put into an array
module _ (old bytes : List ℕ) (start : ℕ) (within : start + length bytes ≤ length old) where
  front_len : length (take start old ++ bytes) ≡ start + length bytes
  front_len = let a = length-append (take start old) bytes in let t = length-take start old in omega (arith, a, t, within)

  pub length_merged : length (merged old start bytes) ≡ length old
  unfolding merged
  length_merged =
      let behind = drop (start + length bytes) old in
      let a = length-append (take start old ++ bytes) behind in
      let d = length-drop (start + length bytes) old in
      omega (arith, a, front_len, d, within)

  pub merged_before : (p : ℕ) → p < start → get_or (merged old start bytes) p 0 ≡ get_or old p 0
  unfolding merged
  merged_before p below =
      let t = length-take start old in
      get_or_append_left (take start old ++ bytes) (drop (start + length bytes) old) 0 p (omega (arith, front_len, below))
      ∙ get_or_append_left (take start old) bytes 0 p (omega (arith, t, within, below))
      ∙ get_or-take start old p 0 below

  pub merged_inside : (i : ℕ) → i < length bytes → get_or (merged old start bytes) (start + i) 0 ≡ get_or bytes i 0
  unfolding merged
  merged_inside i below =
      let t = length-take start old in
      let n : start + i - start ≡ i = omega arith in
      get_or_append_left (take start old ++ bytes) (drop (start + length bytes) old) 0 (start + i) (omega (arith, front_len, below))
      ∙ get_or-append_right (take start old) bytes start (start + i) 0 (omega (arith, t, within)) (omega arith)
      ∙ ap (λ j. get_or bytes j 0) n

  pub merged_behind : (p : ℕ) → start + length bytes ≤ p → get_or (merged old start bytes) p 0 ≡ get_or old p 0
  unfolding merged
  merged_behind p beyond =
      let place : start + length bytes + (p - (start + length bytes)) ≡ p = omega (arith, beyond) in
      get_or-append_right (take start old ++ bytes) (drop (start + length bytes) old) (start + length bytes) p 0 front_len beyond
      ∙ get_or-drop (start + length bytes) old (p - (start + length bytes)) 0
      ∙ ap (λ j. get_or old j 0) place

-- what a put writes, as an array
pub written_array : (size blocks start : ℕ) (bytes : List ℕ) (old new : ℕ → List ℕ) → AreBlocks size blocks old → AreBlocks size blocks new → start + length bytes ≤ blocks * size → IsWritten size old new start bytes
    → array_of blocks new ≡ merged (array_of blocks old) start bytes
written_array size blocks start bytes old new were are within is =
    let before = length_array size blocks old were in
    let behind = length_array size blocks new are in
    let fits : start + length bytes ≤ length (array_of blocks old) = omega (arith, before, within) in
    ext_get_or 0 (array_of blocks new) (merged (array_of blocks old) start bytes) (behind ∙ sym before ∙ sym (length_merged (array_of blocks old) bytes start fits))
    (λ p h.
    let low : p < blocks * size = omega (arith, behind, h) in
    let was = array_at size blocks old were p low in
    let now = array_at size blocks new are p low in
    elim (cases_lt p start) [
      | inl early ↦ now ∙ is.outside p (inl early) ∙ sym was ∙ sym (merged_before (array_of blocks old) bytes start fits p early)
      | inr late ↦ elim (cases_lt p (start + length bytes)) [
        | inl inside ↦
            let place : start + (p - start) ≡ p = omega (arith, late) in
            let i : p - start < length bytes = omega (arith, late, inside) in
            now ∙ ap (byte_at size new) (sym place) ∙ is.inside (p - start) i ∙ sym (merged_inside (array_of blocks old) bytes start fits (p - start) i) ∙ ap (λ q. get_or (merged (array_of blocks old) start bytes) q 0) place
        | inr beyond ↦ now ∙ is.outside p (inr beyond) ∙ sym was ∙ sym (merged_behind (array_of blocks old) bytes start fits p beyond)
      ]
    ])
