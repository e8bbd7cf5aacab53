-- A get of what a put left.
use Rattle.std.proofs.Common.{◌≡◌, ℕ, zero, suc, ◌+◌, ◌-◌, ◌*◌, ◌/◌, ◌%◌, ◌<◌, ◌≤◌, ◌⊎◌, min, max, List, [], ◌∷◌, ◌++◌, length, drop, refl, sym, ap, ◌∙◌, subst, inl, inr, arith}
use Rattle.std.specs.Prelude.{slice_index}
use Rattle.std.specs.List.{Contains, slice_range, range_with_len}
use Rattle.std.proofs.lemmas.Bool.{lt-ltb}
use Rattle.std.proofs.Math.Nat.{div-mul-le_self, lt-div-mul-add}
use Rattle.std.proofs.lemmas.Nat.{div_below}
use Rattle.std.proofs.lemmas.List.{ext_get_or, length-take, length-drop, get_or-take, get_or-drop}
use Rattle.std.proofs.lemmas.List.Elements.{Contains-append_cases}
use Rattle.std.proofs.lemmas.List.FromFn.{length-map-range_with_len, get_or-map-range_with_len}
use Rattle.quorum_rules.specs.Limits.{Numbers}
use Rattle.wire_forms.specs.declared.device.DeviceOp.{DeviceOp}
use Rattle.block_device.specs.Ranges.{start_of, len_of, is_touched, touched}
use Rattle.block_device.specs.Device.{byte_at, bytes_of, merged}
use Rattle.block_device.specs.declared.steps.BlockStep.{BlockStep}
use Rattle.protocol.specs.Setting.{Setting}
use Rattle.protocol.specs.History.{Entry}
use Rattle.node_device.specs.Moments.{values_at, HasEndedBefore, HasBegunFrom, IsQuiet}
use Rattle.node_device.specs.Commands.{seen_after, AreSteps}
use Rattle.node_device.proofs.Moments.{IsOrderly, unchanged}
use Rattle.node_device.proofs.Following.{own_late}
use Rattle.node_device.proofs.Arrays.{merged_inside, length_merged}
use Rattle.lists.proofs.lemmas.Members.{Contains-head, Contains-none, Contains-rest, Contains-cons_cases, filter_has}

-- ---- ranges
in_numbers : (a n k : ℕ) → a ≤ k → k < a + n → Contains (range_with_len a n) k
in_numbers a zero k low high = absurd (omega arith)
in_numbers a (suc n) k low high =
    let rest = λ (l : a + 1 ≤ k). in_numbers (a + 1) n k l (omega (arith, high)) in
    let either : (k ≡ a) ⊎ (a + 1 ≤ k) = grind arith in
    elim either [ inl e ↦ subst (Contains (a ∷ range_with_len (a + 1) n)) (sym e) (Contains-head a (range_with_len (a + 1) n)) | inr l ↦ Contains-rest k a (range_with_len (a + 1) n) (rest l) ]

-- the block of a byte of the range is touched
block_touched : (c : Numbers) (op : DeviceOp) (p : ℕ) → 0 < c.size → start_of op + len_of op ≤ c.size * c.blocks → start_of op ≤ p → p < start_of op + len_of op → Contains (touched c op) (p / c.size)
unfolding touched is_touched
block_touched c op p sized within low high =
    let k = p / c.size in
    let below : k < c.blocks = div_below p c.size c.blocks sized (omega (arith, high, within)) in
    let first = div-mul-le_self p c.size in
    let last : p < k * c.size + c.size = lt-div-mul-add sized in
    let more : (k + 1) * c.size ≡ k * c.size + c.size = omega arith in
    filter_has (is_touched c.size (start_of op) (len_of op)) (range_with_len 0 c.blocks) k (in_numbers 0 c.blocks k (omega arith) (omega (arith, below)))
    (lt-ltb (max (start_of op) (k * c.size)) (min (start_of op + len_of op) ((k + 1) * c.size)) (omega (arith, low, high, first, last, more)))

-- blocks that agree where the range touches them
pub same_range : (c : Numbers) (op : DeviceOp) (f g : ℕ → List ℕ) → 0 < c.size → start_of op + len_of op ≤ c.size * c.blocks → ((k : ℕ) → Contains (touched c op) k → f k ≡ g k)
    → bytes_of c.size f (start_of op) (len_of op) ≡ bytes_of c.size g (start_of op) (len_of op)
unfolding byte_at
same_range c op f g sized within same =
    let start = start_of op in
    let len = len_of op in
    let m = length-map-range_with_len (byte_at c.size f) start len in
    let n = length-map-range_with_len (byte_at c.size g) start len in
    ext_get_or 0 (bytes_of c.size f start len) (bytes_of c.size g start len) (m ∙ sym n)
    (λ i h.
    let i_in : i < len = omega (arith, m, h) in
    get_or-map-range_with_len (byte_at c.size f) start len i (start + i) 0 i_in refl
    ∙ ap (λ v. slice_index v ((start + i) % c.size)) (same ((start + i) / c.size) (block_touched c op (start + i) sized within (omega arith) (omega (arith, i_in))))
    ∙ sym (get_or-map-range_with_len (byte_at c.size g) start len i (start + i) 0 i_in refl))

-- the bytes that were put stand in their range
pub merged_range : (old bytes : List ℕ) (start : ℕ) → start + length bytes ≤ length old → slice_range (merged old start bytes) start (start + length bytes) ≡ bytes
merged_range old bytes start within =
    let all = merged old start bytes in
    let n : start + length bytes - start ≡ length bytes = omega arith in
    let t = length-take (start + length bytes - start) (drop start all) in
    let d = length-drop start all in
    let long = length_merged old bytes start within in
    let size : length (slice_range all start (start + length bytes)) ≡ length bytes = omega (arith, t, d, long, within) in
    ext_get_or 0 (slice_range all start (start + length bytes)) bytes size
    (λ i h.
    let i_in : i < length bytes = omega (arith, size, h) in
    get_or-take (start + length bytes - start) (drop start all) i 0 (omega (arith, i_in))
    ∙ get_or-drop start all i 0
    ∙ merged_inside old bytes start within i i_in)

-- ---- the operations of a command, and those of a later one
module _ (s : Setting) (h : List Entry) (o : IsOrderly s h) where
  pub own_early : (steps : List BlockStep) (own : List Entry) (seen : ℕ → List ℕ) (from until : ℕ) → ((e : Entry) → Contains own e → Contains h e) → AreSteps seen from steps own until
      → (f : Entry) → Contains own f → HasEndedBefore until f
  own_early [] [] seen from until there are f c = absurd (Contains-none f c)
  own_early (step ∷ steps) (e ∷ own) seen from until there are f c =
      let end = are.2.0 in
      let rest = λ (b : Contains own f). own_early steps own (seen_after e.kind e seen) (end + 1) until (λ g d. there g (Contains-rest g e own d)) are.2.2 f b in
      let last = (own_late s h o steps own (seen_after e.kind e seen) (end + 1) until (λ g d. there g (Contains-rest g e own d)) are.2.2).0 in
      elim (Contains-cons_cases f e own c) [
        | inl same ↦ (end, ap (λ (x : Entry). x.end) same ∙ are.2.1, omega (arith, last))
        | inr behind ↦ rest behind
      ]
  own_early [] (e ∷ own) seen from until there are f c = absurd are
  own_early (step ∷ steps) [] seen from until there are f c = absurd are

  module _ (own later : List Entry) (from until again end : ℕ) (first : from ≤ until) (next : until ≤ again) (last : again ≤ end)
      (early : (f : Entry) → Contains own f → HasEndedBefore until f) (late : (f : Entry) → Contains later f → HasBegunFrom again f) (k : ℕ) (quiet : IsQuiet h (own ++ later) from end k) where
    sooner : (p q : ℕ) (e : Entry) → HasEndedBefore p e → p ≤ q → HasEndedBefore q e
    sooner p q e ended l = (ended.0, ended.1, omega (arith, ended.2, l))

    behind : (p q : ℕ) (e : Entry) → HasBegunFrom q e → p ≤ q → HasBegunFrom p e
    behind p q e begun l = (begun.0, begun.1, omega (arith, begun.2, l))

    pub quiet_first : IsQuiet h own from until k
    quiet_first f c block = elim (quiet f c block) [
      | inl mine ↦ elim (Contains-append_cases own later f mine) [ inl a ↦ inl a | inr b ↦ inr (inr (behind until again f (late f b) next)) ]
      | inr (inl ended) ↦ inr (inl ended)
      | inr (inr begun) ↦ inr (inr (behind until end f begun (omega (arith, next, last))))
    ]

    pub quiet_later : IsQuiet h later again end k
    quiet_later f c block = elim (quiet f c block) [
      | inl mine ↦ elim (Contains-append_cases own later f mine) [ inl a ↦ inr (inl (sooner until again f (early f a) next)) | inr b ↦ inl b ]
      | inr (inl ended) ↦ inr (inl (sooner from again f ended (omega (arith, first, next))))
      | inr (inr begun) ↦ inr (inr begun)
    ]

    pub stays_between : values_at s h again k ≡ values_at s h until k
    stays_between = unchanged s h o k until again next (λ f c block. elim (quiet f c block) [
      | inl mine ↦ elim (Contains-append_cases own later f mine) [ inl a ↦ inr (inl (early f a)) | inr b ↦ inr (inr (late f b)) ]
      | inr (inl ended) ↦ inr (inl (sooner from until f ended first))
      | inr (inr begun) ↦ inr (inr (behind again end f begun last))
    ])
