-- What the steps of a get read.
use Rattle.std.proofs.Common.{◌≡◌, ℕ, zero, suc, ◌+◌, ◌-◌, ◌*◌, ◌/◌, ◌%◌, ◌<◌, ◌≤◌, List, [], ◌∷◌, inl, inr, None, length, drop, map, get_or, refl, sym, ap, ◌∙◌, arith}
use Rattle.std.specs.List.{flat_map, concat, slice_range, range_with_len}
use Rattle.std.proofs.lemmas.Bool.{cases_lt}
use Rattle.std.proofs.lemmas.Nat.{div-add-mod', div-mul-add, mod-mul-add}
use Rattle.std.proofs.lemmas.List.{ext_get_or, length-take, length-drop, length-append, get_or-take, get_or-drop, get_or_append_left, get_or-append_right}
use Rattle.std.proofs.lemmas.List.Concat.{concat_is}
use Rattle.std.proofs.lemmas.List.Folds.{flat_map-map}
use Rattle.std.proofs.lemmas.List.FromFn.{length-map-range_with_len, get_or-map-range_with_len}
use Rattle.quorum_rules.specs.Limits.{Numbers}
use Rattle.wire_forms.specs.declared.device.DeviceOp.TheVariants.{Get}
use Rattle.block_device.specs.Ranges.{fault_of, touched}
use Rattle.block_device.specs.Steps.{steps_in, steps_of}
use Rattle.block_device.specs.Device.{Device, after_step, after, reads, byte_at, bytes_of, AreBlocks}
use Rattle.block_device.specs.declared.steps.BlockStep.TheVariants.{Read}
use Rattle.block_device.proofs.lemmas.Touching.{IsWithin, within_if, touched_range, first_before_last, last_place, last_block}

-- ---- reads of blocks
reads_of : (size start len : ℕ) (ks : List ℕ) (d : Device) → reads (flat_map (steps_in size (Get start len)) ks) d ≡ map d.held ks
reads_of size start len [] d = refl
reads_of size start len (k ∷ ks) d = ap (λ z. d.held k ∷ z) (reads_of size start len ks (after_step (Read k) d))

held_after : (size start len : ℕ) (ks : List ℕ) (d : Device) → (after (flat_map (steps_in size (Get start len)) ks) d).held ≡ d.held
held_after size start len [] d = refl
held_after size start len (k ∷ ks) d = held_after size start len ks (after_step (Read k) d)

pub get_keeps : (c : Numbers) (d : Device) (start len : ℕ) → (after (steps_of c (Get start len)) d).held ≡ d.held
get_keeps c d start len = held_after c.size start len (touched c (Get start len)) d

-- ---- neighbouring blocks as one string
pub byte_in : (size : ℕ) (held : ℕ → List ℕ) (k at : ℕ) → at < size → get_or (held k) at 0 ≡ byte_at size held (k * size + at)
unfolding byte_at
byte_in size held k at h =
    ap (λ j. get_or (held j) at 0) (sym (div-mul-add k size at h))
    ∙ ap (λ i. get_or (held ((k * size + at) / size)) i 0) (sym (mod-mul-add k size at h))

pub length-blocks : (size : ℕ) (held : ℕ → List ℕ) (n first : ℕ) → ((k : ℕ) → first ≤ k → k < first + n → length (held k) ≡ size)
    → length (flat_map held (range_with_len first n)) ≡ n * size
length-blocks size held zero first h = omega arith
length-blocks size held (suc n) first h =
    let more = length-blocks size held n (first + 1) (λ k low high. h k (omega arith) (omega arith)) in
    let one = h first (omega arith) (omega arith) in
    let both = length-append (held first) (flat_map held (range_with_len (first + 1) n)) in
    omega arith

pub blocks_at : (size : ℕ) (held : ℕ → List ℕ) (n first q : ℕ) → ((k : ℕ) → first ≤ k → k < first + n → length (held k) ≡ size) → q < n * size
    → get_or (flat_map held (range_with_len first n)) q 0 ≡ byte_at size held (first * size + q)
blocks_at size held zero first q h below = absurd (omega arith)
blocks_at size held (suc n) first q h below =
    let rest = flat_map held (range_with_len (first + 1) n) in
    let one = h first (omega arith) (omega arith) in
    elim (cases_lt q size) [
      | inl here ↦ get_or_append_left (held first) rest 0 q (omega arith) ∙ byte_in size held first q here
      | inr later ↦
          let place : (first + 1) * size + (q - size) ≡ first * size + q = omega arith in
          get_or-append_right (held first) rest size q 0 one later
          ∙ blocks_at size held n (first + 1) (q - size) (λ k low high. h k (omega arith) (omega arith)) (omega arith)
          ∙ ap (byte_at size held) place
    ]

joined : (held : ℕ → List ℕ) (ks : List ℕ) → concat (map held ks) ≡ flat_map held ks
joined held ks = concat_is (map held ks) ∙ flat_map-map (λ (x : List ℕ). x) held ks

-- ---- a get
pub get_gives : (c : Numbers) (d : Device) (start len : ℕ) → AreBlocks c.size c.blocks d.held → fault_of c (Get start len) ≡ None
    → slice_range (concat (reads (steps_of c (Get start len)) d)) (start % c.size) (start % c.size + len) ≡ bytes_of c.size d.held start len
unfolding touched
get_gives c d start len blocks faultless =
    let size = c.size in
    let within : IsWithin size c.blocks start len = within_if c (Get start len) faultless in
    let first = start / size in
    let last = (start + len - 1) / size in
    let from = start % size in
    let order = first_before_last size start len within.sized within.some in
    let below = last_block size c.blocks start len within in
    let n = last + 1 - first in
    let count : first + n ≡ last + 1 = omega arith in
    let place : first * size + from ≡ start = div-add-mod' start size in
    let string = flat_map d.held (range_with_len first n) in
    let whole : (k : ℕ) → first ≤ k → k < first + n → length (d.held k) ≡ size = λ k low high. blocks k (omega arith) in
    let most : (first + n) * size ≡ (last + 1) * size = ap (λ z. z * size) count in
    let end = last_place size (start + len - 1) within.sized in
    let long : length string ≡ n * size = length-blocks size d.held n first whole in
    let some = within.some in
    let enough : from + len ≤ n * size = omega arith in
    let cut : length (slice_range string from (from + len)) ≡ len =
    let t = length-take (from + len - from) (drop from string) in let e = length-drop from string in omega arith in
    ap (λ s. slice_range (concat s) from (from + len)) (reads_of size start len (touched c (Get start len)) d)
    ∙ ap (λ ks. slice_range (concat (map d.held ks)) from (from + len)) (touched_range size c.blocks start len n within.sized within.some within.end count)
    ∙ ap (λ s. slice_range s from (from + len)) (joined d.held (range_with_len first n))
    ∙ ext_get_or 0 (slice_range string from (from + len)) (bytes_of size d.held start len) (cut ∙ sym (length-map-range_with_len (byte_at size d.held) start len))
    (λ i h.
    let there : first * size + (from + i) ≡ start + i = omega arith in
    get_or-take (from + len - from) (drop from string) i 0 (omega arith)
    ∙ get_or-drop from string i 0
    ∙ blocks_at size d.held n first (from + i) whole (omega arith)
    ∙ ap (byte_at size d.held) there
    ∙ sym (get_or-map-range_with_len (byte_at size d.held) start len i (start + i) 0 (omega arith) refl))
