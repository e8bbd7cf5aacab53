-- What the steps of a put do to blocks.
use Rattle.std.proofs.Common.{◌≡◌, ◌≢◌, ℕ, zero, suc, ◌+◌, ◌-◌, ◌*◌, ◌/◌, ◌%◌, ◌<◌, ◌≤◌, List, [], ◌∷◌, ◌++◌, ◌⊎◌, inl, inr, None, length, get_or, refl, sym, ap, subst, ◌∙◌, arith}
use Rattle.std.specs.List.{flat_map, range_with_len}
use Rattle.std.proofs.lemmas.Bool.{eq-eqb, ne_eqb, cases_lt}
use Rattle.std.proofs.lemmas.Nat.{le-div, div-add-mod', mod_below}
use Rattle.quorum_rules.specs.Limits.{Numbers}
use Rattle.wire_forms.specs.declared.device.DeviceOp.TheVariants.{Put}
use Rattle.block_device.specs.Ranges.{fault_of, touched, bytes_in}
use Rattle.block_device.specs.Steps.{put_steps, steps_of}
use Rattle.block_device.specs.Device.{Device, but_at, merged, after_step, after, byte_at, AreBlocks, IsWritten}
use Rattle.block_device.specs.declared.steps.BlockStep.{BlockStep}
use Rattle.block_device.proofs.lemmas.Touching.{IsWithin, within_if, between_reaches, touched_range, first_before_last, first_place, last_block}
use Rattle.block_device.proofs.lemmas.Merges.{whole_or_partly, put_whole, put_partly, length-bytes_in, bytes_in-at, merged_whole, length-merged, merged-inside, merged-outside}

-- ---- steps one after the other
but_at-same : (f : ℕ → List ℕ) (k : ℕ) (value : List ℕ) → but_at f k value k ≡ value
but_at-same f k value = rw (eq-eqb k k refl) refl

but_at-other : (f : ℕ → List ℕ) (k : ℕ) (value : List ℕ) (j : ℕ) → j ≢ k → but_at f k value j ≡ f j
but_at-other f k value j apart = rw (ne_eqb j k apart) refl

after-append : (steps more : List BlockStep) (d : Device) → after (steps ++ more) d ≡ after more (after steps d)
after-append [] more d = refl
after-append (step ∷ steps) more d = after-append steps more (after_step step d)

-- ---- a put in one block that its range touches
-- what the block holds then
abbrev put_in : ℕ → ℕ → List ℕ → ℕ → List ℕ → List ℕ
put_in size start bytes k old = merged old (start - k * size) (bytes_in size start bytes k)

-- the block holds a block's bytes, and the range has one of them
record IsReached (size start len k : ℕ) (old : List ℕ) : Type 0 where
  pub block : length old ≡ size
  pub low : k * size < start + len
  pub high : start < (k + 1) * size

-- the put is done in the n blocks from first on, and no other block is changed
record HasPut (size start : ℕ) (bytes : List ℕ) (first n : ℕ) (old new : ℕ → List ℕ) : Type 0 where
  pub inside : (j : ℕ) → first ≤ j → j < first + n → new j ≡ put_in size start bytes j (old j)
  pub outside : (j : ℕ) → (j < first) ⊎ (first + n ≤ j) → new j ≡ old j

put_one : (size start : ℕ) (bytes : List ℕ) (k : ℕ) (d : Device) → IsReached size start (length bytes) k (d.held k)
    → ((after (put_steps size start bytes k) d).held k ≡ put_in size start bytes k (d.held k)) × ((j : ℕ) → j ≢ k → (after (put_steps size start bytes k) d).held j ≡ d.held j)
put_one size start bytes k d r =
    let at = start - k * size in
    let held = bytes_in size start bytes k in
    let count = length-bytes_in size start bytes k r.low r.high in
    let block = r.block in
    let Done : List BlockStep → Type 0 = λ steps. ((after steps d).held k ≡ put_in size start bytes k (d.held k)) × ((j : ℕ) → j ≢ k → (after steps d).held j ≡ d.held j) in
    elim (whole_or_partly size start (length bytes) k) [
      | inl all ↦
          let a = all.0 in let b = all.1 in
          subst Done (sym (put_whole size start bytes k all.0 all.1))
          (but_at-same d.held k held ∙ sym (merged_whole (d.held k) at held (omega arith) (omega arith)), λ j apart. but_at-other d.held k held j apart)
      | inr part ↦
          let seen = but_at d.seen k (d.held k) k in
          subst Done (sym (put_partly size start bytes k part)) (
            but_at-same d.held k (merged seen at held) ∙ ap (λ z. merged z at held) (but_at-same d.seen k (d.held k)),
            λ j apart. but_at-other d.held k (merged seen at held) j apart,
          )
    ]

-- ---- a put in neighbouring blocks
put_range : (size start : ℕ) (bytes : List ℕ) (n first : ℕ) (d : Device) → ((k : ℕ) → first ≤ k → k < first + n → IsReached size start (length bytes) k (d.held k))
    → HasPut size start bytes first n d.held (after (flat_map (put_steps size start bytes) (range_with_len first n)) d).held
put_range size start bytes zero first d all = record { inside = λ j low high. absurd (omega arith); outside = λ j h. refl }
put_range size start bytes (suc n) first d all =
    let next = after (put_steps size start bytes first) d in
    let one = put_one size start bytes first d (all first (omega arith) (omega arith)) in
    let others = one.1 in
    let more =
    put_range size start bytes n (first + 1) next
    (λ k low high.
    let r = all k (omega arith) (omega arith) in
    record { block = ap (length {A = ℕ}) (others k (λ e. omega arith)) ∙ r.block; low = r.low; high = r.high }) in
    let last = after-append (put_steps size start bytes first) (flat_map (put_steps size start bytes) (range_with_len (first + 1) n)) d in
    let at : (j : ℕ) → (after (flat_map (put_steps size start bytes) (range_with_len first (suc n))) d).held j ≡ (after (flat_map (put_steps size start bytes) (range_with_len (first + 1) n)) next).held j =
    λ j. ap (λ (e : Device). e.held j) last in
    record {
      inside = λ j low high.
          at j
          ∙ elim (cases_lt first j) [
            | inl later ↦ more.inside j (omega arith) (omega arith) ∙ ap (put_in size start bytes j) (others j (λ e. omega arith))
            | inr now ↦
                let same : first ≡ j = omega arith in
                more.outside j (inl (omega arith)) ∙ subst (λ i. next.held i ≡ put_in size start bytes i (d.held i)) same one.0
          ];
      outside = λ j h.
          at j
          ∙ elim h [
            | inl before ↦ more.outside j (inl (omega arith)) ∙ others j (λ e. omega arith)
            | inr behind ↦ more.outside j (inr (omega arith)) ∙ others j (λ e. omega arith)
          ];
    }

-- ---- a put
-- the put is done in the n blocks that its range touches
record IsPut (c : Numbers) (start : ℕ) (bytes : List ℕ) (old new : ℕ → List ℕ) : Type 0 where
  pub within : IsWithin c.size c.blocks start (length bytes)
  pub n : ℕ
  pub count : start / c.size + n ≡ (start + length bytes - 1) / c.size + 1
  pub reached : (k : ℕ) → start / c.size ≤ k → k < start / c.size + n → IsReached c.size start (length bytes) k (old k)
  pub put : HasPut c.size start bytes (start / c.size) n old new

put_done : (c : Numbers) (d : Device) (start : ℕ) (bytes : List ℕ) → AreBlocks c.size c.blocks d.held → fault_of c (Put start bytes) ≡ None
    → IsPut c start bytes d.held (after (steps_of c (Put start bytes)) d).held
unfolding touched
put_done c d start bytes blocks faultless =
    let within : IsWithin c.size c.blocks start (length bytes) = within_if c (Put start bytes) faultless in
    let first = start / c.size in
    let last = (start + length bytes - 1) / c.size in
    let order = first_before_last c.size start (length bytes) within.sized within.some in
    let n = last + 1 - first in
    let count : first + n ≡ last + 1 = omega arith in
    let all = touched_range c.size c.blocks start (length bytes) n within.sized within.some within.end count in
    let below = last_block c.size c.blocks start (length bytes) within in
    let reached : (k : ℕ) → first ≤ k → k < first + n → IsReached c.size start (length bytes) k (d.held k) =
    λ k low high.
    let r = between_reaches c.size start (length bytes) k within.sized within.some (record { from = low; to = omega arith }) in
    record { block = blocks k (omega arith); low = r.0; high = r.1 } in
    record {
      within = within;
      n = n;
      count = count;
      reached = reached;
      put = subst (λ ks. HasPut c.size start bytes first n d.held (after (flat_map (put_steps c.size start bytes) ks) d).held) (sym all)
          (put_range c.size start bytes n first d reached);
    }

-- what is merged in has its place in the block
merged_fits : (size start : ℕ) (bytes : List ℕ) (k : ℕ) (old : List ℕ) → IsReached size start (length bytes) k old
    → start - k * size + length (bytes_in size start bytes k) ≤ length old
merged_fits size start bytes k old r =
    let count = length-bytes_in size start bytes k r.low r.high in
    let block = r.block in
    omega arith

pub put_keeps_blocks : (c : Numbers) (d : Device) (start : ℕ) (bytes : List ℕ) → AreBlocks c.size c.blocks d.held → fault_of c (Put start bytes) ≡ None
    → AreBlocks c.size c.blocks (after (steps_of c (Put start bytes)) d).held
put_keeps_blocks c d start bytes blocks faultless k below =
    let p = put_done c d start bytes blocks faultless in
    let first = start / c.size in
    let outside : (k < first) ⊎ (first + p.n ≤ k) → length ((after (steps_of c (Put start bytes)) d).held k) ≡ c.size =
    λ h. ap (length {A = ℕ}) (p.put.outside k h) ∙ blocks k below in
    elim (cases_lt k first) [
      | inl before ↦ outside (inl before)
      | inr low ↦
          elim (cases_lt k (first + p.n)) [
            | inl high ↦
                let r = p.reached k low high in
                ap (length {A = ℕ}) (p.put.inside k low high)
                ∙ length-merged (d.held k) (start - k * c.size) (bytes_in c.size start bytes k) (merged_fits c.size start bytes k (d.held k) r)
                ∙ r.block
            | inr behind ↦ outside (inr behind)
          ]
    ]

-- ---- the bytes after a put, by their places
byte_inside : (c : Numbers) (start : ℕ) (bytes : List ℕ) (old new : ℕ → List ℕ) → IsPut c start bytes old new → (i : ℕ) → i < length bytes
    → byte_at c.size new (start + i) ≡ get_or bytes i 0
unfolding byte_at
byte_inside c start bytes old new p i h =
    let size = c.size in
    let k = (start + i) / size in
    let at = (start + i) % size in
    let place : k * size + at ≡ start + i = div-add-mod' (start + i) size in
    let count = p.count in
    let low : start / size ≤ k = le-div (start / size) (start + i) size p.within.sized (omega (arith, first_place size start)) in
    let to : k ≤ (start + length bytes - 1) / size = le-div k (start + length bytes - 1) size p.within.sized (omega arith) in
    let high : k < start / size + p.n = omega arith in
    let r = p.reached k low high in
    let few = length-bytes_in size start bytes k r.low r.high in
    let within : at < size = mod_below (start + i) size p.within.sized in
    let from = start - k * size in
    let j = at - from in
    ap (λ v. get_or v at 0) (p.put.inside k low high)
    ∙ merged-inside (old k) from (bytes_in size start bytes k) at j (merged_fits size start bytes k (old k) r) (omega arith) (omega arith)
    ∙ bytes_in-at size start bytes k j i (omega arith) (omega arith)

byte_outside : (c : Numbers) (start : ℕ) (bytes : List ℕ) (old new : ℕ → List ℕ) → IsPut c start bytes old new → (q : ℕ) → (q < start) ⊎ (start + length bytes ≤ q)
    → byte_at c.size new q ≡ byte_at c.size old q
unfolding byte_at
byte_outside c start bytes old new p q apart =
    let size = c.size in
    let k = q / size in
    let at = q % size in
    let place : k * size + at ≡ q = div-add-mod' q size in
    let first = start / size in
    elim (cases_lt k first) [
      | inl before ↦ ap (λ v. get_or v at 0) (p.put.outside k (inl before))
      | inr low ↦
          elim (cases_lt k (first + p.n)) [
            | inl high ↦
                let r = p.reached k low high in
                let few = length-bytes_in size start bytes k r.low r.high in
                let from = start - k * size in
                let beside : (at < from) ⊎ (from + length (bytes_in size start bytes k) ≤ at) =
                elim apart [ inl less ↦ inl (omega arith) | inr more ↦ inr (omega arith) ] in
                ap (λ v. get_or v at 0) (p.put.inside k low high)
                ∙ merged-outside (old k) from (bytes_in size start bytes k) at (merged_fits size start bytes k (old k) r) beside
            | inr behind ↦ ap (λ v. get_or v at 0) (p.put.outside k (inr behind))
          ]
    ]

pub put_writes : (c : Numbers) (d : Device) (start : ℕ) (bytes : List ℕ) → AreBlocks c.size c.blocks d.held → fault_of c (Put start bytes) ≡ None
    → IsWritten c.size d.held (after (steps_of c (Put start bytes)) d).held start bytes
put_writes c d start bytes blocks faultless =
    let new = (after (steps_of c (Put start bytes)) d).held in
    let p = put_done c d start bytes blocks faultless in
    record { inside = byte_inside c start bytes d.held new p; outside = byte_outside c start bytes d.held new p }
