-- Devices in order, after reads and writes.
use Rattle.std.proofs.Common.{◌≡◌, ℕ, ◌+◌, ◌-◌, ◌*◌, ◌<◌, ◌≤◌, Bool, false, List, length, take, refl, sym, ◌∙◌, ap, subst, arith, inl, inr, slice_range, slice_set}
use Rattle.std.proofs.lemmas.Bool.{cases_eq}
use Rattle.std.proofs.lemmas.List.{take_all, get_or-set_same, get_or-set_other, length-set}
use Rattle.std.proofs.Math.Nat.{mul_comm}
use Rattle.block_device.specs.Device.{merged}
use Rattle.protocol.specs.Setting.{IsBlock}
use Rattle.protocol.specs.Instance.{setting}
use Rattle.node_device.specs.Held.{Held, held_at, unwritten, rewritten}
use Rattle.node_device.specs.Devices.{SeenDevice}
use Rattle.nbd_front.specs.Arrays.{array_of, once, time_at, IsInOrder, HasRead, HasWritten}
use Rattle.nbd_front.proofs.Blocks.{Parts, parts, array_len, middle, merged_middle}

module _ (d : SeenDevice) (o : IsInOrder d) where
  sized : (i : ℕ) → i < length d.held → length (held_at d.config d.held i).value ≡ d.config.size
  sized i l = (o.blocks i (omega (arith, l, o.count))).0

  pub length_array : length (array_of d.held) ≡ d.config.size * d.config.blocks
  length_array = array_len d.config.size d.held (unwritten d.config) sized ∙ ap (λ n. n * d.config.size) o.count ∙ mul_comm d.config.blocks d.config.size

  module _ (k : ℕ) (there : k < d.config.blocks) where
    abbrev old : Held
    old = held_at d.config d.held k

    split : Parts d.config.size d.held k (unwritten d.config)
    split = parts d.config.size d.held k (unwritten d.config) sized (omega (arith, there, o.count))

    -- a part of a block is a part of the array
    pub block_part : (from to i j : ℕ) → i ≡ k * d.config.size + from → j ≡ k * d.config.size + to → from ≤ to → to ≤ d.config.size
        → slice_range (array_of d.held) i j ≡ slice_range old.value from to
    block_part from to i j first last order fits =
        let p = split in
        rw p.is (middle p.front old.value p.back (k * d.config.size) from to i j p.long first last order (omega (arith, fits, (o.blocks k there).0)))

    -- a block is a part of the array
    pub block_whole : (i j : ℕ) → i ≡ k * d.config.size → j ≡ (k + 1) * d.config.size → old.value ≡ slice_range (array_of d.held) i j
    block_whole i j first last =
        let more : (k + 1) * d.config.size ≡ k * d.config.size + d.config.size = omega arith in
        let none : d.config.size - 0 ≡ d.config.size = omega arith in
        let all : slice_range old.value 0 d.config.size ≡ old.value = ap (λ n. take n old.value) none ∙ take_all d.config.size old.value (omega (arith, (o.blocks k there).0)) in
        sym (block_part 0 d.config.size i j (omega (arith, first)) (last ∙ more) (omega arith) (omega arith) ∙ all)

    -- a block with a piece written is the array with that piece
    pub block_merged : (at i : ℕ) (bytes : List ℕ) → i ≡ k * d.config.size + at → at + length bytes ≤ d.config.size
        → array_of (slice_set d.held k (rewritten old (merged old.value at bytes))) ≡ merged (array_of d.held) i bytes
    block_merged at i bytes first fits =
        let p = split in
        rw p.is (p.set (rewritten old (merged old.value at bytes)) ∙ merged_middle p.front old.value p.back bytes (k * d.config.size) at i p.long first (omega (arith, fits, (o.blocks k there).0)))

    module _ (value : List ℕ) (is : IsBlock (setting d.config) value) (n : ℕ) where
      abbrev now : SeenDevice
      now = record d { held = slice_set d.held k (rewritten old value); started = n }

      inside : k < length d.held
      inside = omega (arith, there, o.count)

      here : held_at d.config now.held k ≡ rewritten old value
      here = get_or-set_same d.held k (rewritten old value) (unwritten d.config) inside

      apart : (j : ℕ) → (j ≡ k → ⊥) → held_at d.config now.held j ≡ held_at d.config d.held j
      apart j other = get_or-set_other d.held k j (rewritten old value) (unwritten d.config) other

      pub write_here : time_at now k ≡ time_at d k + 1
      write_here = ap (λ (h : Held). h.time) here

      pub write_apart : (j : ℕ) → (j ≡ k → ⊥) → time_at now j ≡ time_at d j
      write_apart j other = ap (λ (h : Held). h.time) (apart j other)

      pub write_order : IsInOrder now
      write_order = record {
        valid = o.valid;
        few = o.few;
        count = length-set d.held k (rewritten old value) ∙ o.count;
        blocks = λ j l. elim (cases_eq j k) [
          | inl same ↦ rw (same, here) is
          | inr other ↦ rw (apart j other) (o.blocks j l)
        ];
        unwritten = λ j l never. elim (cases_eq j k) [
          | inl same ↦ absurd (let t : time_at now k ≡ 0 = subst (λ i. time_at now i ≡ 0) same never in omega (arith, t, write_here))
          | inr other ↦ ap (λ (h : Held). h.value) (apart j other) ∙ o.unwritten j l (sym (write_apart j other) ∙ never)
        ];
      }

pub read_order : (n : ℕ) (d e : SeenDevice) → IsInOrder d → HasRead n d e → IsInOrder e
read_order n d e o r = rw r.same (record { valid = o.valid; few = o.few; count = o.count; blocks = o.blocks; unwritten = o.unwritten })

-- nothing was written
pub same_written : (wrote : ℕ → Bool) (d : SeenDevice) → IsInOrder d → ((k : ℕ) → wrote k ≡ false) → HasWritten 131072 (array_of d.held) wrote d d
same_written wrote d o none = record { order = o; config = refl; life = refl; bytes = refl; times = λ k l. rw (none k) (omega arith); steps = omega arith }

-- what was written, told otherwise
pub as_told : {most : ℕ} {array other : List ℕ} {wrote told : ℕ → Bool} {d e : SeenDevice} → array ≡ other → ((k : ℕ) → wrote k ≡ told k) → HasWritten most array wrote d e → HasWritten most other told d e
as_told {d = d} same blocks w = record {
  order = w.order;
  config = w.config;
  life = w.life;
  bytes = w.bytes ∙ same;
  times = λ k l. w.times k l ∙ ap (λ b. time_at d k + once b) (blocks k);
  steps = w.steps;
}
