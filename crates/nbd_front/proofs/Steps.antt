-- What a read or a write of one block adds to a walk over the blocks of a range.
use Rattle.std.proofs.Common.{◌≡◌, ℕ, zero, suc, ◌+◌, ◌-◌, ◌*◌, ◌<◌, ◌≤◌, min, max, List, ◌++◌, length, take, refl, sym, ◌∙◌, ap, subst, arith, inl, inr, slice_range, slice_set}
use Rattle.std.proofs.lemmas.Bool.{cases_eq, cases_lt, lt-ltb, le-ltb}
use Rattle.std.proofs.Math.Nat.{mul-zero}
use Rattle.quorum_rules.specs.Limits.{Numbers}
use Rattle.std.proofs.lemmas.List.{append_assoc, length-take-le}
use Rattle.std.proofs.lemmas.List.Edits.{length-between}
use Rattle.block_device.specs.Device.{merged}
use Rattle.block_device.proofs.lemmas.Merges.{merged_whole}
use Rattle.protocol.specs.Setting.{IsBlock}
use Rattle.protocol.specs.Instance.{setting}
use Rattle.node_device.specs.Held.{held_at, rewritten}
use Rattle.node_device.specs.Devices.{SeenDevice}
use Rattle.block_device.specs.Ranges.{is_touched, Reaches}
use Rattle.nbd_front.specs.Arrays.{array_of, once, time_at, IsInOrder, HasWrittenOne}
use Rattle.nbd_front.proofs.Blocks.{merged_then, parts_then, start_then}
use Rattle.nbd_front.proofs.Devices.{block_part, block_merged, write_order, write_here, write_apart}
use Rattle.nbd_front.proofs.Progress.{IsStep, up_to}

-- a text with the bytes up to a place, and those of the next block's part
pub read_more : (d0 : SeenDevice) → IsInOrder d0 → (d : SeenDevice) → d ≡ record d0 { started = d.started } → (k start end place from to : ℕ)
    → IsStep d0.config.size start end d0.config.blocks k place → from + k * d0.config.size ≡ place → to ≡ min (end - k * d0.config.size) d0.config.size
    → (text0 text text1 value : List ℕ) → text ≡ text0 ++ slice_range (array_of d0.held) start place → value ≡ (held_at d.config d.held k).value → text1 ≡ text ++ slice_range value from to
    → text1 ≡ text0 ++ slice_range (array_of d0.held) start (k * d0.config.size + to)
read_more d0 o d same k start end place from to s first last text0 text text1 value before is after =
    let next = k * d0.config.size + to in
    let value0 : value ≡ (held_at d0.config d0.held k).value = is ∙ ap (λ (x : SeenDevice). (held_at x.config x.held k).value) same in
    let here : place ≡ k * d0.config.size + from = omega (arith, first) in
    let order : from ≤ to = omega (arith, s.high, first, last) in
    let fits : to ≤ d0.config.size = omega (arith, last) in
    let low : place ≤ next = omega (arith, here, order) in
    let part = block_part d0 o k s.block from to place next here refl order fits in
    after ∙ ap (λ z. z ++ slice_range value from to) before
    ∙ append_assoc text0 (slice_range (array_of d0.held) start place) (slice_range value from to)
    ∙ ap (λ z. text0 ++ (slice_range (array_of d0.held) start place ++ slice_range z from to)) value0
    ∙ ap (λ z. text0 ++ (slice_range (array_of d0.held) start place ++ z)) (sym part)
    ∙ ap (λ z. text0 ++ z) (parts_then (array_of d0.held) start place next s.first low)

-- an array with data up to a place, and those for the next block's part
pub write_more : (d : SeenDevice) (o : IsInOrder d) (array bytes : List ℕ) (k start end place from to : ℕ)
    → IsStep d.config.size start end d.config.blocks k place → from + k * d.config.size ≡ place → to ≡ min (end - k * d.config.size) d.config.size
    → end ≡ start + length bytes → end ≤ length array → array_of d.held ≡ merged array start (take (place - start) bytes)
    → (value : List ℕ) → value ≡ merged (held_at d.config d.held k).value from (slice_range bytes (place - start) (k * d.config.size + to - start))
    → array_of (slice_set d.held k (rewritten (held_at d.config d.held k) value)) ≡ merged array start (take (k * d.config.size + to - start) bytes)
write_more d o array bytes k start end place from to s first last all within before value is =
    let done = place - start in
    let next = k * d.config.size + to - start in
    let piece = slice_range bytes done next in
    let here : place ≡ k * d.config.size + from = omega (arith, first) in
    let low : done ≤ next = omega (arith, here, s.high, last) in
    let short : next ≤ length bytes = omega (arith, s.fits, last, all) in
    let long : length piece ≡ next - done = length-between bytes done next short in
    let fits : from + length piece ≤ d.config.size = omega (arith, long, last, here, s.first, s.high) in
    let place_is : start + done ≡ place = omega (arith, s.first) in
    let done_is : done ≡ length (take done bytes) = sym (length-take-le done bytes (omega (arith, low, short))) in
    let inside : start ≤ length array = omega (arith, all, within) in
    ap (λ z. array_of (slice_set d.held k (rewritten (held_at d.config d.held k) z))) is
    ∙ block_merged d o k s.block from place piece here fits
    ∙ ap (λ z. merged z place piece) before
    ∙ ap (λ p. merged (merged array start (take done bytes)) p piece) (sym place_is)
    ∙ merged_then array (take done bytes) piece start done done_is inside
    ∙ ap (λ z. merged array start z) (start_then bytes done next low)

-- one more read
pub read_same : (d0 d e : SeenDevice) → d ≡ record d0 { started = d.started } → e ≡ record d { started = d.started + 1 } → (e ≡ record d0 { started = e.started }) × (e.started ≡ d.started + 1)
read_same d0 d e h k =
    let n : e.started ≡ d.started + 1 = ap (λ (x : SeenDevice). x.started) k in
    (k ∙ ap (λ (x : SeenDevice). record x { started = d.started + 1 }) h ∙ ap (λ m. record d0 { started = m }) (sym n), n)

-- one more write
pub record IsAfterOne (d e : SeenDevice) (k : ℕ) (value : List ℕ) : Type 0 where
  pub order : IsInOrder e
  pub config : e.config ≡ d.config
  pub life : e.life ≡ d.life
  pub held : e.held ≡ slice_set d.held k (rewritten (held_at d.config d.held k) value)
  pub here : time_at e k ≡ time_at d k + 1
  pub apart : (j : ℕ) → (j ≡ k → ⊥) → time_at e j ≡ time_at d j

pub write_one : (d e : SeenDevice) (k : ℕ) (value : List ℕ) → IsInOrder d → k < d.config.blocks → HasWrittenOne d k value e → IsAfterOne d e k value
write_one d e k value o there w =
    subst (λ (x : SeenDevice). IsAfterOne d x k value) (sym w.same) (record {
      order = write_order d o k there value w.block e.started;
      config = refl;
      life = refl;
      held = refl;
      here = write_here d o k there value w.block e.started;
      apart = write_apart d o k there value w.block e.started;
    })

-- a block that was written whole
pub wrote_whole : (d : SeenDevice) (k at : ℕ) (part : List ℕ) → IsBlock (setting d.config) (held_at d.config d.held k).value → IsBlock (setting d.config) part → at ≡ 0 → (e : SeenDevice)
    → e ≡ record d { held = slice_set d.held k (rewritten (held_at d.config d.held k) part); started = d.started + 1 } → HasWrittenOne d k (merged (held_at d.config d.held k).value at part) e
wrote_whole d k at part old is none e wrote =
    let started : e.started ≡ d.started + 1 = ap (λ (x : SeenDevice). x.started) wrote in
    subst (λ v. HasWrittenOne d k v e) (sym (merged_whole (held_at d.config d.held k).value at part none (omega (arith, old.0, is.0)))) (record {
      same = wrote ∙ ap (λ n. record d { held = slice_set d.held k (rewritten (held_at d.config d.held k) part); started = n }) (sym started);
      block = is;
      steps = omega (arith, started);
    })

-- ---- the blocks that a walk has written
-- from the first block up to one of them each was written once more, and no other
pub record HaveWalked (first block : ℕ) (old new : SeenDevice) : Type 0 where
  pub before : (j : ℕ) → j < first → time_at new j ≡ time_at old j
  pub written : (j : ℕ) → first ≤ j → j < block → time_at new j ≡ time_at old j + 1
  pub rest : (j : ℕ) → block ≤ j → time_at new j ≡ time_at old j

-- blocks that end after a place have bytes
sized_by : (size k start : ℕ) → start < (k + 1) * size → 0 < size
sized_by zero k start h = absurd (let z : (k + 1) * 0 ≡ 0 = mul-zero (k + 1) in omega (arith, h, z))
sized_by (suc n) k start h = omega arith

pub walk_begins : (first : ℕ) (d : SeenDevice) → HaveWalked first first d d
walk_begins first d = record { before = λ j l. refl; written = λ j l h. absurd (omega (arith, l, h)); rest = λ j l. refl }

pub walk_goes_on : (first block : ℕ) (old d e : SeenDevice) → first ≤ block → HaveWalked first block old d → time_at e block ≡ time_at d block + 1 → ((j : ℕ) → (j ≡ block → ⊥) → time_at e j ≡ time_at d j) → HaveWalked first (block + 1) old e
walk_goes_on first block old d e from w here apart = record {
  before = λ j l. apart j (λ same. omega (arith, same, from, l)) ∙ w.before j l;
  written = λ j l h. elim (cases_eq j block) [
    | inl same ↦ (let t : time_at e j ≡ time_at d j + 1 = subst (λ i. time_at e i ≡ time_at d i + 1) (sym same) here in let s = w.rest j (omega (arith, same)) in omega (arith, t, s))
    | inr other ↦ apart j other ∙ w.written j l (omega (arith, h, other))
  ];
  rest = λ j l. apart j (λ same. omega (arith, same, l)) ∙ w.rest j (omega (arith, l));
}

-- a walk over the blocks of a range has written those of which it has a byte
pub walk_ends : (c : Numbers) (start len first last : ℕ) (old new : SeenDevice) → first * c.size ≤ start → (0 < len → start + len ≤ last * c.size)
    → ((k : ℕ) → first ≤ k → k < last → Reaches c start len k) → HaveWalked first last old new
    → (k : ℕ) → time_at new k ≡ time_at old k + once (is_touched c.size start len k)
unfolding is_touched
walk_ends c start len first last old new begun ended reaches w k =
    let low = max start (k * c.size) in
    let high = min (start + len) ((k + 1) * c.size) in
    let more : (k + 1) * c.size ≡ k * c.size + c.size = omega arith in
    let apart : time_at new k ≡ time_at old k → high ≤ low → time_at new k ≡ time_at old k + once (is_touched c.size start len k) =
    λ same none. same ∙ omega arith ∙ ap (λ b. time_at old k + once b) (sym (le-ltb low high none)) in
    elim (cases_lt k first) [
      | inl h ↦ (let u = up_to c.size (k + 1) first (omega (arith, h)) in apart (w.before k h) (omega (arith, u, begun)))
      | inr h ↦ elim (cases_lt k last) [
        | inl l ↦ (let r = reaches k h l in
            let below = r.below in
            let above = r.above in
            let some = r.some in
            w.written k h l ∙ ap (λ b. time_at old k + once b) (sym (lt-ltb low high (omega (arith, below, above, some, more, sized_by c.size k start above)))))
        | inr l ↦ apart (w.rest k l) (elim (cases_lt 0 len) [
          | inl some ↦ (let u = up_to c.size last k l in let e = ended some in omega (arith, u, e))
          | inr none ↦ omega (arith, none)
        ])
      ]
    ]
