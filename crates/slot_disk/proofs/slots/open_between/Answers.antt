use Rattle.std.proofs.Common.{◌≡◌, inl, inr, ℕ, suc, ◌+◌, ◌-◌, ◌*◌, length, get_or, set, length-set, ◌∙◌, ap, arith}
use Rattle.std.proofs.lemmas.Bool.{cases_lt}
use Rattle.std.proofs.lemmas.List.{get_or-set_same, get_or-set_other}
use Rattle.slot_disk.specs.Bodies.{bodies_in}
use Rattle.slot_disk.proofs.Between.{same_bodies}
use Rattle.slot_disk.proofs.lemmas.Gates.{gate_below}
use Rattle.slot_disk.proofs.slots.open_between.Goals as goal

pub loop-k-preserved : goal.loop-k-preserved
loop-k-preserved c =
    let w = c.args.body in
    let k = c.loop-k.k in
    let piece = c.loop-k.piece in
    let before = c.loop-k.invariant in
    let starts = c.loop-k.auto.k in
    let whole = c.requires.whole in
    let size = before.len in
    let room = gate_below w k c.args.more c.loop-k-test.true in
    let first = gate_below w 0 k (omega arith) in
    let after : k ≡ suc (k - 1) = omega arith in
    let step : k * (w + 1) ≡ suc (k - 1) * (w + 1) = ap (λ (n : ℕ). n * (w + 1)) after in
    let place : k * (w + 1) - 1 ≡ (k - 1) * (w + 1) + w = omega (arith, step) in
    record {
      len = length-set piece (k * (w + 1) - 1) 1 ∙ before.len;
      bodies = ap (λ (n : ℕ). bodies_in w c.args.more (set piece n 1)) place ∙ same_bodies w c.args.more piece (k - 1) 1 ∙ before.bodies;
      opened = λ i some below. elim (cases_lt i k) [
        | inl earlier ↦ (
            let less = gate_below w i k earlier in
            let later = gate_below w 0 i some in
            get_or-set_other piece (k * (w + 1) - 1) (i * (w + 1) - 1) 1 0 (λ same. omega (arith, same)) ∙ before.opened i some earlier)
        | inr here ↦ (
            let same : i ≡ k = omega arith in
            ap (λ (n : ℕ). get_or (set piece (k * (w + 1) - 1) 1) (n * (w + 1) - 1) 0) same ∙ get_or-set_same piece (k * (w + 1) - 1) 1 0 (omega (arith, size, whole, room)))
      ];
      last = get_or-set_other piece (k * (w + 1) - 1) (length c.args.piece.now - 1) 1 0 (λ same. omega (arith, same, whole, room)) ∙ before.last;
    }
