use Rattle.std.proofs.Common.{◌≡◌, ◌+◌, ◌-◌, ℕ, ap, subst, ◌∙◌, arith}
use Rattle.store_device.specs.Stores.{SeenStore}
use Rattle.store_care.specs.Batches.{AreBelow}
use Rattle.store_care.specs.Pruning.{overfull}
use Rattle.store_care.proofs.pruning.overfull_reads.Goals as goal

pub loop-block-preserved : goal.loop-block-preserved
loop-block-preserved g c =
    let first = c.args.first in
    let most = c.args.most in
    let block = c.loop-block.block in
    let store = c.args.store.now in
    let inv = c.loop-block.invariant in
    let e = c.in_ok-add_overfull.ensures in
    let old = c.loop-block.reads.items in
    let new = c.add_overfull.new.reads.items in
    let so_far : first + (block - first) ≡ block = omega (arith, inv.begun) in
    let more : block - first + 1 ≡ block + 1 - first = omega (arith, inv.begun) in
    let batch : AreBelow store.config block old → AreBelow store.config (block + 1) new =
    subst (λ (s : SeenStore _). AreBelow s.config block old → AreBelow s.config (block + 1) new) inv.same e.batch in
    let reads : (f n : ℕ) → f + n ≡ block → old ≡ overfull store f n most → new ≡ overfull store f (n + 1) most =
    subst (λ (s : SeenStore _). (f n : ℕ) → f + n ≡ block → old ≡ overfull s f n most → new ≡ overfull s f (n + 1) most) inv.same e.reads in
    record {
      same = e.same ∙ inv.same;
      there = inv.there;
      ends = inv.ends;
      begun = omega (arith, inv.begun);
      batch = batch inv.batch;
      few = omega (arith, e.few, inv.few);
      reads = reads first (block - first) so_far inv.reads ∙ ap (λ (n : ℕ). overfull store first n most) more;
    }
