use Rattle.std.proofs.Common.{◌≡◌, ◌+◌, ◌-◌, ℕ, ap, subst, ◌∙◌, arith}
use Rattle.store_device.specs.Stores.{SeenStore}
use Rattle.store_care.specs.Batches.{AreBelow}
use Rattle.store_care.specs.Settling.{unsettled}
use Rattle.store_care.proofs.Rising.{below_later}
use Rattle.store_care.proofs.settling.unsettled_reads.Goals as goal

pub loop-block-preserved : goal.loop-block-preserved
loop-block-preserved g c =
    let first = c.args.first in
    let block = c.loop-block.block in
    let store = c.args.store.now in
    let mid = c.loop-block.store in
    let inv = c.loop-block.invariant in
    let e = c.in_ok-add_unsettled.ensures in
    let old = c.loop-block.reads.items in
    let new = c.add_unsettled.new.reads.items in
    let so_far : first + (block - first) ≡ block = omega (arith, inv.begun) in
    let more : block - first + 1 ≡ block + 1 - first = omega (arith, inv.begun) in
    let batch : AreBelow store.config block old → AreBelow store.config (block + 1) new =
    subst (λ (s : SeenStore _). AreBelow s.config block old → AreBelow s.config (block + 1) new) inv.same e.batch in
    let reads : (f n : ℕ) → f + n ≡ block → old ≡ unsettled store f n → new ≡ unsettled store f (n + 1) =
    subst (λ (s : SeenStore _). (f n : ℕ) → f + n ≡ block → old ≡ unsettled s f n → new ≡ unsettled s f (n + 1)) inv.same e.reads in
    record {
      same = e.same ∙ inv.same;
      there = inv.there;
      ends = inv.ends;
      begun = omega (arith, inv.begun);
      batch = batch inv.batch;
      few = omega (arith, e.few, inv.few);
      reads = reads first (block - first) so_far inv.reads ∙ ap (unsettled store first) more;
    }

pub returns-clause-batch : goal.returns-clause-batch
returns-clause-batch g c =
    let inv = c.loop-block.invariant in
    let blocks = c.args.store.now.config.blocks in
    below_later c.args.store.now.config c.loop-block.reads.items c.loop-block.block blocks
    (omega (arith, c.loop-block.auto.block-end (omega (arith, inv.ends)), inv.there)) inv.batch
