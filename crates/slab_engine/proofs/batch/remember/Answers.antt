use Rattle.std.proofs.Common.{false, sym, ◌∙◌, ap}
use Rattle.std.specs.Prelude.{slice_set}
use Rattle.slab_index.specs.Kept.{with_kept}
use Rattle.slab_engine.proofs.Filtered.{new_push, free_push}
use Rattle.slab_engine.proofs.batch.remember.Goals as goal

pub loop-slots-preserved : goal.loop-slots-preserved
loop-slots-preserved c =
    let n = c.in-Some.slots in (
      c.set_block.ensures ∙ ap (λ ix. with_kept ix n.block n.list) c.loop-slots.invariant.0 ∙ sym (new_push c.loop-slots.yielded n c.args.index.now),
      c.unlist.ensures ∙ ap (λ fs. slice_set fs n.slot false) c.loop-slots.invariant.1 ∙ sym (free_push c.loop-slots.yielded n c.args.free.now),
    )
