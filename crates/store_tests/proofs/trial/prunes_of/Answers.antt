use Rattle.std.proofs.Common.{Vec, ◌+◌, ap, ◌∙◌}
use Rattle.version_disk.specs.declared.prune.Prune.{Prune}
use Rattle.store_tests.proofs.Pruned.{AreRising, one_rises, none_rises}
use Rattle.store_tests.proofs.trial.prunes_of.Goals as goal
use Rattle.store_tests.proofs.trial.prunes_of.Goals.{in-Some+in_ok-push, in_default}

pub loop-block-preserved : goal.loop-block-preserved
loop-block-preserved c =
    let i = c.loop-block.invariant in
    let are : AreRising c.loop-block.prunes.items c.loop-block.block = record { below = i.below; apart = i.apart } in
    let old = c.loop-block.prunes.items in
    let new = c.match-stamp_of.prunes.items in
    let then : AreRising new (c.loop-block.block + 1) =
    elim c.match-stamp_of.branch [
      | in-Some+in_ok-push w ↦ one_rises old new c.loop-block.block w.in-Some.stamp are (ap (λ (v : Vec Prune _). v.items) w.prunes-is ∙ w.in_ok-push.ensures.items)
      | in_default w ↦ none_rises old new c.loop-block.block are (ap (λ (v : Vec Prune _). v.items) w.prunes-is)
    ] in
    record { below = then.below; apart = then.apart }
