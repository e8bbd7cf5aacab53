use Rattle.std.proofs.Common.{◌≡◌, [], take}
use Rattle.store_care.specs.Remembered.{with_stamps}
use Rattle.store_care.proofs.remembered.latest_of.Given as goal

abbrev pub invariant-loop-prune : goal.invariant-loop-prune
invariant-loop-prune l = l.stamps.entries ≡ with_stamps [] (take l.prune-index l.prunes)
