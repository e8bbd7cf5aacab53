use Rattle.std.proofs.Common.{◌≡◌, ◌∷◌, take}
use Rattle.node_core.proofs.kept.Kept.stamps.Given as goal

abbrev pub invariant-loop-stamp : goal.invariant-loop-stamp
invariant-loop-stamp l = l.stamps ≡ l.first ∷ take l.stamp-index l.stamp-items
