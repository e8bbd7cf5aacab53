use Rattle.std.proofs.Common.{◌≡◌, take}
use Rattle.store_care.specs.Prunes.{prunes_by}
use Rattle.store_care.proofs.pruning.prunes_by.Given as goal

abbrev pub invariant-loop-k : goal.invariant-loop-k
invariant-loop-k l = l.prunes.items ≡ prunes_by (take l.k l.reads) l.outcomes
