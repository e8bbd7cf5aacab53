use Rattle.std.proofs.Common.{ℕ, ◌≤◌, ◌<◌}
use Rattle.store_front.specs.Touching.{IsFree}
use Rattle.store_front.proofs.round.Touched.takes.Given as goal

abbrev pub invariant-loop-block : goal.invariant-loop-block
invariant-loop-block l = (k : ℕ) → l.initial.block ≤ k → k < l.block → IsFree l.self l.kind k
