use Rattle.std.proofs.Common.{◌≡◌, take}
use Rattle.memory_file.specs.Steps.{replayed, LeftBy}
use Rattle.memory_file.proofs.crash.replay.Given as goal

abbrev pub invariant-loop-step : goal.invariant-loop-step
invariant-loop-step l = record {
  seen : l.seen.items ≡ replayed l.first (take l.step-index l.steps);
  left : LeftBy l.first (λ b. b ≡ l.first) (take l.step-index l.steps) l.left.items;
}
