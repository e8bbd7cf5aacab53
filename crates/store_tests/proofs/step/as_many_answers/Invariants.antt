use Rattle.std.proofs.Common.{◌≡◌, take, map}
use Rattle.store_tests.specs.Counted.{counted, count_of}
use Rattle.store_tests.proofs.step.as_many_answers.Given as goal

-- the nodes so far have as many answers as asks
abbrev pub invariant-loop-asked : goal.invariant-loop-asked
invariant-loop-asked l = map counted l.answers.items ≡ map count_of (take l.asked-index l.asks.items)
