use Rattle.std.proofs.Common.{◌≡◌, Some}
use Rattle.cross_sum.specs.Digest.{digest}
use Rattle.protocol.specs.Count.{collect}
use Rattle.liar_rules.specs.Turns.{turn}
use Rattle.liar_rules.proofs.asks.sum_by_turns.Given as goal

abbrev pub invariant-loop-i : goal.invariant-loop-i
invariant-loop-i l = l.digests.items ≡ collect l.i (λ i. Some (digest (turn l.even l.odd i)))
