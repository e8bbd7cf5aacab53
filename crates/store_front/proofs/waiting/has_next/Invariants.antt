use Rattle.std.proofs.Common.{◌≡◌, ◌+◌, ◌-◌, ◌^◌, ◌≤◌, length}
use Rattle.store_front.specs.Requests.{most_at_hand}
use Rattle.store_front.specs.Sessions.{HasReadOn}
use Rattle.store_front.proofs.waiting.has_next.Given as goal

abbrev pub invariant-loop-input : goal.invariant-loop-input
invariant-loop-input g l = record {
  calm : g.S.Source.faults l.source ≡ g.S.Source.faults l.initial.source;
  read : HasReadOn l.initial.input l.input (g.S.Source.left l.initial.source) (g.S.Source.left l.source);
  few : length l.initial.input ≤ most_at_hand → length l.input ≤ most_at_hand;
}

abbrev pub decreases-loop-input : goal.decreases-loop-input
decreases-loop-input g l = 2 ^ 32 + 28 - length l.input
