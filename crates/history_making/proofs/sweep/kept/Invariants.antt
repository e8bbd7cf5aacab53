use Rattle.std.proofs.Common.{◌≡◌, ◌≤◌, take, drop, reverse, length, option_map}
use Rattle.std.specs.List.{find}
use Rattle.history_making.specs.Drafts.{entry_of, entries_of, is_reading}
use Rattle.history_making.proofs.Sweeps.{sweep}
use Rattle.history_making.proofs.sweep.kept.Given as goal

abbrev pub invariant-loop-left : goal.invariant-loop-left
invariant-loop-left l = record {
  in_range : l.left ≤ length l.drafts;
  swept : reverse (entries_of l.kept.items) ≡ sweep l.first (entries_of (take l.left l.drafts)) (entries_of (drop l.left l.drafts));
  next : option_map entry_of l.read ≡ find is_reading (entries_of (drop l.left l.drafts));
}

abbrev pub decreases-loop-left : goal.decreases-loop-left
decreases-loop-left l = l.left
