use Rattle.std.proofs.Common.{◌≡◌, ℕ, ◌-◌, ◌≤◌, List, length}
use Rattle.sqlite_disk.specs.Events.{replay}
use Rattle.system_file.specs.Doings.{WritesAt}
use Rattle.system_file.proofs.Pieces.{HasFirst}
use Rattle.system_file.proofs.steps.write_whole.Given as goal

abbrev pub invariant-loop-done : goal.invariant-loop-done
invariant-loop-done g l =
    let old = g.C.Calls.history l.fn.calls in
    let now = g.C.Calls.history l.calls in
    record {
      in_range : l.done ≤ length l.piece;
      some : (start : List ℕ) → WritesAt l.at (length l.piece) start old now;
      faults : (start : List ℕ) → (replay start now).faults ≡ (replay start old).faults;
      first : (start : List ℕ) → HasFirst (replay start now).seen l.at l.piece l.done;
    }

abbrev pub decreases-loop-done : goal.decreases-loop-done
decreases-loop-done g l = length l.piece - l.done
