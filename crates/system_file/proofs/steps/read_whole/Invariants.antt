use Rattle.std.proofs.Common.{◌≡◌, ℕ, ◌-◌, ◌≤◌, List, length, IsTrue}
use Rattle.sqlite_disk.specs.Events.{replay}
use Rattle.system_file.specs.Doings.{LooksOnly}
use Rattle.system_file.proofs.Pieces.{HasFirst}
use Rattle.system_file.proofs.steps.read_whole.Given as goal

abbrev pub invariant-loop-done : goal.invariant-loop-done
invariant-loop-done g l =
    let old = g.C.Calls.history l.fn.calls in
    let now = g.C.Calls.history l.calls in
    record {
      in_range : l.done ≤ length l.room;
      some : (start : List ℕ) → LooksOnly start old now;
      faults : (start : List ℕ) → (replay start now).faults ≡ (replay start old).faults;
      first : (start : List ℕ) → IsTrue (replay start now).is_honest → HasFirst (replay start old).seen l.at l.room l.done;
    }

abbrev pub decreases-loop-done : goal.decreases-loop-done
decreases-loop-done g l = length l.initial.room - l.done
