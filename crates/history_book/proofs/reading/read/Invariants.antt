use Rattle.std.proofs.Common.{◌≡◌, ◌+◌, ◌≤◌, length}
use Rattle.history_book.proofs.ReadLines.{Told, told_lines}
use Rattle.history_book.proofs.reading.read.Given as goal

abbrev pub invariant-loop-spent : goal.invariant-loop-spent
invariant-loop-spent l = record {
  told : Told l.text l.entries l.spent l.rest;
  number : l.number ≡ length (told_lines l.entries l.spent) + 1;
  left : l.number + length l.rest ≤ length l.text + 1;
}

abbrev pub decreases-loop-spent : goal.decreases-loop-spent
decreases-loop-spent l = length l.rest
