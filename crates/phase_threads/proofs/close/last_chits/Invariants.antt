use Rattle.std.proofs.Common.{◌≡◌, length}
use Rattle.phase_threads.proofs.Closing.{HaveGiven, AreWhole}
use Rattle.phase_threads.proofs.close.last_chits.Given as goal

abbrev pub invariant-loop-i : goal.invariant-loop-i
invariant-loop-i l =
    (length l.portions.items ≡ length l.fn.portions.items)
    × (length l.chits ≡ l.i)
    × HaveGiven l.i l.fn.portions.items l.portions.items l.chits
    × AreWhole l.i l.fn.portions.items l.portions.items
