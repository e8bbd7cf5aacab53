use Rattle.std.proofs.Common.{◌≡◌, ℕ, ◌<◌, Some}
use Rattle.std.specs.Prelude.{slice_get}
use Rattle.history_making.specs.declared.entry.Entry.{Entry}
use Rattle.history_book.specs.Sweeps.{StartsAfter}
use Rattle.history_book.proofs.judging.first_after.Given as goal

abbrev pub invariant-loop-i : goal.invariant-loop-i
invariant-loop-i l = (k : ℕ) (e : Entry) → k < l.i → slice_get l.entries k ≡ Some e → StartsAfter l.block l.end e → ⊥
