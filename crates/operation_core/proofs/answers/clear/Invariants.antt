use Rattle.std.proofs.Common.{◌≡◌, ◌<◌, ℕ, get_or, length, None}
use Rattle.operation_core.proofs.answers.clear.Given as goal

abbrev pub invariant-loop-i : goal.invariant-loop-i
invariant-loop-i l = record { size : length l.answers.items ≡ length l.fn.answers.items; none : (k : ℕ) → k < l.i → get_or l.answers.items k None ≡ None }
