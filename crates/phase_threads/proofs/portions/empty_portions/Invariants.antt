use Rattle.std.proofs.Common.{◌≡◌, [], length, All}
use Rattle.phase_threads.proofs.portions.empty_portions.Given as goal

abbrev pub invariant-loop : goal.invariant-loop
invariant-loop g l = (length l.portions.items ≡ l.counter) × All (λ h. h ≡ []) l.portions.items
