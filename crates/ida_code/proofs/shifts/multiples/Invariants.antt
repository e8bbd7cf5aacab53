use Rattle.std.proofs.Common.{◌≡◌, ◌<◌, ℕ, length, get_or}
use Rattle.gf_field.specs.Field.{product}
use Rattle.ida_code.proofs.shifts.multiples.Given as goal

abbrev pub invariant-loop-b : goal.invariant-loop-b
invariant-loop-b l = (length l.out ≡ 256) × ((k : ℕ) → k < l.b → get_or l.out k 0 ≡ product l.element k)
