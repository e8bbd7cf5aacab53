use Rattle.std.proofs.Common.{◌≡◌, ◌<◌, ℕ, length, get_or}
use Rattle.gf_field.specs.Field.{inverse}
use Rattle.gf_field.specs.Interpolation.{others}
use Rattle.ida_code.proofs.points.scales_of.Given as goal

abbrev pub invariant-loop-k : goal.invariant-loop-k
invariant-loop-k g l =
    (length l.scales.items ≡ l.k)
    × ((j : ℕ) → j < l.k → get_or l.scales.items j 0 ≡ inverse (others l.numbers j (get_or l.numbers j 0)))
