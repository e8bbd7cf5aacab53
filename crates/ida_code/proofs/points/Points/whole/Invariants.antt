use Rattle.std.proofs.Common.{◌≡◌}
use Rattle.gf_field.specs.Interpolation.{product_below}
use Rattle.ida_code.specs.Points.{added}
use Rattle.ida_code.proofs.points.Points.whole.Given as goal

abbrev pub invariant-loop-number : goal.invariant-loop-number
invariant-loop-number g l = l.out.0 ≡ product_below l.number-index (added l.number-items l.x)
