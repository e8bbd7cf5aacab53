use Rattle.std.proofs.Common.{sym}
use Rattle.gf_field.proofs.lemmas.Sums.{product_below-none}
use Rattle.ida_code.proofs.Weights.{whole-more}
use Rattle.ida_code.proofs.points.Points.whole.Goals as goal

pub loop-number-init : goal.loop-number-init
loop-number-init g c = sym (product_below-none _)

pub loop-number-preserved : goal.loop-number-preserved
loop-number-preserved g c = rw (c.mul-out.ensures, c.add.ensures) (whole-more _ c.args.x c.loop-number.number-index c.loop-number.out.0 c.loop-number.invariant)
