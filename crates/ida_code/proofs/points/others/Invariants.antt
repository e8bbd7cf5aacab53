use Rattle.std.proofs.Common.{◌≡◌, ◌<◌}
use Rattle.gf_field.specs.Interpolation.{product_below, factor}
use Rattle.ida_code.proofs.points.others.Given as goal

abbrev pub invariant-loop-l : goal.invariant-loop-l
invariant-loop-l g l = (l.out.0 ≡ product_below l.l (factor l.numbers l.k l.x)) × (l.out.0 < 256)
