use Rattle.std.proofs.Common.{◌<◌, sym, subst, arith}
use Rattle.gf_field.proofs.lemmas.Lagrange.{others-positive}
use Rattle.ida_code.proofs.Weights.{elements-from}
use Rattle.ida_code.proofs.points.scales_of.Goals as goal

pub inv-requires : goal.inv-requires
inv-requires g c =
    subst (λ z. 0 < z) (sym c.others.ensures) (others-positive c.args.numbers.now c.loop-k.k (elements-from c.args.numbers.now c.type_inv.numbers) c.requires (omega arith))
