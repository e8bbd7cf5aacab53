use Rattle.std.proofs.Common.{sym, arith}
use Rattle.gf_field.proofs.lemmas.FieldLaws.{product-lt}
use Rattle.gf_field.proofs.lemmas.Sums.{product_below-none, total-lt}
use Rattle.ida_code.proofs.Weights.{others_step_in, others_step_out, others_end}
use Rattle.ida_code.proofs.points.others.Goals as goal
use Rattle.ida_code.proofs.points.others.Goals.{then-l-k, else-l-k}

pub loop-l-init : goal.loop-l-init
loop-l-init g c = (sym (product_below-none _), omega arith)

pub loop-l-preserved : goal.loop-l-preserved
loop-l-preserved g c =
    elim c.if-l-k.branch [
      | then-l-k w ↦ rw (w.out-is, w.mul-out.ensures, w.add.ensures) (
        others_step_in c.args.numbers.now c.args.k c.args.x c.loop-l.l c.loop-l.out.0 w.if-l-k.true c.loop-l.invariant.0,
        product-lt _ _ c.loop-l.invariant.1 (total-lt c.args.x _ c.ranges.x.fits (c.type_inv.numbers c.loop-l.l).fits),
      )
      | else-l-k w ↦ rw w.out-is (
        others_step_out c.args.numbers.now c.args.k c.args.x c.loop-l.l c.loop-l.out.0 w.if-l-k.false c.loop-l.invariant.1 c.loop-l.invariant.0,
        c.loop-l.invariant.1,
      )
    ]

pub returns : goal.returns
returns g c = others_end c.args.numbers.now c.args.k c.args.x c.loop-l.l c.loop-l.out.0 (omega arith) c.loop-l.invariant.0
