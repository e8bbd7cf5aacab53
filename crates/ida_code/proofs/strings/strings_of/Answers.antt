use Rattle.std.proofs.Common.{◌∙◌, sym, ap, subst, arith}
use Rattle.gf_field.specs.Fragments.{HaveElements}
use Rattle.ida_code.specs.Lent.{lent}
use Rattle.ida_code.proofs.Lending.{lent-push, strings-more, HaveElements-push}
use Rattle.ida_code.proofs.strings.strings_of.Goals as goal

pub loop-part-preserved : goal.loop-part-preserved
loop-part-preserved c =
    let pushed = ap lent c.in_ok-push.ensures.items ∙ lent-push c.loop-part.strings.items c.as_slice.result in
    let more = strings-more c.args.parts.now c.loop-part.part-index c.part-item.result (omega arith) in
    let elements = HaveElements-push (lent c.loop-part.strings.items) c.as_slice.result.now c.loop-part.invariant.1 (rw c.as_slice.ensures.value c.as_slice.ensures.bytes) in
    (cc (pushed, more, c.loop-part.invariant.0, c.as_slice.ensures.value, c.part-item.is), subst HaveElements (sym pushed) elements)
