use Rattle.std.proofs.Common.{ap, sym, ◌∙◌}
use Rattle.std.specs.Ordering.{is_le, is_lt}
use Rattle.stamp_order.specs.Stamps.{has}
use Rattle.stamp_order.proofs.lemmas.Orders.{up_to_by_fields, before_by_fields}
use Rattle.stamp_order.proofs.Bound.has.Goals as goal

pub returns-in-AtMost : goal.returns-in-AtMost
returns-in-AtMost c =
    let e = c.is_le.ensures ∙ ap is_le c.cmp.ensures ∙ up_to_by_fields c.args.stamp.now c.in-AtMost.most ∙ sym (ap (λ b. has b c.args.stamp.now) c.in-AtMost.is) in
    (λ h. sym e ∙ h, λ h. e ∙ h)

pub returns-in-Below : goal.returns-in-Below
returns-in-Below c =
    let e = c.is_lt.ensures ∙ ap is_lt c.cmp-in-Below.ensures ∙ before_by_fields c.args.stamp.now c.in-Below.limit ∙ sym (ap (λ b. has b c.args.stamp.now) c.in-Below.is) in
    (λ h. sym e ∙ h, λ h. e ∙ h)
