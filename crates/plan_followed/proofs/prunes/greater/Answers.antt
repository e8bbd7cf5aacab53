use Rattle.std.proofs.Common.{◌≡◌, false, sym, ◌∙◌, ap, subst}
use Rattle.std.specs.Prelude.{IfSome}
use Rattle.std.specs.Ordering.{is_le}
use Rattle.stamp_order.specs.Stamps.{up_to, ◌≼◌}
use Rattle.stamp_order.proofs.lemmas.Orders.{up_to_by_fields}
use Rattle.protocol.proofs.lemmas.Order.{≼-refl, not_up_to}
use Rattle.plan_followed.proofs.prunes.greater.Goals as goal

pub returns-then-is_le-clause-top : goal.returns-then-is_le-clause-top
returns-then-is_le-clause-top c = subst (λ o. IfSome o (λ t. t ≼ c.in-Some.top)) (sym c.in-Some.is) (≼-refl c.in-Some.top)

pub returns-then-is_le-clause-stamp : goal.returns-then-is_le-clause-stamp
returns-then-is_le-clause-stamp c = sym (c.is_le.ensures ∙ ap is_le c.cmp.ensures ∙ up_to_by_fields c.args.stamp.now c.in-Some.top) ∙ c.if-is_le.true

pub returns-else-is_le-clause-top : goal.returns-else-is_le-clause-top
returns-else-is_le-clause-top c =
    let e : up_to c.args.stamp.now c.in-Some.top ≡ false = sym (c.is_le.ensures ∙ ap is_le c.cmp.ensures ∙ up_to_by_fields c.args.stamp.now c.in-Some.top) ∙ c.if-is_le.false in
    subst (λ o. IfSome o (λ t. t ≼ c.args.stamp.now)) (sym c.in-Some.is) (not_up_to c.args.stamp.now c.in-Some.top e)

pub returns-else-is_le-clause-stamp : goal.returns-else-is_le-clause-stamp
returns-else-is_le-clause-stamp c = ≼-refl c.args.stamp.now

pub returns-in-None-clause-stamp : goal.returns-in-None-clause-stamp
returns-in-None-clause-stamp c = ≼-refl c.args.stamp.now
