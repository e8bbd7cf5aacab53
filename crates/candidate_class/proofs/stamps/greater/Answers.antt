use Rattle.std.proofs.Common.{◌≡◌, true, false, refl, sym, ◌∙◌, ap}
use Rattle.std.specs.Ordering.{is_le}
use Rattle.stamp_order.specs.Stamps.{up_to}
use Rattle.stamp_order.proofs.lemmas.Orders.{up_to_by_fields}
use Rattle.candidate_class.proofs.stamps.greater.Goals as goal

pub returns-then-is_le : goal.returns-then-is_le
returns-then-is_le c =
    let e : up_to c.in-Some-Some.x c.in-Some-Some.y ≡ true = sym (c.is_le.ensures ∙ ap is_le c.cmp.ensures ∙ up_to_by_fields c.in-Some-Some.x c.in-Some-Some.y) ∙ c.if-is_le.true in
    rw (c.in-Some-Some.is-0, c.in-Some-Some.is-1, e) refl

pub returns-else-is_le : goal.returns-else-is_le
returns-else-is_le c =
    let e : up_to c.in-Some-Some.x c.in-Some-Some.y ≡ false = sym (c.is_le.ensures ∙ ap is_le c.cmp.ensures ∙ up_to_by_fields c.in-Some-Some.x c.in-Some-Some.y) ∙ c.if-is_le.false in
    rw (c.in-Some-Some.is-0, c.in-Some-Some.is-1, e) refl
