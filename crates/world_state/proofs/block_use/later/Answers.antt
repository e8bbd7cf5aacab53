use Rattle.std.proofs.Common.{◌≡◌, true, false, ap, sym, ◌∙◌}
use Rattle.std.specs.Ordering.{is_le}
use Rattle.stamp_order.specs.Stamps.{up_to}
use Rattle.stamp_order.proofs.lemmas.Orders.{up_to_by_fields}
use Rattle.world_state.proofs.block_use.later.Goals as goal

pub returns-then-is_le : goal.returns-then-is_le
returns-then-is_le c =
    let e : up_to c.args.x c.args.y ≡ true = sym (c.is_le.ensures ∙ ap is_le c.cmp.ensures ∙ up_to_by_fields c.args.x c.args.y) ∙ c.if-is_le.true in
    rw e

pub returns-else-is_le : goal.returns-else-is_le
returns-else-is_le c =
    let e : up_to c.args.x c.args.y ≡ false = sym (c.is_le.ensures ∙ ap is_le c.cmp.ensures ∙ up_to_by_fields c.args.x c.args.y) ∙ c.if-is_le.false in
    rw e
