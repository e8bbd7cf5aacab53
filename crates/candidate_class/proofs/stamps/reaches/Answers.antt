use Rattle.std.proofs.Common.{◌∙◌, ap}
use Rattle.std.specs.Ordering.{is_le}
use Rattle.stamp_order.proofs.lemmas.Orders.{up_to_by_fields}
use Rattle.candidate_class.proofs.stamps.reaches.Goals as goal

pub returns-in-Some : goal.returns-in-Some
returns-in-Some c = rw c.in-Some.is (c.is_le.ensures ∙ ap is_le c.cmp.ensures ∙ up_to_by_fields c.args.stamp.now c.in-Some.other)
