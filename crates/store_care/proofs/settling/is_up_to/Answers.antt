use Rattle.std.proofs.Common.{ap, ◌∙◌}
use Rattle.std.specs.Ordering.{is_le}
use Rattle.stamp_order.specs.Stamps.{stamp_cmp, up_to}
use Rattle.store_care.proofs.settling.is_up_to.Goals as goal

pub returns-in-Some : goal.returns-in-Some
unfolding stamp_cmp up_to
returns-in-Some c = rw c.in-Some.is (c.is_le.ensures ∙ ap is_le c.cmp.ensures)
