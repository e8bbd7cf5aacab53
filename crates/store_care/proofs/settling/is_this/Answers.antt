use Rattle.std.proofs.Common.{ap, ◌∙◌}
use Rattle.std.specs.Ordering.{is_eq}
use Rattle.stamp_order.specs.Stamps.{stamp_cmp, same_stamp}
use Rattle.store_care.proofs.settling.is_this.Goals as goal

pub returns-in-Some : goal.returns-in-Some
unfolding stamp_cmp same_stamp
returns-in-Some c = rw c.in-Some.is (c.is_eq.ensures ∙ ap is_eq c.cmp.ensures)
