use Rattle.std.proofs.Common.{sym, ◌∙◌}
use Rattle.stamp_order.specs.Stamps.{stamp_cmp}
use Rattle.history_making.specs.Drafts.{entry_of, in_version_cmp}
use Rattle.history_making.proofs.Orders.{then_on_equal, then_on_other}
use Rattle.history_making.proofs.draft.Draft.compare_at_time.Goals as goal

pub returns-in-Equal : goal.returns-in-Equal
unfolding stamp_cmp
returns-in-Equal c =
    c.compare_in_version.ensures
    ∙ sym (then_on_equal _ (in_version_cmp (entry_of c.args.self.now) (entry_of c.args.other.now)) (sym c.cmp.ensures ∙ c.in-Equal.is))

pub returns-in_default : goal.returns-in_default
unfolding stamp_cmp
returns-in_default c =
    c.cmp.ensures
    ∙ sym (then_on_other _ (in_version_cmp (entry_of c.args.self.now) (entry_of c.args.other.now)) (λ e. c.in_default.not-Equal (c.cmp.ensures ∙ e)))
