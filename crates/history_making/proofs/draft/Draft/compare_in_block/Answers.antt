use Rattle.std.proofs.Common.{sym, ◌∙◌, ap}
use Rattle.std.specs.Ordering.{ordering_then}
use Rattle.stamp_order.specs.Stamps.{stamp_cmp}
use Rattle.history_making.specs.Drafts.{entry_of, in_version_cmp}
use Rattle.history_making.proofs.Orders.{then_on_other}
use Rattle.history_making.proofs.draft.Draft.compare_in_block.Goals as goal

pub returns-in_default : goal.returns-in_default
unfolding stamp_cmp
returns-in_default c =
    let rest = in_version_cmp (entry_of c.args.self.now) (entry_of c.args.other.now) in
    c.cmp.ensures
    ∙ sym (ap (λ o. ordering_then o rest) (then_on_other _ _ (λ e. c.in_default.not-Equal (c.cmp.ensures ∙ e))) ∙ then_on_other _ rest (λ e. c.in_default.not-Equal (c.cmp.ensures ∙ e)))
