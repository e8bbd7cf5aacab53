use Rattle.std.proofs.Common.{sym, ◌∙◌}
use Rattle.protocol.specs.History.{entry_cmp}
use Rattle.history_making.specs.Drafts.{entry_of, in_block_cmp}
use Rattle.history_making.proofs.Orders.{then_on_equal, then_on_other}
use Rattle.history_making.proofs.draft.Draft.compare.Goals as goal

pub returns-in-Equal : goal.returns-in-Equal
unfolding entry_cmp
returns-in-Equal c =
    c.compare_in_block.ensures
    ∙ sym (then_on_equal _ (in_block_cmp (entry_of c.args.self.now) (entry_of c.args.other.now)) (sym c.cmp.ensures ∙ c.in-Equal.is))

pub returns-in_default : goal.returns-in_default
unfolding entry_cmp
returns-in_default c =
    c.cmp.ensures
    ∙ sym (then_on_other _ (in_block_cmp (entry_of c.args.self.now) (entry_of c.args.other.now)) (λ e. c.in_default.not-Equal (c.cmp.ensures ∙ e)))
