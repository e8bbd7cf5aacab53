use Rattle.std.proofs.Common.{refl, sym, ◌∙◌}
use Rattle.history_making.specs.Drafts.{entry_of}
use Rattle.history_making.proofs.Steps.{same_mark, more_mark}
use Rattle.history_making.proofs.sweep.next_mark.Goals as goal

pub returns-then-has_stamp : goal.returns-then-has_stamp
returns-then-has_stamp c =
    rw c.in-Some.is (same_mark (entry_of c.in-Some.last.now) (entry_of c.args.draft.now) c.in-Some.mark (c.if-is_rival.ensures.0 refl) (sym c.has_stamp.ensures ∙ c.if-has_stamp.true))

pub returns-else-has_stamp : goal.returns-else-has_stamp
returns-else-has_stamp c =
    rw c.in-Some.is (more_mark (entry_of c.in-Some.last.now) (entry_of c.args.draft.now) c.in-Some.mark (c.if-is_rival.ensures.0 refl) (sym c.has_stamp.ensures ∙ c.if-has_stamp.false))
