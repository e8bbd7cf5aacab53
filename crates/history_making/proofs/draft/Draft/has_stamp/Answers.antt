use Rattle.std.proofs.Common.{sym, ◌∙◌}
use Rattle.history_making.proofs.Stamped.{same_stamp-fields}
use Rattle.history_making.proofs.draft.Draft.has_stamp.Goals as goal

pub returns : goal.returns
returns c = c.eq.ensures ∙ sym (same_stamp-fields c.args.self.now.stamp.now c.args.stamp.now)
