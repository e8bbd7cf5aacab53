use Rattle.std.proofs.Common.{◌∙◌}
use Rattle.node_core.specs.Index.{is_other}
use Rattle.node_core.proofs.lemmas.Changes.{dropped_index, dropped_list, other_stamps}
use Rattle.node_core.proofs.kept.Kept.take_back.Goals as goal

pub invariant_of-self : goal.invariant_of-self
invariant_of-self c = rw c.drop_stamp.ensures (dropped_index _ _ _ c.self.invariant (is_other _) c.drop_version.ensures)

pub returns : goal.returns
returns c =
    let listed = dropped_list _ _ c.drop_version.new.by_stamp c.self.invariant (is_other _) c.drop_version.ensures in
    rw c.drop_stamp.ensures (rw c.self.view_is at listed ∙ other_stamps c.args.stamp.now c.args.self.now)
