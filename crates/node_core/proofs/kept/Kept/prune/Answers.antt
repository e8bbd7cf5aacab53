use Rattle.std.proofs.Common.{sym, ◌∙◌}
use Rattle.node_core.specs.Index.{is_up_to}
use Rattle.node_core.proofs.Finding.{listed_later}
use Rattle.node_core.proofs.lemmas.Changes.{dropped_index, dropped_list, kept_from, kept_all}
use Rattle.node_core.proofs.kept.Kept.prune.Goals as goal

pub invariant_of-self : goal.invariant_of-self
invariant_of-self c = rw c.drop_stamps.ensures (dropped_index _ _ _ c.self.invariant (is_up_to _) c.drop_versions.ensures)

pub returns-in-Some-clause-kept : goal.returns-in-Some-clause-kept
returns-in-Some-clause-kept c =
    let kept = kept_from c.args.stamp.now c.args.self.now _ (sym c.in-Some.ensures.greatest) in
    let listed = dropped_list _ _ c.drop_versions.new.by_stamp c.self.invariant (is_up_to _) c.drop_versions.ensures in
    rw c.drop_stamps.ensures (rw c.self.view_is at listed ∙ kept)

pub returns-in-None-clause-kept : goal.returns-in-None-clause-kept
returns-in-None-clause-kept c = kept_all c.args.stamp.now c.args.self.now (sym c.in-None.ensures.greatest)

pub returns-in-Some-clause-later : goal.returns-in-Some-clause-later
returns-in-Some-clause-later c = rw (← c.self.view_is) (listed_later _ _ c.self.invariant)

pub returns-in-None-clause-later : goal.returns-in-None-clause-later
returns-in-None-clause-later c = rw (← c.self.view_is) (listed_later _ _ c.self.invariant)
