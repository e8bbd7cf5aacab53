use Rattle.std.proofs.Common.{refl, arith}
use Rattle.node_core.proofs.lemmas.Changes.{added_index, added_list}
use Rattle.node_core.proofs.Finding.{none_at}
use Rattle.node_core.proofs.kept.Kept.add.Goals as goal

pub invariant_of-self-2 : goal.invariant_of-self-2
invariant_of-self-2 c =
    let room = c.in_ok-reserve.ensures.ok in
    let pushed = rw (c.push.ensures.succeeds (omega (arith, room))) at c.push.ensures.items in
    let kept = c.reserve.ensures.items in
    let new = none_at _ _ c.self.invariant c.args.version.stamp (rw (← c.self.view_is) at c.requires.new) in
    rw (pushed, kept) (added_index _ _ _ c.self.invariant c.args.version _ refl new c.requires.later c.in_ok-insert.ensures.updates.0)

pub returns-clause-ok : goal.returns-clause-ok
returns-clause-ok c =
    let room = c.in_ok-reserve.ensures.ok in
    let pushed = rw (c.push.ensures.succeeds (omega (arith, room))) at c.push.ensures.items in
    let kept = c.reserve.ensures.items in
    let new = none_at _ _ c.self.invariant c.args.version.stamp (rw (← c.self.view_is) at c.requires.new) in
    rw (pushed, kept, ← c.self.view_is) (added_list _ _ c.insert.new.self c.self.invariant c.args.version _ refl new c.requires.later c.in_ok-insert.ensures.updates.0)
