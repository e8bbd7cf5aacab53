use Rattle.std.proofs.Common.{◌∷◌, [], take, drop, ◌+◌}
use Rattle.journals.specs.Journals.{setting_for}
use Rattle.merge_trace.specs.Numbered.{node_steps}
use Rattle.merge_trace.proofs.Adding.{gone_more, not_all, refused, node_more, node_cut}
use Rattle.merge_trace.proofs.steps.add_node.Goals as goal

pub loop-entry-preserved : goal.loop-entry-preserved
loop-entry-preserved c =
    let e = c.entry-item.result in
    gone_more (setting_for c.args.journals.now) c.args.numbers.now c.loop-entry.numbers c.add_node_entry.new.numbers (node_steps c.args.node (take c.loop-entry.entry-index c.args.entries.now)) (node_steps c.args.node (e ∷ []))
    (node_steps c.args.node (take (c.loop-entry.entry-index + 1) c.args.entries.now)) (node_more c.args.node c.args.entries.now c.loop-entry.entry-index e c.loop-entry-test.true c.entry-item.is)
    c.loop-entry.invariant (c.in_ok-add_node_entry.ensures.fine.0 c.if-not-branch.false) (c.in_ok-add_node_entry.ensures.numbers c.if-not-branch.false)

pub returns-then-not-branch-clause-fine : goal.returns-then-not-branch-clause-fine
returns-then-not-branch-clause-fine c =
    let e = c.entry-item.result in
    refused _ (not_all (setting_for c.args.journals.now) c.args.numbers.now c.loop-entry.numbers (node_steps c.args.node (take c.loop-entry.entry-index c.args.entries.now)) (node_steps c.args.node (e ∷ []))
    (node_steps c.args.node (drop (c.loop-entry.entry-index + 1) c.args.entries.now)) (node_steps c.args.node c.args.entries.now)
    (node_cut c.args.node c.args.entries.now c.loop-entry.entry-index e c.loop-entry-test.true c.entry-item.is) c.loop-entry.invariant
    (λ new. let k = c.in_ok-add_node_entry.ensures.fine.1 new in cc))
