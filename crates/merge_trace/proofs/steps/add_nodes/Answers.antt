use Rattle.std.proofs.Common.{List, take, drop, ◌+◌, subst, sym}
use Rattle.journals.specs.declared.node.NodeEntry.{NodeEntry}
use Rattle.journals.specs.Journals.{setting_for}
use Rattle.merge_trace.specs.Numbered.{node_steps, all_node_steps, AreNew, AreAdded}
use Rattle.merge_trace.proofs.Adding.{gone_more, not_all, refused, nodes_more, nodes_cut}
use Rattle.merge_trace.proofs.steps.add_nodes.Goals as goal

pub loop-node-preserved : goal.loop-node-preserved
loop-node-preserved c =
    let es = c.index-nodes-node.result in
    gone_more (setting_for c.args.journals.now) c.args.numbers.now c.loop-node.numbers c.add_node.new.numbers (all_node_steps 0 (take c.loop-node.node c.args.nodes.now)) (node_steps c.loop-node.node es)
    (all_node_steps 0 (take (c.loop-node.node + 1) c.args.nodes.now)) (nodes_more c.args.nodes.now c.loop-node.node es c.loop-node-test.true c.index-nodes-node.is)
    c.loop-node.invariant
    (subst (λ (es : List NodeEntry). AreNew (setting_for c.args.journals.now) c.loop-node.numbers (node_steps c.loop-node.node es)) c.as_slice.ensures (c.in_ok-add_node.ensures.fine.0 c.if-not-branch.false))
    (subst (λ (es : List NodeEntry). AreAdded c.loop-node.numbers c.add_node.new.numbers (node_steps c.loop-node.node es)) c.as_slice.ensures (c.in_ok-add_node.ensures.numbers c.if-not-branch.false))

pub returns-then-not-branch-clause-fine : goal.returns-then-not-branch-clause-fine
returns-then-not-branch-clause-fine c =
    let es = c.index-nodes-node.result in
    refused _ (not_all (setting_for c.args.journals.now) c.args.numbers.now c.loop-node.numbers (all_node_steps 0 (take c.loop-node.node c.args.nodes.now)) (node_steps c.loop-node.node es)
    (all_node_steps (c.loop-node.node + 1) (drop (c.loop-node.node + 1) c.args.nodes.now)) (all_node_steps 0 c.args.nodes.now)
    (nodes_cut c.args.nodes.now c.loop-node.node es c.loop-node-test.true c.index-nodes-node.is) c.loop-node.invariant
    (λ new. let k = c.in_ok-add_node.ensures.fine.1 (subst (λ (es : List NodeEntry). AreNew (setting_for c.args.journals.now) c.loop-node.numbers (node_steps c.loop-node.node es)) (sym c.as_slice.ensures) new) in cc))
