use Rattle.std.proofs.Common.{take}
use Rattle.journals.specs.Journals.{setting_for}
use Rattle.merge_trace.specs.Numbered.{all_node_steps}
use Rattle.merge_trace.proofs.Adding.{Gone}
use Rattle.merge_trace.proofs.steps.add_nodes.Given as goal

-- the nodes so far were added
abbrev pub invariant-loop-node : goal.invariant-loop-node
invariant-loop-node l = Gone (setting_for l.journals) l.fn.numbers l.numbers (all_node_steps 0 (take l.node l.nodes))
