use Rattle.std.proofs.Common.{take}
use Rattle.journals.specs.Journals.{setting_for}
use Rattle.merge_trace.specs.Numbered.{node_steps}
use Rattle.merge_trace.proofs.Adding.{Gone}
use Rattle.merge_trace.proofs.steps.add_node.Given as goal

-- the entries so far were added
abbrev pub invariant-loop-entry : goal.invariant-loop-entry
invariant-loop-entry l = Gone (setting_for l.journals) l.fn.numbers l.numbers (node_steps l.node (take l.entry-index l.entries))
