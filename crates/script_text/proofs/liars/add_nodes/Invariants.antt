use Rattle.std.proofs.Common.{◌≡◌}
use Rattle.script_text.specs.Replays.{liar_line}
use Rattle.script_text.specs.declared.liars.Declared.TheVariants.{Node}
use Rattle.script_text.proofs.Printed.{written}
use Rattle.script_text.proofs.liars.add_nodes.Given as goal

abbrev pub invariant-loop-node : goal.invariant-loop-node
invariant-loop-node l = l.text ≡ written (λ n. liar_line (Node n)) l.fn.text l.node l.liars.nodes
