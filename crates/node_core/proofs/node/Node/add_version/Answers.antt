use Rattle.std.proofs.Common.{◌≡◌, ◌∙◌, sym, subst}
use Rattle.node_core.specs.Past.{IsUndone}
use Rattle.node_core.specs.Seen.{SeenNode, with_versions, after_of}
use Rattle.node_core.proofs.Undoing.{added_undone}
use Rattle.node_core.proofs.node.Node.add_version.Goals as goal

pub invariant_of-result : goal.invariant_of-result
invariant_of-result c =
    let node : SeenNode = c.args.self.now in
    let ask = c.args.ask.now in
    let stamp = c.args.version.stamp in
    let after : c.of.result.state ≡ with_versions node ask.block (after_of node ask) = c.of.ensures ∙ c.in_ok-commit.ensures.ok in
    subst (λ (n : SeenNode). IsUndone n c.of.result.state ask.block stamp) (sym c.of-before.ensures)
    (subst (λ (n : SeenNode). IsUndone node n ask.block stamp) (sym after) (added_undone node ask c.args.version c.requires))
