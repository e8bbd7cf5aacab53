use Rattle.std.proofs.Common.{◌≡◌, ◌∷◌, ◌∙◌, sym, subst, ap, not, Bool, cond, arith}
use Rattle.node_core.specs.Past.{IsUndone}
use Rattle.node_core.specs.Seen.{SeenNode, versions_in, with_versions, without}
use Rattle.node_core.proofs.lemmas.Blocks.{block_at, node_set, not_of_first}
use Rattle.node_core.proofs.node.Node.undo.Goals as goal

pub returns : goal.returns
returns c =
    let block = c.undo.inside.block in
    let stamp = c.undo.inside.stamp in
    let node : SeenNode = c.args.self.now in
    let here : node ≡ c.undo.inside.after.state = c.requires ∙ sym (ap (λ a. a.after) c.undo.view_is) in
    let is : IsUndone c.undo.inside.before.state node block stamp = subst (λ (n : SeenNode). IsUndone c.undo.inside.before.state n block stamp) (sym here) c.undo.invariant in
    let back : with_versions node block (without stamp (versions_in node block)) ≡ c.args.undo.before = is.undoes ∙ ap (λ a. a.before) c.undo.view_is in
    let there = rw (← c.self.view_is) at is.there in
    let first = c.self.inside.first in
    let later = c.index_mut.result.now in
    let listed = block_at first c.self.inside.blocks.items block _ (omega (arith, there, c.self.invariant.count)) c.index_mut.ensures.value in
    let zero : first.stamp.time ≡ 0 = ap (λ v. v.stamp.time) c.self.invariant.begins in
    let stays : without stamp (first ∷ later) ≡ first ∷ without stamp later =
    ap (λ (b : Bool). cond (not b) (first ∷ without stamp later) (without stamp later)) (not_of_first stamp first.stamp zero is.later) in
    rw (← back, ← c.self.view_is, listed, stays, c.take_back.ensures) (node_set c.self.inside.config c.self.inside.number first c.self.inside.blocks.items block _)
