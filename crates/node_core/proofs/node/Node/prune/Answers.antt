use Rattle.std.proofs.Common.{ap, arith}
use Rattle.protocol.specs.Instance.{setting}
use Rattle.node_core.proofs.lemmas.Blocks.{block_at, node_set, pruned_later}
use Rattle.node_core.proofs.node.Node.prune.Goals as goal

pub returns : goal.returns
returns c =
    let there = rw (← c.self.view_is) at c.requires in
    let listed = block_at c.self.inside.first c.self.inside.blocks.items c.args.block _ (omega (arith, there, c.self.invariant.count)) c.index_mut.ensures.value in
    let begins = ap (λ v. v.stamp) c.self.invariant.begins in
    let kept = pruned_later (setting c.self.inside.config) c.args.stamp.now c.self.inside.first c.index_mut.result.now begins c.prune.ensures.later in
    rw (← c.self.view_is, listed, kept, c.prune.ensures.kept) (node_set c.self.inside.config c.self.inside.number c.self.inside.first c.self.inside.blocks.items c.args.block _)
