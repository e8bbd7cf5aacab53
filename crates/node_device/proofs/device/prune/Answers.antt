use Rattle.std.proofs.Common.{sym, ◌∙◌, ap, arith}
use Rattle.std.proofs.lemmas.List.Edits.{map_over_more}
use Rattle.node_device.specs.Devices.{pruned_at}
use Rattle.node_device.proofs.device.prune.Goals as goal

pub loop-node-preserved : goal.loop-node-preserved
loop-node-preserved c =
    rw (c.prune.ensures ∙ ap (λ x. pruned_at c.args.block c.args.stamp.now x) (sym c.node-item.is)) (map_over_more (pruned_at c.args.block c.args.stamp.now) _ c.loop-node.node-items c.loop-node.node-index c.node-item.result (omega (arith, c.loop-node-test.true)) c.loop-node.invariant c.node-item.is)
