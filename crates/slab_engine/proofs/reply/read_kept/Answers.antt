use Rattle.std.proofs.Common.{◌≡◌, ap, arith}
use Rattle.slab_engine.proofs.reply.read_kept.Goals as goal

pub read_slot-requires-clause-nodes : goal.read_slot-requires-clause-nodes
read_slot-requires-clause-nodes g c =
    let nodes : c.of-shape.result.nodes ≡ c.args.identity.now.config.n = ap (λ s. s.nodes) c.of-shape.ensures.is in
    let most = c.n-nodes.ensures.valid.nodes.1 in
    omega (arith, nodes, most)

pub read_slot-requires-clause-some : goal.read_slot-requires-clause-some
read_slot-requires-clause-some g c =
    let nodes : c.of-shape.result.nodes ≡ c.args.identity.now.config.n = ap (λ s. s.nodes) c.of-shape.ensures.is in
    let least = c.n-nodes.ensures.valid.nodes.0 in
    omega (arith, nodes, least)
