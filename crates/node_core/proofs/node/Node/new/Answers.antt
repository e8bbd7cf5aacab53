use Rattle.std.proofs.Common.{◌≡◌, arith}
use Rattle.node_core.proofs.Firsts.{new_is_node, new_view}
use Rattle.node_core.proofs.node.Node.new.Goals as goal

pub invariant_of-result : goal.invariant_of-result
invariant_of-result c =
    let all : c.loop.counter ≡ c.args.config.now.blocks = omega (arith, c.blocks-end.ensures.is) in
    new_is_node _ _ c.blocks-end.ensures.valid c.requires c.in_ok-stamp.field-0 c.in_ok-stamp.ensures c.loop.blocks.items (rw all at c.loop.invariant)

pub returns : goal.returns
returns c =
    let all : c.loop.counter ≡ c.args.config.now.blocks = omega (arith, c.blocks-end.ensures.is) in
    new_view _ _ c.blocks-end.ensures.valid c.requires c.in_ok-stamp.field-0 c.in_ok-stamp.ensures c.loop.blocks.items (rw all at c.loop.invariant)
