use Rattle.std.proofs.Common.{slice_index_or, sym, ◌∙◌, ap}
use Rattle.node_device.proofs.Operations.{held_found}
use Rattle.node_device.proofs.device.NodeDevice.held.Goals as goal

pub unreachable-requires : goal.unreachable-requires
unreachable-requires c =
    let node = rw (← c.self.view_is) at c.requires.node in
    let block = rw (← c.self.view_is) at c.requires.block in
    let found = held_found _ _ _ c.self.invariant c.args.node c.args.block node block c.index.result.now (c.index.ensures ∙ ap (λ i. slice_index_or c.self.inside.nodes.items i c.index.result.now) c.from.ensures) in
    c.in_default.not-Found _ (c.in_ok-version.ensures ∙ found)

pub returns : goal.returns
returns c =
    let node = rw (← c.self.view_is) at c.requires.node in
    let block = rw (← c.self.view_is) at c.requires.block in
    let found = held_found _ _ _ c.self.invariant c.args.node c.args.block node block c.index.result.now (c.index.ensures ∙ ap (λ i. slice_index_or c.self.inside.nodes.items i c.index.result.now) c.from.ensures) in
    let same = sym c.in-Found.is ∙ c.in_ok-version.ensures ∙ found in
    rw (← c.self.view_is) cc
