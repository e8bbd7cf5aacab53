use Rattle.std.proofs.Common.{true, refl, ◌∙◌, ap, arith}
use Rattle.protocol.specs.Count.{update}
use Rattle.world_state.specs.contracts.state.State.{the_view}
use Rattle.world_state.specs.Worlds.{world_in}
use Rattle.world_state.proofs.KeptWorlds.{raised}
use Rattle.world_state.proofs.lemmas.Became.{known_as}
use Rattle.world_state.proofs.NodeSlots.{within, node_slot-there, with_node_slot, slot-lying, world-crashed}
use Rattle.world_state.proofs.state.State.crash_node.Goals as goal

pub invariant_of-self : goal.invariant_of-self
invariant_of-self c =
    let i = c.from.result in
    let old = c.index_mut-slot.result.now in
    let inside = within c.self.inside _ i c.args.node c.self.invariant.0 c.self.view_is c.from.ensures c.requires.node in
    let is = c.self.invariant.0.node_slot i old (node_slot-there c.self.inside i inside old c.index_mut-slot.ensures.value) in
    let new = with_node_slot _ _ _ _ _ c.self.invariant.0 i (record old { crashed = true }) (record { config = is.config; number = is.number; blocks = is.blocks }) in
    (raised _ _ _ _ _ new c.args.place (let l = c.requires.later in let e = ap (λ v. v.seen.place) c.self.view_is in omega (arith, l, e)), c.self.invariant.1, c.self.invariant.2)

pub returns : goal.returns
returns c =
    let i = c.from.result in
    let old = c.index_mut-slot.result.now in
    let inside = within c.self.inside _ i c.args.node c.self.invariant.0 c.self.view_is c.from.ensures c.requires.node in
    let e = world-crashed c.self.inside i inside old c.index_mut-slot.ensures.value (record old { crashed = true }) refl in
    let v = the_view c.self.inside in
    known_as v c.args.self.now _ c.self.view_is (λ x. record (world_in x) { node_crashed = update (world_in x).node_crashed c.args.node true; place = c.args.place })
    (record {
      now = (λ j. record (e j) { place = c.args.place }) ∙ (λ j. record (world_in v) { node_crashed = update (world_in v).node_crashed (c.from.ensures j) true; place = c.args.place });
      config = refl;
      lying_nodes = slot-lying c.self.inside i inside old c.index_mut-slot.ensures.value (record old { crashed = true }) refl;
      lying_clients = refl;
    })
