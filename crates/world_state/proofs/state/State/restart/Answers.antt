use Rattle.std.proofs.Common.{refl, ◌∙◌, ap, arith}
use Rattle.protocol.specs.World.{only_place}
use Rattle.world_state.specs.contracts.state.State.{the_view}
use Rattle.world_state.specs.Worlds.{setting_in, world_in}
use Rattle.world_state.proofs.KeptWorlds.{raised}
use Rattle.world_state.proofs.lemmas.Became.{known_as}
use Rattle.world_state.proofs.NodeSlots.{within, node_slot-there, node_slots_same, with_node_slot, slot-lying, view-same, held_after_err}
use Rattle.world_state.proofs.state.State.restart.Goals as goal

pub invariant_of-self : goal.invariant_of-self
invariant_of-self c =
    let i = c.from.result in
    let old = c.index_mut-slot.result.now in
    let inside = within c.self.inside _ i c.args.node c.self.invariant.0 c.self.view_is c.from.ensures c.requires.node in
    let is = c.self.invariant.0.node_slot i old (node_slot-there c.self.inside i inside old c.index_mut-slot.ensures.value) in
    (with_node_slot _ _ _ _ _ c.self.invariant.0 i old is, c.self.invariant.1, c.self.invariant.2)

pub returns-in_err-again-clause-err : goal.returns-in_err-again-clause-err
returns-in_err-again-clause-err c =
    let i = c.from.result in
    let old = c.index_mut-slot.result.now in
    let inside = within c.self.inside _ i c.args.node c.self.invariant.0 c.self.view_is c.from.ensures c.requires.node in
    held_after_err c.from_residual.result _ (view-same c.self.inside i inside old c.index_mut-slot.ensures.value old refl refl refl ∙ c.self.view_is)

pub invariant_of-self-2 : goal.invariant_of-self-2
invariant_of-self-2 c =
    let i = c.from.result in
    let old = c.index_mut-slot.result.now in
    let inside = within c.self.inside _ i c.args.node c.self.invariant.0 c.self.view_is c.from.ensures c.requires.node in
    let is = c.self.invariant.0.node_slot i old (node_slot-there c.self.inside i inside old c.index_mut-slot.ensures.value) in
    let new = node_slots_same c.self.inside.config i old is (record old { stored = c.in_ok-again.again }) c.in_ok-again.ensures in
    (raised _ _ _ _ _ (with_node_slot _ _ _ _ _ c.self.invariant.0 i _ new) c.args.place (let l = c.requires.later in let e = ap (λ v. v.seen.place) c.self.view_is in omega (arith, l, e)), c.self.invariant.1, c.self.invariant.2)

pub returns-clause-ok : goal.returns-clause-ok
returns-clause-ok c =
    let i = c.from.result in
    let old = c.index_mut-slot.result.now in
    let inside = within c.self.inside _ i c.args.node c.self.invariant.0 c.self.view_is c.from.ensures c.requires.node in
    let same = view-same c.self.inside i inside old c.index_mut-slot.ensures.value (record old { stored = c.in_ok-again.again }) refl refl c.in_ok-again.ensures in
    known_as (the_view c.self.inside) c.args.self.now _ c.self.view_is (λ v. only_place (setting_in v) (world_in v) c.args.place)
    (record {
      now = ap (λ v. only_place (setting_in v) (world_in v) c.args.place) same;
      config = refl;
      lying_nodes = slot-lying c.self.inside i inside old c.index_mut-slot.ensures.value (record old { stored = c.in_ok-again.again }) refl;
      lying_clients = refl;
    })
