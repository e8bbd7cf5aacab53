use Rattle.std.proofs.Common.{◌<◌, true, length, refl, sym, ◌∙◌, ap, subst, arith}
use Rattle.std.specs.Prelude.{IfSome, slice_set}
use Rattle.std.specs.Option.{option_map}
use Rattle.protocol.specs.Count.{update}
use Rattle.protocol.specs.Operations.{Task}
use Rattle.protocol.specs.World.{under_way}
use Rattle.world_state.specs.BlockUses.{IsAtWork, one_less, AreUses}
use Rattle.world_state.proofs.SettledUses.{left-is, may-leave, crash-uses}
use Rattle.world_state.specs.Worlds.{world_in}
use Rattle.world_state.specs.contracts.state.State.{the_view}
use Rattle.world_state.proofs.KeptWorlds.{raised, with_client_slot}
use Rattle.world_state.proofs.lemmas.Became.{known_as}
use Rattle.world_state.proofs.ClientSlots.{update-known, world-client_slot, slot-lying, slot-client, slot-task, client_slot-there}
use Rattle.world_state.proofs.state.State.crash_client.Goals as goal

pub leave-requires : goal.leave-requires
leave-requires c =
    subst (λ o. IfSome o (IsAtWork c.self.inside.uses.items)) (sym (c.works_on-block.ensures ∙ ap (λ v. option_map (λ (t : Task). t.block) (under_way (world_in v) c.args.client)) (sym c.self.view_is)))
    (may-leave c.self.inside c.self.invariant.0 c.self.invariant.2 c.args.client c.requires.client)

pub invariant_of-self : goal.invariant_of-self
invariant_of-self c =
    let h = c.self.invariant.0 in
    let inside : c.args.client < length c.self.inside.client_slots.items = (let l = h.clients in let q = c.requires.client in omega (arith, l, q)) in
    let old = c.index_mut-slot.result.now in
    let is = h.client_slot c.args.client old (client_slot-there c.self.inside c.args.client inside old c.index_mut-slot.ensures.value) in
    let new = with_client_slot _ _ _ _ _ h c.args.client (record old { crashed = true }) (record { config = is.config; id = is.id; task = is.task }) in (
      raised _ _ _ _ _ new c.args.place (let l = c.requires.later in let e = ap (λ v. v.seen.place) c.self.view_is in omega (arith, l, e)),
      c.self.invariant.1,
      subst (λ o. AreUses c.self.inside.config (slice_set c.self.inside.client_slots.items c.args.client (record old { crashed = true })) c.self.inside.records o) (sym (c.leave.ensures ∙ ap (one_less c.self.inside.uses.items) (c.works_on-block.ensures ∙ ap (λ v. option_map (λ (t : Task). t.block) (under_way (world_in v) c.args.client)) (sym c.self.view_is) ∙ left-is c.self.inside c.args.client inside old c.index_mut-slot.ensures.value h c.self.invariant.2)))
          (crash-uses c.self.inside c.args.client inside old c.index_mut-slot.ensures.value h c.self.invariant.2 (record old { crashed = true }) refl),
    )

pub returns : goal.returns
returns c =
    let inside : c.args.client < length c.self.inside.client_slots.items = (let l = c.self.invariant.0.clients in let q = c.requires.client in omega (arith, l, q)) in
    let old = c.index_mut-slot.result.now in
    let there = c.index_mut-slot.ensures.value in
    let v = the_view c.self.inside in
    let world = world-client_slot c.self.inside c.args.client inside (record old { crashed = true }) c.self.inside.pool c.self.inside.records c.args.place
    ∙ (λ i. record (world_in v) {
      task = update-known (world_in v).task c.args.client _ (sym (slot-task c.self.inside c.args.client inside old there)) i;
      life = update-known (world_in v).life c.args.client _ (ap (λ x. x.life) (sym (slot-client c.self.inside c.args.client inside old there))) i;
      started = update-known (world_in v).started c.args.client _ (ap (λ x. x.started) (sym (slot-client c.self.inside c.args.client inside old there))) i;
      client_crashed = update (world_in v).client_crashed c.args.client true;
      place = c.args.place;
    }) in
    known_as v c.args.self.now _ c.self.view_is (λ x. record (world_in x) { client_crashed = update (world_in x).client_crashed c.args.client true; place = c.args.place })
    (record { now = world; config = refl; lying_nodes = refl; lying_clients = slot-lying c.self.inside c.args.client inside (record old { crashed = true }) old there refl })
