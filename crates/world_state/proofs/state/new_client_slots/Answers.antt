use Rattle.std.proofs.Common.{false, sym, ◌∙◌, ap, subst, arith}
use Rattle.std.proofs.lemmas.Grind.{common_steps}
use Rattle.wire_forms.specs.Liars.{has_number}
use Rattle.protocol.specs.Seen.{new_client}
use Rattle.operation_core.specs.Clients.{ClientView}
use Rattle.world_state.specs.Beginnings.{new_client_slot, AreNewClientSlots}
use Rattle.world_state.proofs.FirstWorlds.{client_slots-push}
use Rattle.world_state.proofs.state.new_client_slots.Goals as goal

pub loop-id-preserved : goal.loop-id-preserved
loop-id-preserved c = record {
  count = grind (arith, common_steps);
  new =
      subst (AreNewClientSlots c.args.config.now (has_number c.args.liars.now.clients)) (sym c.in_ok-push.ensures.items)
      (client_slots-push c.args.config.now (has_number c.args.liars.now.clients) c.loop-id.slots.items _ c.loop-id.invariant.new ((λ i. record { client = (c.sibling.ensures ∙ ap (λ (v : ClientView). record { config = v.config; id = c.loop-id.id; seen = new_client }) c.in_ok-nobody.ensures) i; start = 0; index = 0; crashed = false; lying = c.client.ensures i }) ∙ ap (new_client_slot c.args.config.now (has_number c.args.liars.now.clients)) (sym c.loop-id.invariant.count)));
}
