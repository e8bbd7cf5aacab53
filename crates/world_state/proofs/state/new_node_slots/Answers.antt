use Rattle.std.proofs.Common.{false, refl, sym, subst, arith}
use Rattle.std.proofs.lemmas.Grind.{common_steps}
use Rattle.wire_forms.specs.Liars.{has_number}
use Rattle.world_state.specs.Beginnings.{IsNewNodeSlot, AreNewNodeSlots}
use Rattle.world_state.proofs.FirstWorlds.{node_slots-push}
use Rattle.world_state.proofs.state.new_node_slots.Goals as goal

pub loop-number-preserved : goal.loop-number-preserved
loop-number-preserved c = record {
  count = grind (arith, common_steps);
  new =
      subst (AreNewNodeSlots c.args.config.now (has_number c.args.liars.now.nodes)) (sym c.in_ok-push.ensures.items)
      (node_slots-push c.args.config.now (has_number c.args.liars.now.nodes) c.loop-number.slots.items _ c.loop-number.invariant.new
      (subst (λ i. IsNewNodeSlot c.args.config.now (has_number c.args.liars.now.nodes) i (record { stored = c.in_ok-new.field-0; crashed = false; lying = c.node.result })) (sym c.loop-number.invariant.count) (record { node = c.in_ok-new.ensures; awake = refl; lying = c.node.ensures })));
}
