use Rattle.std.proofs.Common.{◌≡◌, ◌<◌, length, refl, sym, ◌∙◌, ap, arith}
use Rattle.std.specs.declared.option.Option.TheVariants.{Some}
use Rattle.protocol.specs.Count.{update}
use Rattle.protocol.specs.Nodes.{pruned}
use Rattle.protocol.specs.World.{pruned_at}
use Rattle.protocol.specs.Instance.{setting}
use Rattle.node_core.specs.Seen.{SeenNode}
use Rattle.world_state.specs.Worlds.{setting_in, world_in}
use Rattle.world_state.specs.contracts.state.State.{the_view}
use Rattle.world_state.proofs.KeptWorlds.{raised}
use Rattle.world_state.proofs.lemmas.Became.{became_this, known_as, became_passed}
use Rattle.world_state.proofs.NodeSlots.{within, node_slot-there, node_slots_versions, node_slots_same, with_node_slot, slot-lying, world-versions, versions-there, view-same, held_after_err}
use Rattle.world_state.proofs.state.State.prune.Goals as goal

pub keep_prune-requires : goal.keep_prune-requires
keep_prune-requires c =
    let i = c.from.result in
    let old = c.index_mut-slot.result.now in
    let inside = within c.self.inside _ i c.args.node c.self.invariant.0 c.self.view_is c.from.ensures c.requires.node in
    let is = c.self.invariant.0.node_slot i old (node_slot-there c.self.inside i inside old c.index_mut-slot.ensures.value) in
    let e = ap (λ v. v.config.blocks) c.self.view_is in
    let f : old.stored.node.config.blocks ≡ c.self.inside.config.blocks = ap (λ n. n.blocks) is.config in
    let l = c.requires.block in
    omega (arith, e, f, l)

pub invariant_of-self-2 : goal.invariant_of-self-2
invariant_of-self-2 c =
    let i = c.from.result in
    let old = c.index_mut-slot.result.now in
    let inside = within c.self.inside _ i c.args.node c.self.invariant.0 c.self.view_is c.from.ensures c.requires.node in
    let is = c.self.invariant.0.node_slot i old (node_slot-there c.self.inside i inside old c.index_mut-slot.ensures.value) in
    let new = node_slots_versions c.self.inside.config i old is (record old { stored = c.keep_prune.new.self }) c.args.block _ c.in_ok-keep_prune.ensures.ok in
    (raised _ _ _ _ _ (with_node_slot _ _ _ _ _ c.self.invariant.0 i (record old { stored = c.keep_prune.new.self }) new) c.args.place (let l = c.requires.later in let e = ap (λ v. v.seen.place) c.self.view_is in omega (arith, l, e)), c.self.invariant.1, c.self.invariant.2)

pub returns-clause-ok : goal.returns-clause-ok
returns-clause-ok c =
    let i = c.from.result in
    let old = c.index_mut-slot.result.now in
    let there = c.index_mut-slot.ensures.value in
    let inside = within c.self.inside _ i c.args.node c.self.invariant.0 c.self.view_is c.from.ensures c.requires.node in
    let is = c.self.invariant.0.node_slot i old (node_slot-there c.self.inside i inside old there) in
    let l : c.args.block < length old.stored.node.blocks = (let e = ap (λ v. v.config.blocks) c.self.view_is in let f = is.blocks in let m = c.requires.block in omega (arith, e, f, m)) in
    let stamp = c.in-Some.stamp in
    let v = the_view c.self.inside in
    let world = world-versions c.self.inside i inside old there (record old { stored = c.keep_prune.new.self }) refl c.args.block _ l (ap (λ (a : SeenNode). a.blocks) c.in_ok-keep_prune.ensures.ok) in
    let same = versions-there c.self.inside i inside old there c.args.block l in
    let became = known_as v c.args.self.now _ c.self.view_is (λ x. pruned_at (setting_in x) (world_in x) c.args.place c.args.node c.args.block (Some stamp))
    (record {
      now =
          (λ j. record (world j) { place = c.args.place })
          ∙ (λ j. record (world_in v) {
            versions = update (world_in v).versions i (update ((world_in v).versions i) c.args.block (pruned (setting (is.config j)) stamp (sym same j)));
            place = c.args.place;
          })
          ∙ (λ j. pruned_at (setting_in v) (world_in v) c.args.place (c.from.ensures j) c.args.block (Some stamp));
      config = refl;
      lying_nodes = slot-lying c.self.inside i inside old there (record old { stored = c.keep_prune.new.self }) refl;
      lying_clients = refl;
    }) in
    became_this c.args.self.now _ _ _ became
    (ap (pruned_at (setting_in c.args.self.now) (world_in c.args.self.now) c.args.place c.args.node c.args.block) (sym c.in-Some.is ∙ c.greatest_given.ensures))

pub returns-in_default-clause-ok : goal.returns-in_default-clause-ok
returns-in_default-clause-ok c =
    let v = c.args.self.now in
    became_this v _ _ _ (became_passed v c.pass.new.self c.args.place c.pass.ensures) (ap (pruned_at (setting_in v) (world_in v) c.args.place c.args.node c.args.block) (sym c.in_default.is ∙ c.greatest_given.ensures))

pub invariant_of-self : goal.invariant_of-self
invariant_of-self c =
    let i = c.from.result in
    let old = c.index_mut-slot.result.now in
    let inside = within c.self.inside _ i c.args.node c.self.invariant.0 c.self.view_is c.from.ensures c.requires.node in
    let is = c.self.invariant.0.node_slot i old (node_slot-there c.self.inside i inside old c.index_mut-slot.ensures.value) in
    let same = node_slots_same c.self.inside.config i old is (record old { stored = c.keep_prune.new.self }) c.in_err-keep_prune.ensures.err in
    (with_node_slot _ _ _ _ _ c.self.invariant.0 i _ same, c.self.invariant.1, c.self.invariant.2)

pub returns-in_err-keep_prune-clause-err : goal.returns-in_err-keep_prune-clause-err
returns-in_err-keep_prune-clause-err c =
    let i = c.from.result in
    let old = c.index_mut-slot.result.now in
    let inside = within c.self.inside _ i c.args.node c.self.invariant.0 c.self.view_is c.from.ensures c.requires.node in
    let same = view-same c.self.inside i inside old c.index_mut-slot.ensures.value (record old { stored = c.keep_prune.new.self }) refl refl c.in_err-keep_prune.ensures.err in
    held_after_err c.from_residual.result _ (same ∙ c.self.view_is)
