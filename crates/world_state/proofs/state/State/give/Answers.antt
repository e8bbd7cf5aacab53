use Rattle.std.proofs.Common.{◌≡◌, List, ◌∷◌, map, take, refl, sym, ◌∙◌, ap, arith}
use Rattle.std.proofs.Math.Seq.{take-append_seam}
use Rattle.run_words.specs.declared.record.Accepted.{Accepted}
use Rattle.protocol.specs.Count.{one_more}
use Rattle.protocol.specs.World.{accepted_at}
use Rattle.protocol.specs.Seen.{accepted_of}
use Rattle.node_core.specs.Seen.{after_of}
use Rattle.world_state.specs.Worlds.{setting_in, world_in}
use Rattle.world_state.specs.Changes.{accepts_in, handles}
use Rattle.world_state.specs.contracts.state.State.{the_view}
use Rattle.world_state.proofs.KeptWorlds.{raised}
use Rattle.world_state.proofs.lemmas.Became.{known_as}
use Rattle.world_state.proofs.NodeSlots.{within, node_slot-there, node_slots_versions, node_slots_same, with_node_slot, slot-lying, world-handled, accepts-node_slot, accepted-more, view-same}
use Rattle.world_state.proofs.state.State.give.Goals as goal

pub keep-requires : goal.keep-requires
keep-requires c =
    let i = c.from.result in
    let old = c.index_mut-slot.result.now in
    let there = c.index_mut-slot.ensures.value in
    let inside = within c.self.inside _ i c.args.node c.self.invariant.0 c.self.view_is c.from.ensures c.requires.node in
    let is = c.self.invariant.0.node_slot i old (node_slot-there c.self.inside i inside old there) in
    c.requires.added
    ∙ sym (λ j. accepts_in (setting_in (c.self.view_is j)) (world_in (c.self.view_is j)) (c.from.ensures j) c.args.ask.now)
    ∙ sym (accepts-node_slot c.self.inside i inside old there is c.args.ask.now)

pub invariant_of-self-in-Ok : goal.invariant_of-self-in-Ok
invariant_of-self-in-Ok c =
    let i = c.from.result in
    let old = c.index_mut-slot.result.now in
    let inside = within c.self.inside _ i c.args.node c.self.invariant.0 c.self.view_is c.from.ensures c.requires.node in
    let is = c.self.invariant.0.node_slot i old (node_slot-there c.self.inside i inside old c.index_mut-slot.ensures.value) in
    let new = node_slots_versions c.self.inside.config i old is (record old { stored = c.keep.new.node }) c.args.ask.now.block (after_of old.stored.node c.args.ask.now) c.in-Ok.ensures.node in
    (raised _ _ _ _ _ (with_node_slot _ _ _ _ _ c.self.invariant.0 i (record old { stored = c.keep.new.node }) new) c.args.place (let l = c.requires.later in let e = ap (λ v. v.seen.place) c.self.view_is in omega (arith, l, e)), c.self.invariant.1, c.self.invariant.2)

pub returns-in-Ok-clause-ok : goal.returns-in-Ok-clause-ok
returns-in-Ok-clause-ok c =
    let i = c.from.result in
    let old = c.index_mut-slot.result.now in
    let there = c.index_mut-slot.ensures.value in
    let inside = within c.self.inside _ i c.args.node c.self.invariant.0 c.self.view_is c.from.ensures c.requires.node in
    let is = c.self.invariant.0.node_slot i old (node_slot-there c.self.inside i inside old there) in
    let s = setting_in (the_view c.self.inside) in
    let block = c.args.ask.now.block in
    let world = world-handled c.self.inside i inside old there is c.args.ask.now (record old { stored = c.keep.new.node }) refl c.in-Ok.ensures.node in
    let accepts = accepts-node_slot c.self.inside i inside old there is c.args.ask.now in
    let told = ap (λ (xs : List Accepted). map accepted_of xs) c.in-Ok.ensures.told ∙ accepted-more s c.self.inside.accepted c.args.node block _ in
    let v = the_view c.self.inside in
    known_as v c.args.self.now _ c.self.view_is (λ x. handles (setting_in x) (world_in x) c.args.place c.args.node c.args.ask.now (c.args.message ∷ c.args.others))
    (record {
      now =
          (λ j. record (world j) { pool = c.in_ok-send_all.ensures.ok j; accepted = told j; place = c.args.place })
          ∙ (λ j. record (world_in v) {
            pool = (handles s (world_in v) c.args.place i c.args.ask.now (c.args.message ∷ c.args.others)).pool;
            versions = (handles s (world_in v) c.args.place i c.args.ask.now (c.args.message ∷ c.args.others)).versions;
            accepted = one_more (world_in v).accepted (accepted_at s (sym c.from.ensures j) block (accepts j));
            place = c.args.place;
          })
          ∙ (λ j. handles s (world_in v) c.args.place (c.from.ensures j) c.args.ask.now (c.args.message ∷ c.args.others));
      config = refl;
      lying_nodes = slot-lying c.self.inside i inside old there (record old { stored = c.keep.new.node }) refl;
      lying_clients = refl;
    })

pub invariant_of-self-in-Err : goal.invariant_of-self-in-Err
invariant_of-self-in-Err c =
    let i = c.from.result in
    let old = c.index_mut-slot.result.now in
    let inside = within c.self.inside _ i c.args.node c.self.invariant.0 c.self.view_is c.from.ensures c.requires.node in
    let is = c.self.invariant.0.node_slot i old (node_slot-there c.self.inside i inside old c.index_mut-slot.ensures.value) in
    let same = node_slots_same c.self.inside.config i old is (record old { stored = c.keep.new.node }) c.in-Err.ensures.node_kept in
    (with_node_slot _ _ _ _ _ c.self.invariant.0 i _ same, c.self.invariant.1, c.self.invariant.2)

pub returns-in-Err-clause-err : goal.returns-in-Err-clause-err
returns-in-Err-clause-err c =
    let i = c.from.result in
    let old = c.index_mut-slot.result.now in
    let inside = within c.self.inside _ i c.args.node c.self.invariant.0 c.self.view_is c.from.ensures c.requires.node in
    let same = view-same c.self.inside i inside old c.index_mut-slot.ensures.value (record old { stored = c.keep.new.node }) refl refl c.in-Err.ensures.node_kept in
    let pool : c.truncate.new.self ≡ c.self.inside.pool =
    c.truncate.ensures ∙ (λ j. take (c.len-sent.ensures j) (c.in_ok-send_all.ensures.ok j)) ∙ take-append_seam c.self.inside.pool (c.args.message ∷ c.args.others) in
    let told : c.keep.new.accepted ≡ c.self.inside.accepted = c.in-Err.ensures.told_kept in
    (λ j. record (same j) { seen = record (same j).seen { pool = pool j; accepted = map accepted_of (told j) } }) ∙ c.self.view_is
