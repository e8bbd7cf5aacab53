use Rattle.std.proofs.Common.{◌∙◌, ap}
use Rattle.wire_forms.specs.declared.message.Body.TheVariants.{Answer}
use Rattle.protocol.specs.Messages.{Reply}
use Rattle.protocol.specs.Nodes.{reply}
use Rattle.world_state.specs.Changes.{accepts_in}
use Rattle.world_state.specs.Worlds.{setting_in, world_in}
use Rattle.world_state.proofs.NodeSlots.{within, node_slot-there, replies, accepts-node_slot}
use Rattle.world_state.proofs.state.State.answer.Goals as goal

pub returns-clause-answer : goal.returns-clause-answer
returns-clause-answer c =
    let i = c.from.result in
    let old = c.index-slot.result.now in
    let inside = within c.self.inside _ i c.args.node c.self.invariant.0 c.self.view_is c.from.ensures c.requires in
    let is = c.self.invariant.0.node_slot i old (node_slot-there c.self.inside i inside old c.index-slot.ensures) in
    let said = c.in_ok-reply.ensures.reply ∙ replies c.self.inside i inside old c.index-slot.ensures is c.args.ask.now in
    ap (λ (r : Reply). record { client = c.args.message.now.client; node = c.args.node; tag = c.args.message.now.tag; body = Answer r }) said
    ∙ (λ j. record {
      client = c.args.message.now.client;
      node = c.args.node;
      tag = c.args.message.now.tag;
      body = Answer (reply (setting_in (c.self.view_is j)) (c.from.ensures j) ((world_in (c.self.view_is j)).versions (c.from.ensures j) c.args.ask.now.block) c.args.ask.now);
    })

pub returns-clause-added : goal.returns-clause-added
returns-clause-added c =
    let i = c.from.result in
    let old = c.index-slot.result.now in
    let inside = within c.self.inside _ i c.args.node c.self.invariant.0 c.self.view_is c.from.ensures c.requires in
    let is = c.self.invariant.0.node_slot i old (node_slot-there c.self.inside i inside old c.index-slot.ensures) in
    c.in_ok-reply.ensures.added
    ∙ accepts-node_slot c.self.inside i inside old c.index-slot.ensures is c.args.ask.now
    ∙ (λ j. accepts_in (setting_in (c.self.view_is j)) (world_in (c.self.view_is j)) (c.from.ensures j) c.args.ask.now)
