use Rattle.std.proofs.Common.{refl, OnOk, sym, ◌∙◌, ap, subst, [], ◌∷◌}
use Rattle.protocol.specs.Messages.{Message as Messages}
use Rattle.run_words.specs.declared.line.Line.TheVariants as lines
use Rattle.world_state.specs.Worlds.{setting_in, world_in}
use Rattle.world_steps.specs.Steps.{IsPlayedBy, IsAskOf}
use Rattle.world_steps.proofs.play.events.Goals as goal
use Rattle.std.proofs.lemmas.Result.{on_ok_weaker}
use Rattle.protocol.specs.World.{heard, sent, happens, only_place}
use Rattle.protocol.specs.World.Event.{Prune as Prunes}
use Rattle.protocol.proofs.lemmas.Playing.{no_fault}
use Rattle.world_state.proofs.lemmas.Became.{became_this}
use Rattle.world_steps.proofs.SingleEvents.{happens-place}
use Rattle.world_steps.proofs.LineEvents.{placed, is_node, is_ask, is_pooled, heard_plays, told_plays}

-- src/play.rt:78:17
pub prune-requires-clause-node : goal.prune-requires-clause-node
prune-requires-clause-node c =
    let w = world_in c.args.state.now in
    let fine = no_fault (setting_in c.args.state.now) w (lines.Prune c.in-Prune.node c.in-Prune.block) (rw c.in-Prune.is at c.requires.allowed) in
    is_node (setting_in c.args.state.now) c.args.place w c.in-Prune.node fine.actors.0

-- src/play.rt:39:5
pub returns-in-Hear-clause-ok : goal.returns-in-Hear-clause-ok
returns-in-Hear-clause-ok c =
    let s = setting_in c.args.state.now in
    let w = world_in c.args.state.now in
    let line = lines.Hear c.in-Hear.client c.in-Hear.message in
    let there = is_pooled s c.args.place w c.in-Hear.message (no_fault s w line (rw c.in-Hear.is at c.requires.allowed)).message in
    rw c.in-Hear.is (on_ok_weaker c.hear.result
    (λ h. became_this _ _ _ _ h (heard_plays s c.args.place w c.in-Hear.client c.in-Hear.message there.0 there.1))
    (c.hear.ensures.ok there.0 there.1))

-- src/play.rt:39:5
pub returns-in_ok-message-in-Tell-clause-ok : goal.returns-in_ok-message-in-Tell-clause-ok
returns-in_ok-message-in-Tell-clause-ok c =
    let s = setting_in c.args.state.now in
    let w = world_in c.args.state.now in
    rw c.in-Tell.is (on_ok_weaker c.hear_sent.result
    (λ h. became_this _ _ _ _ h
    (ap (λ (z : Messages). heard s (sent s w c.args.place (z ∷ [])) c.args.place z.client z z.body) (c.in_ok-message-in-Tell.ensures ∙ c.get-in-Tell.ensures) ∙ told_plays s c.args.place w c.in-Tell.message))
    c.hear_sent.ensures.ok)

pub returns-in-Call-clause-ok : goal.returns-in-Call-clause-ok
returns-in-Call-clause-ok c = rw c.in-Call.is c.call.ensures.ok

pub returns-in-Poke-clause-ok : goal.returns-in-Poke-clause-ok
returns-in-Poke-clause-ok c =
    rw c.in-Poke.is
    (subst (λ (z : Messages). OnOk c.poke.result (IsPlayedBy c.args.state.now c.poke.new.state c.args.place (lines.Poke z))) c.get-in-Poke.ensures c.poke.ensures.ok)

pub returns-in_ok-message-in-Mix-clause-ok : goal.returns-in_ok-message-in-Mix-clause-ok
returns-in_ok-message-in-Mix-clause-ok c =
    rw c.in-Mix.is
    (subst (λ (z : Messages). OnOk c.poke-in-Mix.result (IsPlayedBy c.args.state.now c.poke-in-Mix.new.state c.args.place (lines.Poke z))) c.in_ok-message-in-Mix.ensures c.poke-in-Mix.ensures.ok)

pub returns-in-Prune-clause-ok : goal.returns-in-Prune-clause-ok
returns-in-Prune-clause-ok c =
    let s = setting_in c.args.state.now in
    let w = world_in c.args.state.now in
    let event = Prunes c.in-Prune.node c.in-Prune.block in
    rw c.in-Prune.is
    (on_ok_weaker c.prune.result
    (λ h. became_this c.args.state.now c.prune.new.self (happens s w c.args.place event) (only_place s (happens s w c.args.place event) c.args.place) h (sym (placed s c.args.place (happens s w c.args.place event) (happens-place s w c.args.place event))))
    c.prune.ensures.ok)

pub poke-requires-clause-asked : goal.poke-requires-clause-asked
poke-requires-clause-asked c =
    let s = setting_in c.args.state.now in
    let w = world_in c.args.state.now in
    let fine = no_fault s w (lines.Poke c.in-Poke.message) (rw c.in-Poke.is at c.requires.allowed) in
    let asked = is_ask s c.args.place c.in-Poke.message fine.receiver in
    subst (λ (z : Messages). IsAskOf z.node z) (sym c.get-in-Poke.ensures) (refl, asked.0, asked.1)
