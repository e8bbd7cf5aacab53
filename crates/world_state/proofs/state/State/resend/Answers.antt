use Rattle.std.proofs.Common.{sym, ◌∙◌, ap, subst}
use Rattle.std.specs.Prelude.{OnOk}
use Rattle.protocol.specs.Count.{collect}
use Rattle.protocol.specs.Instance.{setting}
use Rattle.protocol.specs.Seen.{client_at, outstanding_of}
use Rattle.world_state.specs.Changes.{HasBecome}
use Rattle.world_state.proofs.KeptWorlds.{client-within}
use Rattle.world_state.proofs.ClientSlots.{slot-client, client_slot-there}
use Rattle.world_state.proofs.OutstandingMail.{resent}
use Rattle.world_state.proofs.state.State.resend.Goals as goal

pub returns-clause-ok : goal.returns-clause-ok
returns-clause-ok c =
    let w = c.self.inside in
    let k = c.args.client in
    let inside = client-within c.self.inside c.self.invariant.0 k c.requires.client in
    let client_slot = c.index.result.now in
    let is = c.self.invariant.0.client_slot k client_slot (client_slot-there w k inside client_slot c.index.ensures) in
    let mail = c.in_ok-mail.ensures
    ∙ ap (λ id. collect w.config.n (outstanding_of (setting w.config) id client_slot.client.seen.task)) is.id
    ∙ ap (λ x. collect w.config.n (outstanding_of (setting w.config) k x.task)) (sym (slot-client w k inside client_slot c.index.ensures))
    ∙ ap (λ v. collect v.config.n (outstanding_of (setting v.config) k (client_at v.seen k).task)) c.self.view_is in
    subst (λ x. OnOk c.send.result (HasBecome c.args.self.now c.send.new.self x)) (resent c.args.self.now c.args.place k c.in_ok-mail.mail mail) c.send.ensures.ok
