use Rattle.std.proofs.Common.{ap, ◌∙◌}
use Rattle.crossbeam_channel.specs.Claims.{view}
use Rattle.inboxes.specs.declared.rule.View.{View}
use Rattle.inboxes.specs.Parcels.{items_of, has_ended}
use Rattle.inboxes.proofs.lemmas.SenderWords.{last_ends}
use Rattle.inboxes.proofs.RuleIsKept.{tells, listens, learns}
use Rattle.inboxes.proofs.inbox.settle_one.Goals as goal

pub another-account-requires-clause-rule : goal.another-account-requires-clause-rule
another-account-requires-clause-rule g c =
    let pass = c.sent.inside.sender.pass in
    let i = c.sent.invariant.1 in
    tells g.T.InboxItem.fits pass.id (view pass) c.sent.inside.sender.number i.role (ap has_ended i.ended ∙ last_ends (items_of (view pass).said))

pub absorb-requires-clause-rule : goal.absorb-requires-clause-rule
absorb-requires-clause-rule g c =
    let pass = c.taker.inside.pass in
    let account = c.another-account.result in
    let i = c.taker.invariant.1 in
    listens g.T.InboxItem.fits pass.id (view pass) i.made account.id (view account) i.role (ap (λ (v : View g.row.T.Denot g.row.T-Place.Denot). v.role) c.another-account.ensures.rule.1)

pub learn_as-requires-clause-rule : goal.learn_as-requires-clause-rule
learn_as-requires-clause-rule g c =
    let pass = c.absorb.new.pass in
    let i = c.taker.invariant.1 in
    learns g.T.InboxItem.fits pass.id (view pass) i.made (ap (λ (v : View g.row.T.Denot g.row.T-Place.Denot). v.role) c.absorb.ensures.rule ∙ i.role)
