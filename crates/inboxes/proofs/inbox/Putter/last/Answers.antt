use Rattle.std.proofs.Common.{None, refl, ap, ◌∙◌}
use Rattle.crossbeam_channel.specs.Claims.{view}
use Rattle.crossbeam_channel.specs.Ends.{sends_on, ruled_capacity}
use Rattle.inboxes.specs.declared.rule.View.{View}
use Rattle.inboxes.specs.Parcels.{start, items_of}
use Rattle.inboxes.proofs.lemmas.SenderWords.{items_last}
use Rattle.inboxes.proofs.RuleIsKept.{says}
use Rattle.inboxes.proofs.TakenInOrder.{same_inbox, same_putting, ended_push}
use Rattle.inboxes.proofs.inbox.Putter.last.Goals as goal

pub send_post-requires-clause-rule : goal.send_post-requires-clause-rule
send_post-requires-clause-rule g c =
    let p = c.self.inside.sender in
    let i = c.self.invariant.1 in
    says g.T.InboxItem.fits (ruled_capacity (sends_on p.end)) p.pass.id (view p.pass) p.number None (start p.place.value i.senders) i.role i.starts i.going tt

pub invariant_of-result : goal.invariant_of-result
invariant_of-result g c =
    let i = c.self.invariant.1 in
    let said = c.send_post.ensures.sent in (
      c.send_post.ensures.own,
      record {
        role = ap (λ (v : View g.row.T.Denot g.row.T-Place.Denot). v.role) said ∙ i.role;
        ended = ended_push (view c.self.inside.sender.pass).said (view c.send_post.new.pass).said (ap (λ (v : View g.row.T.Denot g.row.T-Place.Denot). v.said) said) i.going;
      },
    )

pub returns : goal.returns
returns g c =
    let p = c.self.inside.sender in
    let put = ap (λ (v : View g.row.T.Denot g.row.T-Place.Denot). items_of v.said) c.send_post.ensures.sent ∙ items_last (view p.pass).said in
    same_putting _ _ (same_inbox p.pass c.send_post.new.pass p.place.value c.send_post.ensures.same) refl put ∙ c.self.view_is
