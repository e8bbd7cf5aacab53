use Rattle.std.proofs.Common.{Some, refl, sym, ap, subst, ◌∙◌}
use Rattle.crossbeam_channel.specs.Claims.{view}
use Rattle.crossbeam_channel.specs.Ends.{sends_on, ruled_capacity}
use Rattle.inboxes.specs.declared.rule.View.{View}
use Rattle.inboxes.specs.Parcels.{start, items_of, has_ended}
use Rattle.inboxes.specs.Sides.{Putting, put_more}
use Rattle.inboxes.proofs.lemmas.SenderWords.{going_push, items_push}
use Rattle.inboxes.proofs.RuleIsKept.{says}
use Rattle.inboxes.proofs.TakenInOrder.{same_inbox, same_putting}
use Rattle.inboxes.proofs.inbox.Putter.put.Goals as goal

pub send_post-requires-clause-rule : goal.send_post-requires-clause-rule
send_post-requires-clause-rule g c =
    let p = c.self.inside.sender in
    let i = c.self.invariant.1 in
    let place = ap (λ (v : Putting g.row.T.Denot g.row.T-Place.Denot). v.inbox.place) c.self.view_is in
    let fit = subst (λ q. g.T.InboxItem.fits q c.args.item) (sym place) c.requires in
    says g.T.InboxItem.fits (ruled_capacity (sends_on p.end)) p.pass.id (view p.pass) p.number (Some c.args.item) (start p.place.value i.senders) i.role i.starts i.going fit

pub invariant_of-self : goal.invariant_of-self
invariant_of-self g c =
    let i = c.self.invariant.1 in
    let said = c.send_post.ensures.sent in (
      c.send_post.ensures.own,
      record {
        senders = i.senders;
        starts = ap (λ (v : View g.row.T.Denot g.row.T-Place.Denot). v.start) said ∙ i.starts;
        role = ap (λ (v : View g.row.T.Denot g.row.T-Place.Denot). v.role) said ∙ i.role;
        going = ap (λ (v : View g.row.T.Denot g.row.T-Place.Denot). has_ended v.said) said ∙ going_push (view c.self.inside.sender.pass).said c.args.item i.going;
      },
    )

pub returns : goal.returns
returns g c =
    let p = c.self.inside.sender in
    let put = ap (λ (v : View g.row.T.Denot g.row.T-Place.Denot). items_of v.said) c.send_post.ensures.sent ∙ items_push (view p.pass).said c.args.item in
    same_putting _ _ (same_inbox p.pass c.send_post.new.pass p.place.value c.send_post.ensures.same) refl put ∙ ap (λ v. put_more v c.args.item) c.self.view_is
