use Rattle.std.proofs.Common.{◌≡◌, [], sym, subst}
use Rattle.crossbeam_channel.specs.Ends.{sends_on, ruled_capacity}
use Rattle.crossbeam_channel.specs.Fifo.{Pushes, Pops}
use Rattle.inboxes.specs.declared.rule.Parcel.TheVariants.{Open}
use Rattle.inboxes.specs.declared.rule.View.{View}
use Rattle.inboxes.specs.Parcels.{Keeps, start, opening_of, taking}
use Rattle.inboxes.proofs.RuleIsKept.{sends_open, takes_open}
use Rattle.inboxes.proofs.inbox.Inbox.open.Goals as goal

pub send_post-requires-clause-rule : goal.send_post-requires-clause-rule
send_post-requires-clause-rule g c =
    let n = ruled_capacity (sends_on c.in-Ok.end) in
    subst (λ (v : View g.row.T.Denot g.row.T-Place.Denot). Pushes (Keeps g.T.InboxItem.fits) n c.in-Ok.pass.id v (Open c.of.result c.args.senders) (λ w. w ≡ opening_of (Open c.of.result c.args.senders))) (sym c.in-Ok.ensures.3) (sends_open g.T.InboxItem.fits n c.in-Ok.pass.id c.of.result c.args.senders)

pub receive_post-start-requires-clause-rule : goal.receive_post-start-requires-clause-rule
receive_post-start-requires-clause-rule g c =
    subst (λ (v : View g.row.T.Denot g.row.T-Place.Denot). Pops (Keeps g.T.InboxItem.fits) c.send_post.new.pass.id v (λ x w. w ≡ taking v.start 0 [])) (sym c.send_post.ensures.sent) (takes_open g.T.InboxItem.fits c.send_post.new.pass.id (start c.of.result.value c.args.senders))
