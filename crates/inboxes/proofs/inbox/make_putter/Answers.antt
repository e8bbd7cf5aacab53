use Rattle.std.proofs.Common.{ap}
use Rattle.inboxes.specs.Parcels.{start}
use Rattle.inboxes.proofs.RuleIsKept.{makes}
use Rattle.inboxes.proofs.inbox.make_putter.Goals as goal

pub another-requires-clause-rule : goal.another-requires-clause-rule
another-requires-clause-rule g c =
    let made = c.requires.made in
    makes g.T.InboxItem.fits _ _ c.args.number (start c.args.place.now c.args.senders) (ap (λ v. v.role) made) (ap (λ v. v.start) made) c.requires.more
