use Rattle.inboxes.proofs.inbox.send_post.Goals as goal

pub send_as-requires-clause-rule : goal.send_as-requires-clause-rule
send_as-requires-clause-rule g c =
    let i = c.loop.invariant in rw (i.1, i.2, i.3) (c.requires.rule, c.requires.fact)
