use Rattle.inboxes.proofs.inbox.receive_post.Goals as goal

pub recv_as-requires-clause-rule : goal.recv_as-requires-clause-rule
recv_as-requires-clause-rule g c =
    let i = c.loop.invariant in rw (i.1, i.2) (c.requires.rule, c.requires.fact)
