use Rattle.client_threads.proofs.run.cut.Goals as goal

pub returns-in-None-clause-closed : goal.returns-in-None-clause-closed
returns-in-None-clause-closed c = c.in_ok-run.ensures.closed c.in-None.is
