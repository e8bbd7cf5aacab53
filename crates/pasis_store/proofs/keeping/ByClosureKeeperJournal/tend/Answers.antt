use Rattle.pasis_store.proofs.keeping.ByClosureKeeperJournal.tend.Goals as goal

pub returns-clause-keeps : goal.returns-clause-keeps
returns-clause-keeps g c = c.requires.ready.1 _ _ c.args.served _ _ _ _ c.ranges.served.fits c.tend.ensures
