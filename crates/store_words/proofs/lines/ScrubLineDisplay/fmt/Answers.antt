use Rattle.store_words.proofs.lines.ScrubLineDisplay.fmt.Goals as goal

pub returns-in-Up-clause-writes : goal.returns-in-Up-clause-writes
returns-in-Up-clause-writes g c plain ok = rw c.in-Up.is (c.write.ensures.writes plain ok)
