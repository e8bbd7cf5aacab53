-- The law is a lemma of `LifeReads`, by the law of fresh reads.
use Rattle.store_device.proofs.LifeReads.{reads_give}
use Rattle.store_device.proofs.laws.acknowledged_writes_are_read.Goals as goal

pub returns : goal.returns
returns a = λ c. reads_give a.reads.ensures.fresh c (a.stores_are_linearizable.ensures.by_block c)
