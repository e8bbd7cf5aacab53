-- The law's clauses are lemmas of `LifeDone` and `LifeArrays`, by the laws of the lives of blocks and of reads.
use Rattle.store_device.proofs.LifeDone.{acknowledged_done}
use Rattle.store_device.proofs.LifeArrays.{lives_are_arrays}
use Rattle.store_device.proofs.laws.lives_are_arrays.Goals as goal

pub returns : goal.returns
returns a = record {
  done = λ c. acknowledged_done c a.lives_are_linearizable.ensures.done;
  arrays = λ c. lives_are_arrays a.reads.ensures.written c (a.stores_are_linearizable.ensures.by_block c)
      (a.acknowledged_writes_are_read.ensures c) (acknowledged_done c a.lives_are_linearizable.ensures.done);
}
