-- The law's clauses are lemmas of `LifeLaws`, by the laws of the lives of blocks.
use Rattle.store_device.proofs.LifeLaws.{by_block, as_one, durable}
use Rattle.store_device.proofs.laws.stores_are_linearizable.Goals as goal

pub returns : goal.returns
returns a = record {
  by_block = λ c. by_block c a.lives_are_linearizable.ensures.linear;
  as_one = λ c. as_one c a.lives_together.ensures.as_one;
  durable = λ c. durable c a.lives_together.ensures.durable;
}
