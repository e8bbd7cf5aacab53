-- The law's clauses are lemmas of `AllOrdered`.
use Rattle.protocol.specs.Instance.{setting_of}
use Rattle.block_turns.proofs.AllOrdered.{lives_as_one, lives_durable, one_life_durable}
use Rattle.block_turns.proofs.lives_together.Goals as goal

pub returns : goal.returns
returns c = record {
  as_one = λ n nodes clients good.
      lives_as_one (setting_of n nodes clients)
      (λ lying few. c.lives_are_linearizable.ensures.linear n lying clients (record { config = good.config; few = few }))
      c.together.ensures;
  durable = λ n nodes clients good.
      lives_durable (setting_of n nodes clients)
      (λ lying few. c.lives_are_linearizable.ensures.linear n lying clients (record { config = good.config; few = few }));
  one_durable = λ n nodes clients good. one_life_durable (setting_of n nodes clients) (c.lives_are_linearizable.ensures.linear n nodes clients good);
}
