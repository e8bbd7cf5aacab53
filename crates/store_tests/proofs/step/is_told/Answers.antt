use Rattle.protocol.specs.Instance.{setting}
use Rattle.store_tests.proofs.step.is_told.Goals as goal

pub hear-requires-clause-answers : goal.hear-requires-clause-answers
hear-requires-clause-answers g c κs within =
    rw c.in_ok-batch.ensures.config
    (c.in_ok-answers_to.ensures (setting c.in_ok-config.config) c.in_ok-batch.batch.runs c.in_ok-batch.ensures.asks)

pub hear-requires-2-clause-answers : goal.hear-requires-2-clause-answers
hear-requires-2-clause-answers g c κs within =
    rw c.in_ok-asks.ensures.config
    (c.in_ok-answers_to-2.ensures (setting c.in_ok-batch.batch.config) c.hear.new.self.runs c.in_ok-asks.ensures.asks)
