use Rattle.store_tests.proofs.Counted.{are_answers}
use Rattle.store_tests.proofs.step.answers_to.Goals as goal

pub returns : goal.returns
returns c = λ s runs are. are_answers s runs c.args.asks.now.items c.in_ok-answers.answers.items are c.in_ok-answers.ensures
