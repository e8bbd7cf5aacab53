-- The law is a lemma of `Unspent`, by the law of every run.
use Rattle.command_texts.proofs.Unspent.{unspent}
use Rattle.command_texts.proofs.laws.honest_scripts_spend_nothing.Goals as goal

pub returns : goal.returns
returns c = λ input text r honest. unspent input text r c.spent.ensures.none honest
