use Rattle.command_texts.proofs.Ascending.{declares}
use Rattle.command_texts.proofs.laws.plans_declare.Goals as goal

pub returns : goal.returns
returns c = declares c.plans.ensures.liars
