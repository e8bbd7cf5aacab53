-- The lemma of `Fitting`.
use Rattle.journals.proofs.lemmas.Fitting.{all_fit}
use Rattle.journals.proofs.laws.fitting_lines.Goals as goal

pub returns : goal.returns
returns c = all_fit c.false_replies.ensures
