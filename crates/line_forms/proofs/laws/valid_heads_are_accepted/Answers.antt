use Rattle.line_forms.proofs.lemmas.Accepted.{head_accepted, numbers_back}
use Rattle.line_forms.proofs.laws.valid_heads_are_accepted.Goals as goal

pub returns-clause-read : goal.returns-clause-read
returns-clause-read c = head_accepted

pub returns-clause-spelled : goal.returns-clause-spelled
returns-clause-spelled c = numbers_back
