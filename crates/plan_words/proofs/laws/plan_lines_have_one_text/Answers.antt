use Rattle.plan_words.proofs.lemmas.Accepted.{line_fine}
use Rattle.plan_words.proofs.lemmas.Unique.{one_plan_line}
use Rattle.plan_words.proofs.laws.plan_lines_have_one_text.Goals as goal

pub returns-clause-accepted : goal.returns-clause-accepted
returns-clause-accepted c = line_fine

pub returns-clause-one : goal.returns-clause-one
returns-clause-one c = one_plan_line
