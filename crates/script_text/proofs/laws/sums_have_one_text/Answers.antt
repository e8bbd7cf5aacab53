use Rattle.script_text.proofs.lemmas.SumLaws.{sum_accepted, one_sum}
use Rattle.script_text.proofs.laws.sums_have_one_text.Goals as goal

pub returns-clause-accepted : goal.returns-clause-accepted
returns-clause-accepted c = sum_accepted

pub returns-clause-one : goal.returns-clause-one
returns-clause-one c = one_sum
