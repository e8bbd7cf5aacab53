use Rattle.store_front.proofs.Ending.{one_end, some_end}
use Rattle.store_front.proofs.laws.each_input_has_one_end.Goals as goal

pub returns-clause-some : goal.returns-clause-some
returns-clause-some c input = some_end input

pub returns-clause-one : goal.returns-clause-one
returns-clause-one c input a b first second = one_end input a b first second
