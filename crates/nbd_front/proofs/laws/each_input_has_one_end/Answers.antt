use Rattle.nbd_front.proofs.Completing.{one_end}
use Rattle.nbd_front.proofs.Parsing.{some_end}
use Rattle.nbd_front.proofs.laws.each_input_has_one_end.Goals as goal

pub returns-clause-some : goal.returns-clause-some
returns-clause-some c count place input few = some_end count place input few

pub returns-clause-one : goal.returns-clause-one
returns-clause-one c count place input a b first second = one_end a b count place input first second
