use Rattle.nbd_handshake.proofs.OneEnd.{one_end}
use Rattle.nbd_handshake.proofs.Having.{some_end}
use Rattle.nbd_handshake.proofs.laws.each_input_has_one_end.Goals as goal

pub returns-clause-some : goal.returns-clause-some
returns-clause-some c input = some_end input

pub returns-clause-one : goal.returns-clause-one
returns-clause-one c input a b first second = one_end a b input first second
