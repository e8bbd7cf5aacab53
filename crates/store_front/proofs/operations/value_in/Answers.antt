use Rattle.store_front.proofs.Valuing.{found_sized}
use Rattle.store_front.proofs.operations.value_in.Goals as goal

pub returns-clause-sized : goal.returns-clause-sized
returns-clause-sized c = λ config all. found_sized config c.args.values.now c.args.block c.get.result c.get.ensures.value all
