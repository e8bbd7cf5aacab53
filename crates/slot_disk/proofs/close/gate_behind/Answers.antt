use Rattle.std.proofs.Common.{arith}
use Rattle.slot_disk.proofs.lemmas.Closing.{slots_within}
use Rattle.slot_disk.proofs.close.gate_behind.Goals as goal

pub overflow_mul-result : goal.overflow_mul-result
overflow_mul-result c = let le = slots_within c.args.body c.args.bytes.now c.args.count c.requires.count in omega (arith, le)

pub returns-clause-within : goal.returns-clause-within
returns-clause-within c = slots_within c.args.body c.args.bytes.now c.args.count c.requires.count
