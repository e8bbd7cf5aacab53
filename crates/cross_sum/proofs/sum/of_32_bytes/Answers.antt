use Rattle.cross_sum.proofs.Lengths.{all_of_length}
use Rattle.cross_sum.proofs.sum.of_32_bytes.Goals as goal

pub returns-clause-bytes : goal.returns-clause-bytes
returns-clause-bytes c = all_of_length 32 c.args.digests.now c.told-digests
