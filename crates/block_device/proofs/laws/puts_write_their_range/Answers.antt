use Rattle.block_device.proofs.Doing.{put_writes, put_keeps_blocks}
use Rattle.block_device.proofs.laws.puts_write_their_range.Goals as goal

pub returns-clause-written : goal.returns-clause-written
returns-clause-written c = put_writes

pub returns-clause-blocks : goal.returns-clause-blocks
returns-clause-blocks c = put_keeps_blocks
