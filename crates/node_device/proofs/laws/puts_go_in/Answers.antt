use Rattle.node_device.proofs.Commands.{block_goes_in, all_go_in}
use Rattle.node_device.proofs.laws.puts_go_in.Goals as goal

pub returns-clause-blocks : goal.returns-clause-blocks
returns-clause-blocks c d node client cluster lines w run history is no_clash =
    block_goes_in c.safety.ensures.legal c.safety.ensures.in_time c.one_history.ensures.blocks c.records.ensures.told d node client cluster lines w run history is no_clash
    c.puts_write_their_range.ensures.written c.puts_write_their_range.ensures.blocks

pub returns-clause-array : goal.returns-clause-array
returns-clause-array c d node client cluster lines w run history is no_clash =
    all_go_in c.safety.ensures.legal c.safety.ensures.in_time c.one_history.ensures.blocks c.records.ensures.told d node client cluster lines w run history is no_clash
    c.puts_write_their_range.ensures.written c.puts_write_their_range.ensures.blocks
