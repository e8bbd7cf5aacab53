use Rattle.node_device.proofs.Commands.{get_gives, put_is_got}
use Rattle.node_device.proofs.laws.gets_give_their_range.Goals as goal

pub returns-clause-range : goal.returns-clause-range
returns-clause-range c d node client cluster lines w run history is no_clash =
    get_gives c.safety.ensures.legal c.safety.ensures.in_time c.one_history.ensures.blocks c.records.ensures.told d node client cluster lines w run history is no_clash c.gets_read_their_range.ensures.given

pub returns-clause-put : goal.returns-clause-put
returns-clause-put c d node client cluster lines w run history is no_clash =
    put_is_got c.safety.ensures.legal c.safety.ensures.in_time c.one_history.ensures.blocks c.records.ensures.told d node client cluster lines w run history is no_clash c.gets_read_their_range.ensures.given
    c.puts_write_their_range.ensures.written c.puts_write_their_range.ensures.blocks
