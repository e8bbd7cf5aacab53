use Rattle.std.proofs.Common.{map}
use Rattle.protocol.specs.Seen.{record_of}
use Rattle.script_run.proofs.Telling.{can_tell, all_told}
use Rattle.script_run.proofs.history.history_of_records.Goals as goal

pub history_of-requires : goal.history_of-requires
history_of-requires c = can_tell c.requires.0 c.requires.1 (map record_of c.args.records.now) c.args.first.now c.requires.2

pub returns : goal.returns
returns c s w are = all_told s w (map record_of c.args.records.now) c.args.first.now are c.linearizable.ensures.by_block c.durable.ensures.durable c.history_of.result c.history_of.ensures.tells c.history_of.ensures.numbers
