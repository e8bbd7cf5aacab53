use Rattle.std.proofs.Common.{sym, subst, map}
use Rattle.quorum_rules.specs.Limits.{Numbers}
use Rattle.protocol.specs.Seen.{record_of}
use Rattle.block_device.specs.Latest.{AreWhole}
use Rattle.script_run.proofs.Reading.{reads_whole}
use Rattle.script_run.proofs.command_queues.CommandQueues.line_of.Goals as goal

pub into_op-requires-clause-whole : goal.into_op-requires-clause-whole
into_op-requires-clause-whole c =
    let w = c.self.inside.world in
    subst (λ (n : Numbers). AreWhole n.size (map record_of c.records.result.now)) c.self.invariant.1
    (subst (AreWhole w.config.size) (sym c.records.ensures) (reads_whole w c.is_reached.ensures))
