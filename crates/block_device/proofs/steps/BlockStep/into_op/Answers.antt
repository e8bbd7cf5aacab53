use Rattle.std.proofs.Common.{map}
use Rattle.protocol.specs.Seen.{record_of}
use Rattle.block_device.proofs.Searching.{latest_size}
use Rattle.block_device.proofs.steps.BlockStep.into_op.Goals as goal

pub merge_into-requires-clause-seen : goal.merge_into-requires-clause-seen
merge_into-requires-clause-seen c =
    latest_size c.args.client c.in-Merge.block c.args.config.now.size (map record_of c.args.records.now) c.requires.whole c.latest_read-seen.result c.latest_read-seen.ensures
