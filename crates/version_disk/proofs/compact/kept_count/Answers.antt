use Rattle.std.proofs.Common.{length, take, ap, arith, length-append}
use Rattle.quorum_rules.specs.Limits.{Numbers}
use Rattle.node_core.specs.Seen.{versions_in}
use Rattle.version_disk.specs.Compacted.{slots_in, slots_from}
use Rattle.version_disk.proofs.Journals.{with_next, length-slots_in}
use Rattle.version_disk.proofs.compact.kept_count.Goals as goal

pub loop-block-preserved : goal.loop-block-preserved
loop-block-preserved c count =
    let node = c.args.node.now in
    let k = c.loop-block.block in
    let lt = c.loop-block-test.true in
    let config = ap (λ (k : Numbers). k.blocks) c.config.ensures in
    let all = with_next node.config node.blocks k (omega arith) in
    let n = length-slots_in k (versions_in node k) c.later_count.result c.later_count.ensures in
    let so_far = c.loop-block.invariant count in
    let sum = c.saturating_add-kept.ensures in
    omega (arith, ap length all, length-append (slots_from 0 (take k node.blocks)) (slots_in k (versions_in node k)), n, so_far, sum)
