use Rattle.std.proofs.Common.{◌≡◌, ◌++◌, take}
use Rattle.version_disk.specs.Compacted.{slots_from, open_slots, AreFitting}
use Rattle.version_disk.proofs.compact.write_blocks.Given as goal

abbrev pub invariant-loop-block : goal.invariant-loop-block
invariant-loop-block g l =
    let E = g.E.Disk in
    record {
      journal : E.seen l.disk ++ l.ahead.items ≡ open_slots (slots_from 0 (take l.block l.node.blocks));
      fitting : AreFitting l.node.config (slots_from 0 (take l.block l.node.blocks));
      room : E.most l.disk ≡ E.most l.fn.disk;
      calm : E.faults l.disk ≡ E.faults l.fn.disk;
    }
