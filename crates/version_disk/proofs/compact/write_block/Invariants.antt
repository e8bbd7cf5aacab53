use Rattle.std.proofs.Common.{◌≡◌, ◌++◌, take}
use Rattle.node_core.specs.Seen.{versions_in}
use Rattle.version_disk.specs.Compacted.{slots_in, open_slots, AreFitting}
use Rattle.version_disk.proofs.compact.write_block.Given as goal

abbrev pub invariant-loop-k : goal.invariant-loop-k
invariant-loop-k g l =
    let E = g.E.Disk in
    record {
      journal : E.seen l.disk ++ l.ahead.items ≡ (E.seen l.fn.disk ++ l.fn.ahead.items) ++ open_slots (take l.k (slots_in l.block (versions_in l.node l.block)));
      fitting : AreFitting l.node.config (take l.k (slots_in l.block (versions_in l.node l.block)));
      room : E.most l.disk ≡ E.most l.fn.disk;
      calm : E.faults l.disk ≡ E.faults l.fn.disk;
    }
