use Rattle.std.proofs.Common.{◌≡◌}
use Rattle.slot_disk.specs.Slots.{digests}
use Rattle.slab_codec.proofs.data.read_digests.Given as goal

abbrev pub invariant-loop-i : goal.invariant-loop-i
invariant-loop-i l = l.list.items ≡ digests l.i l.bytes
