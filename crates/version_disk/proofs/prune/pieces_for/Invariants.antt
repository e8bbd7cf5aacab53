use Rattle.std.proofs.Common.{◌≡◌, take}
use Rattle.slot_disk.specs.Slots.{pieces_of}
use Rattle.version_disk.specs.Batches.{prune_slots}
use Rattle.version_disk.specs.Compacted.{AreFitting}
use Rattle.version_disk.proofs.prune.pieces_for.Given as goal

abbrev pub invariant-loop-prune : goal.invariant-loop-prune
invariant-loop-prune l = record {
  pieces : l.pieces.items ≡ pieces_of (prune_slots l.config (take l.prune-index l.prunes));
  fits : AreFitting l.config (prune_slots l.config (take l.prune-index l.prunes));
}
