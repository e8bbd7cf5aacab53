use Rattle.std.proofs.Common.{◌≡◌, ◌≤◌, ◌+◌, length, take, drop, vec_capacity}
use Rattle.slot_disk.specs.Slots.{pieces_of}
use Rattle.version_disk.specs.Batches.{AreWritten, prune_slots}
use Rattle.version_disk.specs.Deeds.{pruning, after_prunes}
use Rattle.version_disk.proofs.prune.prune_each.Given as goal

abbrev pub invariant-loop-prune : goal.invariant-loop-prune
invariant-loop-prune l = record {
  state : l.node ≡ after_prunes l.fn.node (take l.prune-index l.prunes);
  written : AreWritten l.fn.node (pruning (take l.prune-index l.prunes)) l.written.pieces.items l.written.count;
  rest : l.rest ≡ pieces_of (prune_slots l.fn.node.config (drop l.prune-index l.prunes));
  few : l.written.count ≤ l.prune-index;
  room : length l.written.pieces.items + length l.rest ≤ vec_capacity l.written.pieces;
  config : l.node.config ≡ l.fn.node.config;
  number : l.node.number ≡ l.fn.node.number;
}
