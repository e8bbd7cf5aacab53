use Rattle.std.proofs.Common.{◌≡◌, ◌≤◌, length}
use Rattle.protocol.specs.Count.{count}
use Rattle.slab_engine.specs.Seen.{listed}
use Rattle.slab_engine.specs.Batches.{AreFreeBelow}
use Rattle.slab_engine.proofs.free.pick_slots.Given as goal

abbrev pub invariant-loop-slot : goal.invariant-loop-slot
invariant-loop-slot l = AreFreeBelow l.free l.slot l.slots.items × (length l.slots.items ≤ l.wanted) × (l.fn.from ≡ 0 → length l.slots.items ≡ count l.slot (listed l.free))
