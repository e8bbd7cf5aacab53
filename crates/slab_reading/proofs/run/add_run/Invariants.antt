use Rattle.std.proofs.Common.{◌≡◌, ℕ, ◌+◌, ◌-◌, List, length}
use Rattle.slab_reading.specs.Opened.{IsRun, IsOpenedFrom}
use Rattle.slab_reading.proofs.run.add_run.Given as goal

abbrev pub invariant-loop-i : goal.invariant-loop-i
invariant-loop-i l = record {
  count : length l.opened.free.items ≡ l.fn.shape.count;
  opened : (bytes : List ℕ) → IsRun l.fn.shape bytes l.fn.first l.marks l.heads → IsOpenedFrom l.fn.shape l.fn.key bytes (l.fn.first + length l.marks) l.fn.opened
      → IsOpenedFrom l.fn.shape l.fn.key bytes (l.fn.first + (length l.marks - l.i)) l.opened;
}
