use Rattle.std.proofs.Common.{◌≡◌, ◌-◌, ◌*◌, length, IsTrue}
use Rattle.slab_reading.specs.Opened.{IsOpenedFrom}
use Rattle.slab_reading.specs.Reading.{OnlyReads}
use Rattle.slab_reading.proofs.opening.read_runs.Given as goal

abbrev pub invariant-loop-i : goal.invariant-loop-i
invariant-loop-i g l =
    let F = g.F.SlabFile in
    let start = l.fn.file in
    record {
      reads : OnlyReads F.seen F.may_leave F.moment F.left_since F.is_usable F.is_clean start l.file;
      faults : F.faults l.file ≡ F.faults start;
      count : length l.opened.free.items ≡ l.shape.count;
      opened : IsTrue (F.is_clean l.file) → IsOpenedFrom l.shape l.key (F.seen start) l.shape.count l.fn.opened
          → IsOpenedFrom l.shape l.key (F.seen start) (l.shape.count - 1024 * l.i) l.opened;
    }
