use Rattle.std.proofs.Common.{◌≡◌, ◌≤◌, ◌<◌, ℕ, true, length, get_or, IsTrue}
use Rattle.sqlite_disk.specs.Disk.{Only}
use Rattle.disk_model.specs.Crash.{LeavesOnly}
use Rattle.slab_layout.specs.Shapes.{is_marked}
use Rattle.slab_node.specs.declared.batch.Fresh.{Fresh}
use Rattle.slab_node.specs.Left.{nothing}
use Rattle.slab_node.specs.Changes.{ChangesOnly}
use Rattle.slab_node.specs.Batches.{is_in}
use Rattle.slab_node.proofs.batch.put_marks.Given as goal

abbrev pub invariant-loop-fresh : goal.invariant-loop-fresh
invariant-loop-fresh g l =
    let F = g.F.SlabFile in
    let old = F.seen l.fn.file in
    record {
      usable : IsTrue (F.is_usable l.file);
      clean : F.is_clean l.file ≡ F.is_clean l.fn.file;
      calm : F.faults l.file ≡ F.faults l.fn.file;
      longer : length old ≤ length (F.seen l.file);
      bytes : ChangesOnly l.shape nothing (is_in l.batch) nothing old (F.seen l.file);
      marked : IsTrue (F.is_clean l.file) → (i : ℕ) (d : Fresh) → i < l.fresh-index → is_marked l.shape (F.seen l.file) (get_or l.batch i d).slot ≡ true;
      time : Only old (F.may_leave l.fn.file) → LeavesOnly F.moment F.left_since l.fn.file l.file (ChangesOnly l.shape nothing (is_in l.batch) nothing old);
    }
