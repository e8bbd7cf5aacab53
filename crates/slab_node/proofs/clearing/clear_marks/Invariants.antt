use Rattle.std.proofs.Common.{◌≡◌, ◌<◌, ℕ, false, length, get_or, IsTrue}
use Rattle.sqlite_disk.specs.Disk.{Only}
use Rattle.disk_model.specs.Crash.{LeavesOnly}
use Rattle.slab_layout.specs.Shapes.{is_marked}
use Rattle.slab_node.specs.Left.{nothing}
use Rattle.slab_node.specs.Changes.{ChangesOnly, is_among}
use Rattle.slab_node.proofs.clearing.clear_marks.Given as goal

abbrev pub invariant-loop-slot : goal.invariant-loop-slot
invariant-loop-slot g l =
    let F = g.F.SlabFile in
    let old = F.seen l.fn.file in
    record {
      usable : IsTrue (F.is_usable l.file);
      clean : F.is_clean l.file ≡ F.is_clean l.fn.file;
      calm : F.faults l.file ≡ F.faults l.fn.file;
      same_length : IsTrue (F.is_clean l.fn.file) → length (F.seen l.file) ≡ length old;
      bytes : ChangesOnly l.shape nothing (is_among l.slots) nothing old (F.seen l.file);
      cleared : IsTrue (F.is_clean l.file) → (i d : ℕ) → i < l.slot-index → is_marked l.shape (F.seen l.file) (get_or l.slots i d) ≡ false;
      time : Only old (F.may_leave l.fn.file) → LeavesOnly F.moment F.left_since l.fn.file l.file (ChangesOnly l.shape nothing (is_among l.slots) nothing old);
    }
