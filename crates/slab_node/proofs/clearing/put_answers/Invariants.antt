use Rattle.std.proofs.Common.{◌≡◌, ◌≤◌, ◌<◌, ℕ, length, get_or, IsTrue}
use Rattle.sqlite_disk.specs.Disk.{Only}
use Rattle.disk_model.specs.Crash.{LeavesOnly}
use Rattle.slab_layout.specs.Shapes.{answers_for}
use Rattle.slab_node.specs.Left.{nothing}
use Rattle.slab_node.specs.Changes.{ChangesOnly, is_among}
use Rattle.slab_node.proofs.clearing.put_answers.Given as goal

abbrev pub invariant-loop-block : goal.invariant-loop-block
invariant-loop-block g l =
    let F = g.F.SlabFile in
    let old = F.seen l.fn.file in
    record {
      usable : IsTrue (F.is_usable l.file);
      clean : F.is_clean l.file ≡ F.is_clean l.fn.file;
      calm : F.faults l.file ≡ F.faults l.fn.file;
      longer : length old ≤ length (F.seen l.file);
      bytes : ChangesOnly l.shape nothing nothing (is_among l.blocks) old (F.seen l.file);
      told : IsTrue (F.is_clean l.file) → (i d : ℕ) → i < l.block-index → answers_for l.shape (F.seen l.file) (get_or l.blocks i d) ≡ l.answers;
      time : Only old (F.may_leave l.fn.file) → LeavesOnly F.moment F.left_since l.fn.file l.file (ChangesOnly l.shape nothing nothing (is_among l.blocks) old);
    }
