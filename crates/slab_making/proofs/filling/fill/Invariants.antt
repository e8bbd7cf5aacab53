use Rattle.std.proofs.Common.{◌≡◌, ◌≤◌, ◌<◌, ◌+◌, ◌*◌, ℕ, List, replicate, get_or, IsTrue}
use Rattle.sqlite_disk.specs.Disk.{Torn}
use Rattle.disk_model.specs.Crash.{LeavesOnly}
use Rattle.slab_making.specs.Made.{BeginsWithZero}
use Rattle.slab_making.proofs.filling.fill.Given as goal

abbrev pub invariant-loop-i : goal.invariant-loop-i
invariant-loop-i g l =
    let F = g.F.SlabFile in
    let old = F.seen l.fn.file in
    record {
      usable : IsTrue (F.is_usable l.file);
      clean : F.is_clean l.file ≡ F.is_clean l.fn.file;
      piece : l.piece.items ≡ replicate 65536 l.byte;
      torn : Torn l.at l.count old (F.seen l.file);
      filled : IsTrue (F.is_clean l.file) → (k : ℕ) → l.at ≤ k → k < l.at + l.i * 65536 → k < l.at + l.count → get_or (F.seen l.file) k 0 ≡ l.byte;
      time : ((c : List ℕ) → F.may_leave l.fn.file c → BeginsWithZero c) → LeavesOnly F.moment F.left_since l.fn.file l.file BeginsWithZero;
    }
