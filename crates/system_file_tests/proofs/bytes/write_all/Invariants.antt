use Rattle.std.proofs.Common.{IsTrue}
use Rattle.system_file_tests.proofs.bytes.write_all.Given as goal

abbrev pub invariant-loop-at : goal.invariant-loop-at
invariant-loop-at g l = IsTrue (g.F.SlabFile.is_usable l.file)
