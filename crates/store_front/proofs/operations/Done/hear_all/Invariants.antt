use Rattle.std.proofs.Common.{◌≡◌, map}
use Rattle.store_front.specs.Values.{AreBlocks, found_in, written_in}
use Rattle.store_front.proofs.Hearing.{as_told}
use Rattle.store_front.proofs.operations.Done.hear_all.Given as goal

abbrev pub invariant-loop-op : goal.invariant-loop-op
invariant-loop-op l = record {
  blocks : AreBlocks l.config l.self.found;
  found : l.self.found.entries ≡ found_in l.config l.initial.self.found.entries (map as_told l.yielded);
  written : l.self.written.keys ≡ written_in l.initial.self.written.keys (map as_told l.yielded);
}
