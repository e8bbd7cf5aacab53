use Rattle.std.proofs.Common.{◌≡◌, take}
use Rattle.store_front.specs.Rounds.{requests_of, values_left}
use Rattle.store_front.specs.Values.{AreBlocks, read_of}
use Rattle.store_front.proofs.values.values_of.Given as goal

abbrev pub invariant-loop-one : goal.invariant-loop-one
invariant-loop-one l = record {
  blocks : AreBlocks l.config l.values;
  put : l.values.entries ≡ values_left l.config (read_of l.found) (requests_of (take l.one-index l.asked));
}
