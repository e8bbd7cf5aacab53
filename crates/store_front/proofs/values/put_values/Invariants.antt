use Rattle.std.proofs.Common.{◌≡◌, ◌-◌}
use Rattle.std.specs.List.{flat_map, range_with_len}
use Rattle.store_front.specs.Rounds.{left_at}
use Rattle.store_front.specs.Values.{AreBlocks, read_of, with_values}
use Rattle.store_front.proofs.values.put_values.Given as goal

abbrev pub invariant-loop-block : goal.invariant-loop-block
invariant-loop-block l = record {
  blocks : AreBlocks l.config l.values;
  put : l.values.entries ≡ with_values l.initial.values.entries (flat_map (left_at l.config (read_of l.found) l.asked.bytes.now) (range_with_len l.initial.block (l.block - l.initial.block)));
}
