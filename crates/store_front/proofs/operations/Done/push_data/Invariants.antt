use Rattle.std.proofs.Common.{◌≡◌, ◌-◌, ◌++◌}
use Rattle.std.specs.List.{flat_map, range_with_len}
use Rattle.store_front.specs.Values.{read_of}
use Rattle.store_front.specs.Replies.{part_of}
use Rattle.store_front.proofs.operations.Done.push_data.Given as goal

abbrev pub invariant-loop-block : goal.invariant-loop-block
invariant-loop-block l = l.text.items ≡ l.initial.text.items ++ flat_map (part_of l.config (read_of l.self.found) l.request) (range_with_len l.initial.block (l.block - l.initial.block))
