use Rattle.std.proofs.Common.{◌≡◌, ◌++◌, length}
use Rattle.std.specs.List.{flat_map}
use Rattle.std.specs.Vec.Iter.{into_iter_items, into_iter_len}
use Rattle.batch_clients.specs.Sharing.{turns_of}
use Rattle.batch_clients.proofs.part.joined.Given as goal

abbrev pub invariant-loop-part : goal.invariant-loop-part
invariant-loop-part l = record {
  whole : l.turns.items ++ flat_map turns_of (into_iter_items l.part-iterator) ≡ flat_map turns_of l.fn.parts.items;
  left : into_iter_len l.part-iterator ≡ length (into_iter_items l.part-iterator);
}
