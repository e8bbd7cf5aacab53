use Rattle.std.proofs.Common.{◌≡◌, ◌++◌, map, length}
use Rattle.std.specs.Vec.Iter.{into_iter_items, into_iter_len}
use Rattle.batch_clients.specs.Parts.{turned}
use Rattle.batch_clients.proofs.answers.turn.Given as goal

abbrev pub invariant-loop-replies : goal.invariant-loop-replies
invariant-loop-replies l = record {
  made : l.turned.items ++ map turned (into_iter_items l.replies-iterator) ≡ map turned l.fn.answers.items;
  left : into_iter_len l.replies-iterator ≡ length (into_iter_items l.replies-iterator);
}
