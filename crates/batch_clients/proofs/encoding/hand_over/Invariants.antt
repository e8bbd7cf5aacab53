use Rattle.std.proofs.Common.{◌≡◌, drop, length}
use Rattle.std.specs.List.{AllZip}
use Rattle.std.specs.Vec.Iter.{into_iter_items, into_iter_len}
use Rattle.batch_clients.specs.Encoding.{IsMadeAt}
use Rattle.batch_clients.proofs.encoding.hand_over.Given as goal

abbrev pub invariant-loop-summed : goal.invariant-loop-summed
invariant-loop-summed l = record {
  same : l.turns ≡ l.initial.turns;
  made : AllZip (IsMadeAt l.initial.turns) (drop l.k l.places) (into_iter_items l.summed-iterator);
  left : into_iter_len l.summed-iterator ≡ length (into_iter_items l.summed-iterator);
}
