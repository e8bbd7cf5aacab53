use Rattle.std.proofs.Common.{◌≡◌, ◌+◌, length}
use Rattle.std.specs.Vec.Iter.{into_iter_items, into_iter_len}
use Rattle.std.specs.declared.option.Option.TheVariants.{Some}
use Rattle.protocol.specs.Seen.{SeenTask}
use Rattle.batch_clients.proofs.Hearing.{IsHearing}
use Rattle.batch_clients.proofs.run.hear_phase.Given as goal

abbrev pub invariant-loop-given : goal.invariant-loop-given
invariant-loop-given l = record {
  hearing : (t : SeenTask) → l.fn.client.seen.task ≡ Some t → IsHearing l.fn.client t l.fn.replies.items l.client l.node (into_iter_items l.given-iterator);
  left : into_iter_len l.given-iterator ≡ length (into_iter_items l.given-iterator);
  count : l.node + length (into_iter_items l.given-iterator) ≡ length l.fn.replies.items;
}
