use Rattle.std.proofs.Common.{◌≡◌, length}
use Rattle.std.specs.Vec.Iter.{into_iter_items, into_iter_len}
use Rattle.batch_clients.specs.Parts.{lists_of}
use Rattle.batch_clients.proofs.Turning.{ArePut}
use Rattle.batch_clients.proofs.batch.hear_all.Given as goal

abbrev pub invariant-loop-turn : goal.invariant-loop-turn
invariant-loop-turn g l = record {
  put : ArePut l.config l.fn.answers.items l.fn.runs.items (into_iter_items l.turn-iterator) l.heard.items (lists_of l.asks.items);
  left : into_iter_len l.turn-iterator ≡ length (into_iter_items l.turn-iterator);
}
