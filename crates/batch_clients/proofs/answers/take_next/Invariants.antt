use Rattle.std.proofs.Common.{◌≡◌, map, length}
use Rattle.batch_clients.specs.Parts.{turned}
use Rattle.batch_clients.proofs.Taking.{IsTaking}
use Rattle.batch_clients.proofs.answers.take_next.Given as goal

abbrev pub invariant-loop-node : goal.invariant-loop-node
invariant-loop-node l = record {
  taking : IsTaking (map turned l.fn.answers.items) (map turned l.answers.items) l.next.items l.node;
  ends : l.node-end ≡ length l.fn.answers.items;
}
