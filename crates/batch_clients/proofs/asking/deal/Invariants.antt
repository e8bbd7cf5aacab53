use Rattle.std.proofs.Common.{◌≡◌, length}
use Rattle.std.specs.Vec.Iter.{into_iter_items, into_iter_len}
use Rattle.protocol.specs.Instance.{setting}
use Rattle.protocol.specs.Seen.{SeenTask}
use Rattle.operation_core.specs.Clients.{ClientView}
use Rattle.client_core.specs.Clients.{mail_of}
use Rattle.batch_clients.specs.Parts.{lists_of}
use Rattle.batch_clients.proofs.Dealing.{IsDealing}
use Rattle.batch_clients.proofs.asking.deal.Given as goal

abbrev pub invariant-loop-message : goal.invariant-loop-message
invariant-loop-message l = record {
  dealing : (client : ClientView) (t : SeenTask) → l.fn.mail ≡ mail_of client t → length l.fn.asks.items ≡ client.config.n
      → IsDealing (setting client.config) client.id t (lists_of l.fn.asks.items) (lists_of l.asks.items) (into_iter_items l.message-iterator);
  left : into_iter_len l.message-iterator ≡ length (into_iter_items l.message-iterator);
}
