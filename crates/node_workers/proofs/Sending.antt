-- The states of threads of a phase by mail may go to other threads.
use denote.RattleType.{RattleType}
use denote.Param.Send.{IsSend, sendable}
use Rattle.std.proofs.Crossing.{crosses}
use Rattle.client_endpoints.proofs.asked.Asked.TheSendSync as asked
use Rattle.client_endpoints.proofs.answered.Answered.TheSendSync as answered
use Rattle.inboxes.proofs.lemmas.Sending.{taker_send, putter_send, sent_send}
use Rattle.locked_nodes.proofs.lemmas.Sending.{cell_send}
use Rattle.client_endpoints.proofs.lemmas.Sending.{endpoint_send}
use Rattle.node_workers.specs.contracts.worker.NodeWorker as worker
use Rattle.node_workers.specs.contracts.thread_state.ThreadState as state

worker_send : IsSend worker.the_row
worker_send = search (sendable, crosses, cell_send, asked.the_send, answered.the_send, taker_send, putter_send, sent_send) depth 40

pub state_send : (T : RattleType) → IsSend T → IsSend (state.the_row T)
state_send T s = search (sendable, crosses, endpoint_send, worker_send) depth 40
