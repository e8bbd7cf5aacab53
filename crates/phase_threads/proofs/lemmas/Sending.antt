-- The states of a phase's threads may go to other threads.
use denote.RattleType.{RattleType}
use denote.Param.Send.{IsSend, sendable}
use Rattle.std.proofs.Crossing.{crosses}
use Rattle.receipt_lock.proofs.vault.Chit.TheSendSync as chit
use Rattle.locked_nodes.proofs.lemmas.Sending.{cell_send}
use Rattle.client_endpoints.proofs.lemmas.Sending.{endpoint_send}
use Rattle.phase_threads.specs.contracts.courier.Courier as courier
use Rattle.phase_threads.specs.contracts.thread_state.ThreadState as state

courier_field : IsSend courier.the_field.row
courier_field = search (sendable, crosses, chit.the_send, cell_send) depth 40

pub state_send : (T : RattleType) → IsSend T → IsSend (state.the_row T)
state_send T s = search (sendable, crosses, endpoint_send, courier_field) depth 40 fits 50000
