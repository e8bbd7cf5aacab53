-- Cells may go to other threads.
use denote.Param.Send.{IsSend, sendable}
use Rattle.std.proofs.Crossing.{crosses}
use Rattle.wire_forms.proofs.message.Message.TheSendSync as message
use Rattle.event_clock.proofs.clock.Pass.TheSendSync as pass
use Rattle.journals.proofs.node.NodeEntry.TheSendSync as node_entry
use Rattle.node_core.proofs.lemmas.Sending.{node_send}
use Rattle.locked_nodes.specs.contracts.charter.Terms as terms
use Rattle.locked_nodes.specs.contracts.state.CellState as cell_state
use Rattle.locked_nodes.specs.contracts.cell.NodeCell as cell

terms_send : IsSend terms.the_row
terms_send = search (sendable, crosses) depth 40

cell_state_send : IsSend cell_state.the_row
cell_state_send = search (sendable, crosses, node_send, message.the_send) depth 60 fits 50000

pub cell_send : IsSend cell.the_row
cell_send = search (sendable, crosses, terms_send, cell_state_send, node_entry.the_send, pass.the_send) depth 40
