-- Endpoints may go to other threads, and threads may share the cells.
use denote.Param.Send.{IsSend, IsSync, sendable}
use denote.Struct.Declared.{row as row_of}
use Rattle.std.proofs.Crossing.{crosses}
use Rattle.event_clock.proofs.clock.Clock.TheSendSync as clock
use Rattle.receipt_lock.proofs.vault.Vault.TheSendSync as vault
use Rattle.receipt_lock.proofs.vault.Chit.TheSendSync as chit
use Rattle.inboxes.proofs.lemmas.Sending.{taker_send, putter_send}
use Rattle.locked_nodes.proofs.lemmas.Sending.{cell_send}
use Rattle.client_desks.proofs.desk.Desk.TheSendSync as desk
use Rattle.client_endpoints.proofs.asked.Asked.TheSendSync as asked
use Rattle.client_endpoints.proofs.answered.Answered.TheSendSync as answered
use Rattle.client_endpoints.specs.contracts.mail.ByMail as mail
use Rattle.client_endpoints.specs.contracts.transport.Transport as transport
use Rattle.client_endpoints.specs.contracts.endpoint.Endpoint as endpoint
use Rattle.client_endpoints.specs.contracts.endpoint.Endpoint.TheInside as endpoint_inside
use Rattle.client_endpoints.specs.contracts.shared_cells.SharedCells as shared_cells
use Rattle.client_endpoints.specs.contracts.shared_cells.SharedCells.TheInside as inside

mail_field : IsSend mail.the_field.row
mail_field = search (sendable, crosses, asked.the_send, answered.the_send, putter_send, taker_send) depth 40

transport_field : IsSend transport.the_field.row
transport_field = search (sendable, crosses, chit.the_send, cell_send, mail_field) depth 40

endpoint_inside_send : IsSend (row_of endpoint_inside.the_type)
endpoint_inside_send = search (sendable, crosses, desk.the_send, transport_field) depth 40

pub endpoint_send : IsSend endpoint.the_row
endpoint_send = search (sendable, endpoint_inside_send) depth 20

inside_sync : IsSync (row_of inside.the_type)
inside_sync = search (sendable, crosses, vault.the_sync, cell_send, clock.the_sync) depth 40

pub shared_cells_sync : IsSync shared_cells.the_row
shared_cells_sync = search (sendable, inside_sync) depth 20
