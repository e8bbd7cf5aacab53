-- The work of a thread may go to another thread.
use denote.Param.Send.{IsSend, sendable, recorded_send, enum_send}
use denote.Enum.Declared.{shape as variants_of}
use Rattle.std.proofs.Crossing.{crosses}
use Rattle.cross_sum.proofs.bytes.Bytes.TheSendSync as bytes
use Rattle.wire_forms.proofs.message.Message.TheSendSync as message
use Rattle.client_duties.specs.contracts.correct_client.CorrectClient as correct_client
use Rattle.client_duties.specs.contracts.liar.Liar as liar
use Rattle.client_duties.specs.contracts.work.ClientDuty as work

correct_field : IsSend correct_client.the_field.row
correct_field = search (sendable, crosses, bytes.the_send) depth 60 fits 50000

liar_field : IsSend liar.the_field.row
liar_field = search (sendable, crosses, message.the_send) depth 60 fits 50000

-- variant by variant: the whole is too large for one search
pub work_send : IsSend work.the_row
work_send = recorded_send _ _ _ (work.the_type.to_one) (enum_send (variants_of work.the_type) ((correct_field, tt), ((liar_field, tt), tt)))
