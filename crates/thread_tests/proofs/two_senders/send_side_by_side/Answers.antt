use denote.Param.Send.{sendable}
use Rattle.std.proofs.Crossing.{crosses, send, sync}
use Rattle.inboxes.proofs.lemmas.Sending.{taker_send}
use Rattle.thread_tests.proofs.two_senders.Number.TheSendSync as number
use Rattle.thread_tests.proofs.two_senders.send_side_by_side.Goals as goal

pub join-taker-requires-send-F : goal.join-taker-requires-send-F
join-taker-requires-send-F g c = search (sendable, crosses, number.the_send, send, sync, taker_send) depth 30

pub join-taker-requires-send-A : goal.join-taker-requires-send-A
join-taker-requires-send-A g c = search (sendable, crosses, number.the_send, taker_send) depth 30
