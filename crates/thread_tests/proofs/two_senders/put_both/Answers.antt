use denote.Param.Send.{sendable}
use Rattle.std.proofs.Crossing.{crosses}
use Rattle.inboxes.proofs.lemmas.Sending.{putter_send, sent_send}
use Rattle.thread_tests.proofs.two_senders.Number.TheSendSync as number
use Rattle.thread_tests.proofs.two_senders.put_both.Goals as goal

pub join-requires-send-F : goal.join-requires-send-F
join-requires-send-F g c = search (sendable, crosses, number.the_send, putter_send) depth 30

pub join-requires-send-A : goal.join-requires-send-A
join-requires-send-A g c = search (sendable, crosses, number.the_send, sent_send) depth 30
