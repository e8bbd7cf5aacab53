-- Takers, putters and what is left of them may go to other threads where their items may.
use denote.RattleType.{RattleType}
use denote.Param.Send.{IsSend, sendable}
use Rattle.std.proofs.Crossing.{crosses}
use Rattle.crossbeam_channel.proofs.flavors.array.Rows.TheSendSync as rows
use Rattle.atomic_table.proofs.shared.Seat.TheSendSync as seat
use Rattle.atomic_table.proofs.badge.Badge.TheSendSync as badge
use Rattle.inboxes.specs.declared.InboxItem.{Ghosts}
use Rattle.inboxes.specs.contracts.inbox.Taker as taker
use Rattle.inboxes.specs.contracts.inbox.Putter as putter
use Rattle.inboxes.specs.contracts.inbox.Sent as sent
use Rattle.inboxes.specs.contracts.rule.Parcel as parcel

post_send : (T P : RattleType) → IsSend T → IsSend (parcel.the_row T P)
post_send T P s = search (sendable, crosses) depth 20

pub taker_send : (T P : RattleType) (g : Ghosts T.Denot P.Denot) → IsSend T → IsSend (taker.the_row T P g)
taker_send T P g s =
    let p = post_send T P s in search (sendable, crosses, rows.the_send, rows.the_sync, seat.the_send, badge.the_send) depth 30

pub putter_send : (T P : RattleType) (g : Ghosts T.Denot P.Denot) → IsSend T → IsSend (putter.the_row T P g)
putter_send T P g s =
    let p = post_send T P s in search (sendable, crosses, rows.the_send, rows.the_sync, seat.the_send, badge.the_send) depth 30

pub sent_send : (T P : RattleType) (g : Ghosts T.Denot P.Denot) → IsSend T → IsSend (sent.the_row T P g)
sent_send T P g s =
    let p = post_send T P s in search (sendable, crosses, rows.the_send, rows.the_sync, seat.the_send, badge.the_send) depth 30
