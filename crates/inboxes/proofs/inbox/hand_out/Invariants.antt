use Rattle.std.proofs.Common.{◌≡◌, [], length, Some}
use Rattle.crossbeam_channel.specs.Claims.{view, IsSeatAt}
use Rattle.crossbeam_channel.specs.Ends.{sends_on}
use Rattle.inboxes.specs.Parcels.{start, taking}
use Rattle.inboxes.specs.Sides.{inbox_of, AreNew, IsSameSeat}
use Rattle.inboxes.proofs.inbox.hand_out.Given as goal

abbrev pub invariant-loop-number : goal.invariant-loop-number
invariant-loop-number g l =
    IsSeatAt (sends_on l.end) l.pass
    × IsSameSeat l.initial.pass l.pass
    × (view l.pass ≡ taking (Some (start l.place l.senders)) l.number [])
    × (length l.list ≡ l.number)
    × AreNew (inbox_of l.initial.pass l.place) l.list l.number
