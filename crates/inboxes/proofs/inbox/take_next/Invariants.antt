use Rattle.crossbeam_channel.specs.Claims.{view, IsSeatAt}
use Rattle.crossbeam_channel.specs.Ends.{receives_on}
use Rattle.inboxes.specs.Sides.{IsTaking, IsSameSeat, HeardLasts}
use Rattle.inboxes.proofs.inbox.take_next.Given as goal

abbrev pub invariant-loop : goal.invariant-loop
invariant-loop g l =
    IsSeatAt (receives_on l.end) l.pass
    × IsSameSeat l.initial.pass l.pass
    × IsTaking (view l.pass) l.place.value l.senders l.lasts
    × HeardLasts (view l.initial.pass) (view l.pass)
