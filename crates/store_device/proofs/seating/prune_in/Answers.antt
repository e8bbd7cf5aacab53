use Rattle.std.proofs.Common.{Some, sym, subst}
use Rattle.store_device.specs.Seating.{PrunesWholly}
use Rattle.store_device.proofs.Reseated.{tried_in}
use Rattle.store_device.proofs.seating.prune_in.Goals as goal

pub returns-in-Some-clause-tries : goal.returns-in-Some-clause-tries
returns-in-Some-clause-tries g c =
    let D = g.D.Disk in
    tried_in D.pending D.seen c.args.prunes.now D.moment D.left_since c.args.seat.now c.in-Some.node c.prune_up.new.node c.in-Some.is
    c.prune_up.ensures.down c.prune_up.ensures.up

pub returns-in-Some-clause-whole : goal.returns-in-Some-clause-whole
returns-in-Some-clause-whole g c =
    let D = g.D.Disk in
    subst (λ seat. PrunesWholly D.pending D.seen D.most c.args.prunes.now c.prune_up.result seat (Some c.prune_up.new.node))
    (sym c.in-Some.is) c.prune_up.ensures.whole
