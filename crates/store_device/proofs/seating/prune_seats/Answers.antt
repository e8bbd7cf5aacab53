use Rattle.std.proofs.Common.{Bool, subst, arith}
use Rattle.std.specs.Prelude.{slice_index_or}
use Rattle.store_device.specs.Seating.{PrunesWholly}
use Rattle.store_device.proofs.Carrying.{on_ok_then}
use Rattle.store_device.proofs.seating.prune_seats.Goals as goal

pub returns-clause-whole : goal.returns-clause-whole
returns-clause-whole g c =
    let D = g.D.Disk in
    on_ok_then _ _ c.none_starved.result (λ none i d l.
    subst (λ (b : Bool). PrunesWholly D.pending D.seen D.most c.args.prunes.now b (slice_index_or c.args.seats.now i d).node
    (slice_index_or c.prune_each.new.seats i d).node) (none i d (let n = c.prune_each.ensures.count in omega (arith, n, l)))
    (c.prune_each.ensures.whole i d l)) c.none_starved.ensures
