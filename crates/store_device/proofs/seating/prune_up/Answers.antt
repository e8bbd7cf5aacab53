use Rattle.std.proofs.Common.{◌∙◌, sym}
use Rattle.store_device.proofs.Rooms.{pruned_wholly}
use Rattle.store_device.proofs.seating.prune_up.Goals as goal

pub returns-in-Ok-clause-whole : goal.returns-in-Ok-clause-whole
returns-in-Ok-clause-whole g c =
    let D = g.D.Disk in
    let h = c.in-Ok.ensures in
    pruned_wholly D.seen D.most c.args.node.now c.prune_all.new.self D.pending c.args.prunes.now _
    (record { state = h.state; held = h.done.state ∙ sym h.state; durable = h.durable; whole = h.whole })
