use Rattle.version_disk.specs.Deeds.{answering}
use Rattle.version_disk.proofs.Many.{undone_yet}
use Rattle.version_disk.proofs.batch.add_all.Goals as goal

pub returns-in_err-batch-clause-any_moment : goal.returns-in_err-batch-clause-any_moment
returns-in_err-batch-clause-any_moment g c =
    let D = g.D.Disk in
    undone_yet D.moment D.left_since D.pending D.seen c.args.disk.now (g.met.D.Disk.only_now c.args.disk.now) c.args.node.now c.args.count (answering c.args.asks.now) c.requires.kept

pub returns-then-not-have_places-clause-any_moment : goal.returns-then-not-have_places-clause-any_moment
returns-then-not-have_places-clause-any_moment g c =
    let D = g.D.Disk in
    undone_yet D.moment D.left_since D.pending D.seen c.args.disk.now (g.met.D.Disk.only_now c.args.disk.now) c.args.node.now c.args.count (answering c.args.asks.now) c.requires.kept
