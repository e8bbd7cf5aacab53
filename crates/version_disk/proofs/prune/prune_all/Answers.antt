use Rattle.std.proofs.Common.{subst}
use Rattle.quorum_rules.specs.Limits.{Numbers}
use Rattle.version_disk.specs.Batches.{prune_slots}
use Rattle.version_disk.specs.Compacted.{AreFitting}
use Rattle.version_disk.specs.Deeds.{pruning}
use Rattle.version_disk.proofs.Many.{undone_yet}
use Rattle.version_disk.proofs.Pruning.{prunes_good}
use Rattle.version_disk.proofs.prune.prune_all.Goals as goal

pub returns-then-not-have_places-clause-any_moment : goal.returns-then-not-have_places-clause-any_moment
returns-then-not-have_places-clause-any_moment g c =
    let D = g.D.Disk in
    undone_yet D.moment D.left_since D.pending D.seen c.args.disk.now (g.met.D.Disk.only_now c.args.disk.now) c.args.node.now c.args.count (pruning c.args.prunes.now) c.requires.kept

pub returns-in_err-pieces-clause-any_moment : goal.returns-in_err-pieces-clause-any_moment
returns-in_err-pieces-clause-any_moment g c =
    let D = g.D.Disk in
    undone_yet D.moment D.left_since D.pending D.seen c.args.disk.now (g.met.D.Disk.only_now c.args.disk.now) c.args.node.now c.args.count (pruning c.args.prunes.now) c.requires.kept

pub returns-in_err-written-clause-any_moment : goal.returns-in_err-written-clause-any_moment
returns-in_err-written-clause-any_moment g c =
    let D = g.D.Disk in
    undone_yet D.moment D.left_since D.pending D.seen c.args.disk.now (g.met.D.Disk.only_now c.args.disk.now) c.args.node.now c.args.count (pruning c.args.prunes.now) c.requires.kept

pub prune_each-requires-clause-good : goal.prune_each-requires-clause-good
prune_each-requires-clause-good g c =
    let node = c.args.node.now in
    let prunes = c.args.prunes.now in
    prunes_good node.config node.number prunes (subst (λ (k : Numbers). AreFitting k (prune_slots k prunes)) c.config.ensures c.in_ok-pieces.ensures.fits) c.requires.there
