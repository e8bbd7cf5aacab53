use Rattle.node_core.specs.Seen.{SeenNode}
use Rattle.version_disk.specs.Deeds.{after_deed, Answers}
use Rattle.version_disk.proofs.Keeping.{unmoved_stored}
use Rattle.version_disk.proofs.stored.StoredNode.commit.Goals as goal

pub returns-in_default-clause-any_moment : goal.returns-in_default-clause-any_moment
returns-in_default-clause-any_moment g c =
    let D = g.D.Disk in
    let i = c.self.inside in
    unmoved_stored D.moment D.left_since D.pending D.seen g.met.D.Disk.only_now i.node i.count i.disk i.broken c.args.self.now
    (λ (n : SeenNode). after_deed n (Answers c.args.ask.now)) c.self.view_is c.self.invariant.0

pub returns-then-not-has_place-clause-any_moment : goal.returns-then-not-has_place-clause-any_moment
returns-then-not-has_place-clause-any_moment g c =
    let D = g.D.Disk in
    let i = c.self.inside in
    unmoved_stored D.moment D.left_since D.pending D.seen g.met.D.Disk.only_now i.node i.count i.disk i.broken c.args.self.now
    (λ (n : SeenNode). after_deed n (Answers c.args.ask.now)) c.self.view_is c.self.invariant.0
