use Rattle.std.proofs.Common.{◌∙◌, replicate, None, ap}
use Rattle.store_sessions.proofs.Seats.{nobody_sits}
use Rattle.store_sessions.proofs.making.nobody.Goals as goal

pub returns : goal.returns
returns g c =
    nobody_sits g.D.Disk.pending g.D.Disk.seen c.args.config.now c.in_ok-nodes.nodes.items c.n.ensures.valid
    (c.in_ok-nodes.ensures ∙ ap (λ k. replicate k None) c.n.ensures.is)
