use Rattle.store_device.proofs.Reseated.{nobody_sits}
use Rattle.store_device.proofs.store.Store.empty.Goals as goal

pub new-requires : goal.new-requires
new-requires g c = nobody_sits g.D.Disk.pending g.D.Disk.seen c.args.config.now c.nobody.ensures.valid c.in_ok-nodes.nodes.items c.in_ok-nodes.ensures.nodes
