-- The operations stand somewhere after each phase, and what they ask then is at hand. The phases don't go past the most.
use Rattle.std.proofs.Common.{◌≡◌, ◌-◌, map, length}
use Rattle.protocol.specs.Instance.{setting}
use Rattle.batch_clients.specs.Batches.{AreAsksOf}
use Rattle.store_device.specs.Going.{store_of}
use Rattle.store_device.specs.Phased.{GoThrough}
use Rattle.store_device.proofs.Carrying.{GoFrom}
use Rattle.store_device.proofs.Coming.{ComeFrom}
use Rattle.store_device.proofs.phase.go_on.Given as goal

abbrev pub invariant-loop-batch : goal.invariant-loop-batch
invariant-loop-batch g l = (length l.seats ≡ length l.fn.seats)
    × (l.batch.config ≡ l.fn.batch.config)
    × AreAsksOf (setting l.fn.batch.config) l.batch.runs (map (λ a. a.items) l.asks.items)
    × GoFrom g.D.Disk.pending g.D.Disk.seen g.D.Disk.moment g.D.Disk.left_since l.fn.batch.config (map (λ seat. seat.node) l.fn.seats)
    l.fn.batch.runs (map (λ seat. seat.node) l.seats) l.batch.runs
    × ComeFrom g.D.Disk.pending g.D.Disk.seen g.D.Disk.moment g.D.Disk.left_since g.D.Disk.most l.fn.batch.config
    (map (λ seat. seat.node) l.fn.seats) l.fn.batch.runs l.fn.batch.phases (map (λ seat. seat.node) l.seats) l.batch.runs l.batch.phases
    × GoThrough g.D.Disk.pending g.D.Disk.seen g.D.Disk.most g.D.Disk.moment g.D.Disk.left_since
    (store_of l.fn.batch.config (map (λ seat. seat.node) l.fn.seats)) l.fn.batch.runs
    (store_of l.fn.batch.config (map (λ seat. seat.node) l.seats)) l.batch.runs

abbrev pub decreases-loop-batch : goal.decreases-loop-batch
decreases-loop-batch g l = 1000000 - l.batch.phases
