use Rattle.std.proofs.Common.{◌≡◌, ◌<◌, ◌&&◌, false, get_or}
use Rattle.protocol.specs.Nodes.{carries}
use Rattle.store_care.specs.Holdings.{newest_at}
use Rattle.store_care.specs.Tallies.{AreChanged, with_restored}
use Rattle.store_care.proofs.care.Care.count_holding.Given as goal

abbrev pub invariant-loop-seat : goal.invariant-loop-seat
invariant-loop-seat g l = record {
  same : l.store ≡ l.fn.store;
  there : l.block < l.fn.store.config.blocks;
  failed : l.self.failed ≡ l.fn.self.failed;
  tallies : AreChanged (λ seat. with_restored (get_or l.lacked seat false && carries l.stamp (newest_at l.fn.store l.block seat)))
      l.seat l.fn.self.tallies.items l.self.tallies.items;
}
