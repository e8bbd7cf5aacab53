use Rattle.std.proofs.Common.{◌≡◌, ◌<◌, ◌&&◌, false, get_or, map, option_copied}
use Rattle.std.specs.List.{range_with_len}
use Rattle.std.specs.Option.{option_map}
use Rattle.store_care.specs.Holdings.{holding_of, newest_at}
use Rattle.store_care.specs.Tallies.{AreChanged, is_sound, lacks, with_restored}
use Rattle.store_care.proofs.care.Care.count_again.Given as goal

abbrev pub invariant-loop-seat : goal.invariant-loop-seat
invariant-loop-seat g l = record {
  same : l.store ≡ l.fn.store;
  there : l.block < l.fn.store.config.blocks;
  failed : l.self.failed ≡ l.fn.self.failed;
  tallies : AreChanged (λ seat. with_restored (get_or l.lacked seat false && is_sound (option_map (holding_of seat l.stamp (option_copied l.made)) (newest_at l.fn.store l.block seat))))
      l.seat l.fn.self.tallies.items l.self.tallies.items;
  still : l.still.items ≡ map (λ seat. get_or l.lacked seat false && lacks (option_map (holding_of seat l.stamp (option_copied l.made)) (newest_at l.fn.store l.block seat)))
      (range_with_len 0 l.seat);
}
