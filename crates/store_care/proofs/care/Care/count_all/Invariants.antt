use Rattle.std.proofs.Common.{◌≡◌, map, option_copied}
use Rattle.std.specs.List.{range_with_len}
use Rattle.store_care.specs.Steps.{holding_in}
use Rattle.store_care.specs.Tallies.{AreChanged, lacks, with_holding}
use Rattle.store_care.proofs.care.Care.count_all.Given as goal

abbrev pub invariant-loop-seat : goal.invariant-loop-seat
invariant-loop-seat l = record {
  failed : l.self.failed ≡ l.fn.self.failed;
  tallies : AreChanged (λ seat. with_holding (holding_in l.stamp (option_copied l.made) l.newest seat)) l.seat l.fn.self.tallies.items l.self.tallies.items;
  lacked : l.lacked.items ≡ map (λ seat. lacks (holding_in l.stamp (option_copied l.made) l.newest seat)) (range_with_len 0 l.seat);
}
