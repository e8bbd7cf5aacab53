use Rattle.std.proofs.Common.{ap, ◌∙◌}
use Rattle.std.specs.Option.{option_map}
use Rattle.store_device.specs.Stores.{SeenStore}
use Rattle.store_care.specs.Holdings.{newest_at}
use Rattle.store_care.proofs.Changing.{noted_more}
use Rattle.store_care.proofs.settling.newest_stamps.Goals as goal

pub loop-seat-preserved : goal.loop-seat-preserved
loop-seat-preserved g c =
    let k = c.loop-seat.seat in
    let block = c.args.block in
    let inv = c.loop-seat.invariant in
    record {
      same = c.newest_stamp.ensures.same ∙ inv.same;
      there = inv.there;
      stamps = noted_more (λ seat. option_map (λ v. v.stamp) (newest_at c.args.store.now block seat)) c.loop-seat.stamps.items c.push.new.self.items k c.in_ok-stamp.stamp
          inv.stamps c.in_ok-push.ensures.items
          (c.in_ok-stamp.ensures.stamp ∙ ap (λ (s : SeenStore _). option_map (λ v. v.stamp) (newest_at s block k)) inv.same);
      ends = inv.ends;
    }
