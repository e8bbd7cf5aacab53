use Rattle.std.proofs.Common.{ap, ◌∙◌}
use Rattle.store_device.specs.Stores.{SeenStore}
use Rattle.store_care.specs.Holdings.{newest_at}
use Rattle.store_care.proofs.Changing.{noted_more}
use Rattle.store_care.proofs.newest.newest_of.Goals as goal

pub loop-seat-preserved : goal.loop-seat-preserved
loop-seat-preserved g c =
    let k = c.loop-seat.seat in
    let block = c.args.block in
    let inv = c.loop-seat.invariant in
    record {
      same = c.newest_at.ensures.same ∙ inv.same;
      there = inv.there;
      newest = noted_more (newest_at c.args.store.now block) c.loop-seat.newest.items c.push.new.self.items k c.in_ok-version.version
          inv.newest c.in_ok-push.ensures.items
          (c.in_ok-version.ensures.newest ∙ ap (λ (s : SeenStore _). newest_at s block k) inv.same);
      ends = inv.ends;
    }
