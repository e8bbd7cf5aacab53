use Rattle.std.proofs.Common.{nat_lt, ap, ◌∙◌}
use Rattle.store_device.specs.Stores.{SeenStore, seat_at}
use Rattle.store_care.specs.Pruning.{versions_at}
use Rattle.store_care.proofs.Overfull.{any_more}
use Rattle.store_care.proofs.pruning.is_overfull.Goals as goal

pub loop-seat-preserved : goal.loop-seat-preserved
loop-seat-preserved g c =
    let k = c.loop-seat.seat in
    let block = c.args.block in
    let inv = c.loop-seat.invariant in
    record {
      same = c.is_full_at-full.ensures.same ∙ inv.same;
      there = inv.there;
      full = any_more c.args.most (λ seat. versions_at (seat_at c.args.store.now seat) block) k c.loop-seat.full c.is_full_at-full.result
          inv.full (c.is_full_at-full.ensures.full ∙ ap (λ (s : SeenStore _). nat_lt c.args.most (versions_at (seat_at s k) block)) inv.same);
      ends = inv.ends;
    }
