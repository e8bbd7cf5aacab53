use Rattle.std.proofs.Common.{◌≡◌, ◌<◌, ◌&&◌, ℕ, Bool, false, length, get_or, Option, option_copied, ap, subst, ◌∙◌}
use Rattle.std.specs.Option.{option_map}
use Rattle.protocol.specs.Messages.{Version}
use Rattle.store_device.specs.Stores.{SeenStore}
use Rattle.store_care.specs.Holdings.{holding_of, newest_at}
use Rattle.store_care.specs.Steps.{IsChangedAt}
use Rattle.store_care.specs.Tallies.{is_sound, lacks, with_restored}
use Rattle.store_care.proofs.Changing.{one_more_changed, noted_more}
use Rattle.store_care.proofs.care.Care.count_again.Goals as goal

pub loop-seat-preserved : goal.loop-seat-preserved
loop-seat-preserved g c =
    let k = c.loop-seat.seat in
    let stamp = c.args.stamp.now in
    let made = option_copied c.args.made in
    let lacked = c.args.lacked.now in
    let store = c.args.store.now in
    let block = c.args.block in
    let old = c.loop-seat.self.tallies.items in
    let new = c.count_one_again-lacks.new.self.tallies.items in
    let inv = c.loop-seat.invariant in
    let sound = λ (seat : ℕ) (b : Bool) (v : Option Version). b && is_sound (option_map (holding_of seat stamp made) v) in
    let short = λ (seat : ℕ) (b : Bool) (v : Option Version). b && lacks (option_map (holding_of seat stamp made) v) in
    let lt : k < length lacked = c.loop-seat-test.true in
    let is : option_copied c.as_ref.result ≡ newest_at store block k =
    c.as_ref.ensures.value ∙ c.in_ok-newest.ensures.newest ∙ ap (λ (s : SeenStore _). newest_at s block k) inv.same in
    record {
      same = c.newest_at.ensures.same ∙ inv.same;
      there = inv.there;
      failed = c.count_one_again-lacks.ensures.failed ∙ inv.failed;
      tallies = one_more_changed (λ seat. with_restored (sound seat (get_or lacked seat false) (newest_at store block seat))) k c.args.self.now.tallies.items old new inv.tallies
          (subst (λ (v : Option Version). IsChangedAt k (with_restored (sound k (get_or lacked k false) v)) old new) is
          c.count_one_again-lacks.ensures.tally);
      still = noted_more (λ seat. short seat (get_or lacked seat false) (newest_at store block seat)) c.loop-seat.still.items c.push.new.self.items k c.count_one_again-lacks.result
          inv.still c.in_ok-push.ensures.items
          (c.count_one_again-lacks.ensures.lacks ∙ ap (short k (get_or lacked k false)) is);
    }
