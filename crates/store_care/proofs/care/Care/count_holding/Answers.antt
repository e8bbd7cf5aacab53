use Rattle.std.proofs.Common.{◌≡◌, ◌&&◌, Bool, false, get_or, Option, ap, subst, ◌∙◌}
use Rattle.protocol.specs.Messages.{Version}
use Rattle.protocol.specs.Nodes.{carries}
use Rattle.store_device.specs.Stores.{SeenStore}
use Rattle.store_care.specs.Holdings.{newest_at}
use Rattle.store_care.specs.Steps.{IsChangedAt}
use Rattle.store_care.specs.Tallies.{with_restored}
use Rattle.store_care.proofs.Changing.{one_more_changed}
use Rattle.store_care.proofs.care.Care.count_holding.Goals as goal

pub loop-seat-preserved : goal.loop-seat-preserved
loop-seat-preserved g c =
    let k = c.loop-seat.seat in
    let lacked = c.args.lacked.now in
    let store = c.args.store.now in
    let block = c.args.block in
    let stamp = c.args.stamp.now in
    let old = c.loop-seat.self.tallies.items in
    let new = c.note_restored.new.self.tallies.items in
    let inv = c.loop-seat.invariant in
    let is : c.is_restored-again.result ≡ get_or lacked k false && carries stamp (newest_at store block k) =
    c.is_restored-again.ensures
    ∙ ap (λ (v : Option Version). get_or lacked k false && carries stamp v)
    (c.as_ref.ensures.value ∙ c.in_ok-newest.ensures.newest ∙ ap (λ (s : SeenStore _). newest_at s block k) inv.same) in
    record {
      same = c.newest_at.ensures.same ∙ inv.same;
      there = inv.there;
      failed = c.note_restored.ensures.failed ∙ inv.failed;
      tallies = one_more_changed (λ seat. with_restored (get_or lacked seat false && carries stamp (newest_at store block seat))) k c.args.self.now.tallies.items old new inv.tallies
          (subst (λ (b : Bool). IsChangedAt k (with_restored b) old new) is c.note_restored.ensures.tally);
    }
