use Rattle.std.proofs.Common.{◌≡◌, ◌<◌, ℕ, length, get_or, Option, None, option_copied, ap, subst, ◌∙◌}
use Rattle.std.specs.Option.{option_map}
use Rattle.std.proofs.lemmas.List.{get_or_read}
use Rattle.protocol.specs.Messages.{Version}
use Rattle.store_care.specs.Holdings.{holding_of}
use Rattle.store_care.specs.Steps.{IsChangedAt, holding_in}
use Rattle.store_care.specs.Tallies.{lacks, with_holding}
use Rattle.store_care.proofs.Changing.{one_more_changed, noted_more}
use Rattle.store_care.proofs.care.Care.count_all.Goals as goal

pub loop-seat-preserved : goal.loop-seat-preserved
loop-seat-preserved c =
    let k = c.loop-seat.seat in
    let stamp = c.args.stamp.now in
    let made = option_copied c.args.made in
    let newest = c.args.newest.now in
    let old = c.loop-seat.self.tallies.items in
    let new = c.count-lacks.new.self.tallies.items in
    let f = λ (seat : ℕ). with_holding (holding_in stamp made newest seat) in
    let lt : k < length newest = c.loop-seat-test.true in
    let is : option_copied c.as_ref.result ≡ get_or newest k None = c.as_ref.ensures.value ∙ get_or_read newest k c.index-newest-seat.result lt c.index-newest-seat.is None in
    record {
      failed = c.count-lacks.ensures.failed ∙ c.loop-seat.invariant.failed;
      tallies = one_more_changed f k c.args.self.now.tallies.items old new c.loop-seat.invariant.tallies
          (subst (λ (o : Option Version). IsChangedAt k (with_holding (option_map (holding_of k stamp made) o)) old new) is c.count-lacks.ensures.tally);
      lacked = noted_more (λ (seat : ℕ). lacks (holding_in stamp made newest seat)) c.loop-seat.lacked.items c.push.new.self.items k c.count-lacks.result
          c.loop-seat.invariant.lacked c.in_ok-push.ensures.items
          (c.count-lacks.ensures.lacks ∙ ap (λ (o : Option Version). lacks (option_map (holding_of k stamp made) o)) is);
    }
