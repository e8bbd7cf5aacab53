use Rattle.std.proofs.Common.{◌≡◌, ◌<◌, ℕ, Bool, false, List, length, get_or, Option, is_none, Vec, Global, refl, sym, ap, subst, ◌∙◌, arith}
use Rattle.std.proofs.lemmas.List.{get_or-map}
use Rattle.wire_forms.specs.declared.op.Op.{Op}
use Rattle.protocol.specs.Operations.{Outcome}
use Rattle.protocol.specs.Seen.{block_of}
use Rattle.store_device.specs.Stores.{SeenStore}
use Rattle.store_care.specs.Given.{block_at, outcome_at, written_by}
use Rattle.store_care.specs.Holdings.{newest_at}
use Rattle.store_care.specs.Tallies.{AreChanged, holds_again, one_more_if, with_restored}
use Rattle.store_care.specs.Steps.{by_seat}
use Rattle.store_care.proofs.Written.{none_restored, one_more_restored, pair_at}
use Rattle.store_care.proofs.care.Care.count_written.Goals as goal

pub loop-k-init : goal.loop-k-init
loop-k-init g c = record {
  same = refl;
  seats = refl;
  restored = λ test are. none_restored c.args.store.now.config.n test c.args.store.now c.args.lacking.now c.args.outcomes.now c.args.self.now;
}

pub count_write-requires : goal.count_write-requires
count_write-requires g c =
    let k = c.loop-k.k in
    let again = c.args.lacking.now.again.items in
    let op = c.op-item.result in
    let lt : k < length again = omega (arith, c.loop-k-test.true, ap length c.deref-op-items.ensures.value) in
    let is : op ≡ get_or again k op = c.op-item.is ∙ ap (λ (ops : List Op). get_or ops k op) c.deref-op-items.ensures.value in
    let below = c.requires.batch.below k op lt in
    omega (arith, below, ap block_of is, c.block_of.ensures, ap (λ (s : SeenStore _). s.config.blocks) c.loop-k.invariant.same)

pub loop-k-preserved : goal.loop-k-preserved
loop-k-preserved g c =
    let k = c.loop-k.k in
    let again = c.args.lacking.now.again.items in
    let store = c.args.store.now in
    let told = c.args.outcomes.now in
    let op = c.op-item.result in
    let inv = c.loop-k.invariant in
    let e = c.in_ok-count_write.ensures in
    let old = c.loop-k.self in
    let new = c.count_write.new.self in
    let block = c.block_of.result in
    let seats = c.deref.result.now in
    let lt : k < length again = omega (arith, c.loop-k-test.true, ap length c.deref-op-items.ensures.value) in
    let is : op ≡ get_or again k op = c.op-item.is ∙ ap (λ (ops : List Op). get_or ops k op) c.deref-op-items.ensures.value in
    let at : block ≡ block_at again k = c.block_of.ensures ∙ ap block_of is ∙ sym (get_or-map block_of again k op 0 lt) in
    let lacked = λ (o : Option Outcome) (s : SeenStore _). AreChanged
    (λ seat. with_restored (holds_again (get_or seats seat false) (written_by o) (newest_at s block seat))) (length seats) old.tallies.items new.tallies.items in
    record {
      same = e.same ∙ inv.same;
      seats = e.seats ∙ inv.seats;
      restored = λ test are. one_more_restored store.config.n test store c.args.lacking.now told k block seats c.args.self.now old new at
          (c.deref.ensures.value
          ∙ pair_at (λ (s : Vec Bool Global). s.items) (λ (o : Op). by_seat store.config.n (λ seat. test seat (block_of o))) c.args.lacking.now.seats.items again k c.index.result.now op
          (omega (arith, lt, c.requires.paired)) lt c.index.ensures is are
          ∙ ap (λ (b : ℕ). by_seat store.config.n (λ seat. test seat b)) (sym c.block_of.ensures))
          (inv.restored test are)
          (e.failed ∙ ap (λ (o : Option Outcome). one_more_if (is_none (written_by o)) old.failed) c.outcome_at-outcome.ensures)
          (subst (lacked (outcome_at told k)) inv.same (subst (λ (o : Option Outcome). lacked o c.loop-k.store) c.outcome_at-outcome.ensures e.tallies));
    }
