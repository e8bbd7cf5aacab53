-- Lemmas of `Dealing`.
use Rattle.std.proofs.Common.{◌≡◌, length, slice_set, ap, sym, subst, ◌∙◌, refl, arith}
use Rattle.std.specs.declared.option.Option.TheVariants.{Some}
use Rattle.std.specs.Prelude.{slice_get}
use Rattle.std.proofs.lemmas.Option.{slice_get_read}
use Rattle.phase_threads.proofs.Dealing.{AreDealtFrom, deal_more, next_within}
use Rattle.phase_threads.proofs.portions.deal.Goals as goal

pub loop-thing-preserved : goal.loop-thing-preserved
loop-thing-preserved g c =
    let inv = c.loop-thing.invariant in
    let old = c.args.portions.now.items in
    let portions = c.loop-thing.portions.items in
    let left = c.pop.new.self in
    let thing = c.in-Some.thing in
    let portion = c.index_mut-portion.result.now in
    let popped = c.in-Some.ensures.items in
    let n : c.len.result ≡ length left = c.len.ensures in
    let lt = next_within old portions c.args.things c.loop-thing.things left thing inv popped in
    let at : slice_get portions (length left) ≡ Some portion = ap (slice_get portions) (sym n) ∙ slice_get_read portions (length portions) c.len.result portion refl (omega (arith, lt, n)) c.index_mut-portion.ensures.value in
    let more = deal_more old portions c.args.things c.loop-thing.things left thing portion inv popped at in
    subst (λ k. AreDealtFrom old c.args.things (slice_set portions k c.push.new.self) left) (sym n) (subst (λ h. AreDealtFrom old c.args.things (slice_set portions (length left) h) left) (sym c.in_ok-push.ensures.ok) more)
