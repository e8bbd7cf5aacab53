-- Lemmas of `Opening`.
use Rattle.std.proofs.Common.{◌≡◌, ◌∷◌, [], ◌+◌, length, length-append, sym, ap, subst, ◌∙◌, refl}
use Rattle.std.specs.declared.option.Option.TheVariants.{Some}
use Rattle.std.specs.Prelude.{slice_get}
use Rattle.std.proofs.lemmas.Option.{slice_get_read}
use Rattle.node_workers.specs.Portions.{AreSpread}
use Rattle.node_workers.specs.Opened.{IsAnswerBox}
use Rattle.node_workers.proofs.Opening.{UpTo, up_to_more, answer_at, spread_more}
use Rattle.node_workers.proofs.open.open_answers.Goals as goal

pub loop-i-preserved : goal.loop-i-preserved
loop-i-preserved g c =
    let inv = c.loop-i.invariant in
    let seats = c.args.seats.now in
    let seat = c.index-seats-i.result in
    let was = c.loop-i.takers in
    let taker = c.in_ok-taker.taker in
    let pushed = c.in_ok-push.ensures.ok in
    let there : slice_get seats c.loop-i.i ≡ Some seat = slice_get_read seats (length seats) c.loop-i.i seat refl c.loop-i-test.true c.index-seats-i.is in
    let at : slice_get seats (length was) ≡ Some seat = ap (slice_get seats) inv.1 ∙ there in (
      subst (UpTo (IsAnswerBox c.args.clock.now c.args.nodes) seats) (sym pushed) (up_to_more (IsAnswerBox c.args.clock.now c.args.nodes) seats was seat taker inv.0 at (answer_at c.args.clock.now c.args.nodes 0 (length was) seat taker c.in_ok-taker.ensures.taker)),
      ap length pushed ∙ length-append was (taker ∷ []) ∙ ap (λ n. n + 1) inv.1,
      subst (λ l. AreSpread c.args.nodes l c.deal.new.portions.items) (sym pushed) (spread_more c.args.nodes was c.loop-i.putters.items c.deal.new.portions.items taker c.in_ok-taker.more inv.2 c.in_ok-taker.ensures.putters c.in_ok-deal.ensures),
    )
