-- Lemmas of `Settling`.
use Rattle.std.proofs.Common.{◌≡◌, ◌++◌, ◌∷◌, [], length, slice_set, ap, sym, subst, ◌∙◌, refl, arith, All}
use Rattle.std.specs.declared.option.Option.TheVariants.{Some}
use Rattle.std.specs.Prelude.{slice_get}
use Rattle.std.proofs.lemmas.Option.{slice_get_read}
use Rattle.inboxes.specs.Sides.{took, items_from}
use Rattle.node_workers.specs.Workers.{AnswerPutter}
use Rattle.node_workers.specs.Closed.{HasAllOf}
use Rattle.node_workers.proofs.Settling.{answers_same, next_within, settled_more}
use Rattle.node_workers.proofs.close.settle_row.Goals as goal
use Rattle.lists.proofs.lemmas.Members.{all_at_place, slice_set-there}

pub loop-sent-preserved : goal.loop-sent-preserved
loop-sent-preserved c =
    let inv = c.loop-sent.invariant in
    let mails = c.args.mails.now.items in
    let now = c.loop-sent.mails.items in
    let row = c.args.row in
    let left = c.pop.new.self in
    let sent = c.in-Some.sent in
    let mail = c.index_mut-mail.result.now in
    let popped = c.in-Some.ensures.items in
    let n : c.len.result ≡ length left = c.len.ensures in
    let same = ap length inv.0 in
    let lt = next_within mails row c.loop-sent.row left sent c.requires.own inv.1 popped in
    let there : slice_get now c.len.result ≡ Some mail = slice_get_read now (length now) c.len.result mail refl (omega (arith, lt, n, same)) c.index_mut-mail.ensures.value in
    let at : slice_get mails (length left) ≡ Some mail = ap (λ l. slice_get l (length left)) (sym inv.0) ∙ ap (slice_get now) (sym n) ∙ there in
    let one : c.push.new.self ≡ sent ∷ [] = c.in_ok-push.ensures.ok ∙ ap (λ l. l ++ sent ∷ []) c.new-one.ensures in
    let items : HasAllOf (length left) mail sent = all_at_place (λ (s : AnswerPutter). items_from s.number (took mail.answers) ≡ s.put) (sent ∷ []) 0 sent (subst (All (λ (s : AnswerPutter). items_from s.number (took mail.answers) ≡ s.put)) one c.settle.ensures.items) refl in (
      ap (slice_set now c.len.result) (answers_same mail c.settle.new.taker c.settle.ensures.taker) ∙ slice_set-there now c.len.result mail there ∙ inv.0,
      settled_more mails row c.loop-sent.row left sent c.requires.own inv.1 popped mail at items,
    )
