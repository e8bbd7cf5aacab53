use Rattle.std.proofs.Common.{◌-◌, length, drop, refl, arith}
use Rattle.std.proofs.lemmas.Bool.{false≢true}
use Rattle.std.proofs.lemmas.List.{take_all, length-drop}
use Rattle.message_texts.proofs.Forms.{form_after, form_before}
use Rattle.message_texts.proofs.piece.+reach.Goals as goal

pub returns-then-not-is_whole : goal.returns-then-not-is_whole
returns-then-not-is_whole t c =
    rw c.in-Some.ensures.cases.0
    (form_before c.in-Some.letter.now c.in-Some.rest.now c.args.text.now c.front-end.result (rw c.in-Some.ensures.cases.0 at c.requires) (rw c.of-piece.ensures at c.front-end.ensures)
    (λ is. false≢true ((rw c.of-piece.ensures at c.if-not-is_whole.ensures).1 is)))

pub returns : goal.returns
returns t c =
    let behind = take_all (length c.args.text.now - c.front-end.result) (drop c.front-end.result c.args.text.now) (let n = length-drop c.front-end.result c.args.text.now in omega (arith, n)) in
    rw c.in-Some.ensures.cases.0
    (form_after c.in-Some.letter.now c.in-Some.rest.now c.args.text.now c.front-end.result c.reach.result (rw c.in-Some.ensures.cases.0 at c.requires) (rw c.of-piece.ensures at c.front-end.ensures)
    ((rw c.of-piece.ensures at c.if-not-is_whole.ensures).0 refl)
    (rw behind at c.reach.ensures))
