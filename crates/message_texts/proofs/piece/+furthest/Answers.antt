use Rattle.message_texts.proofs.Forms.{furthest_of}
use Rattle.message_texts.proofs.piece.+furthest.Goals as goal

pub returns-clause-some : goal.returns-clause-some
returns-clause-some t c =
    λ some.
    rw (c.in-Some.ensures.cases.0, c.max.ensures)
    (furthest_of c.in-Some.form.now.now c.in-Some.rest.now c.args.text.now c.reach.result c.furthest.result c.reach.ensures c.furthest.ensures.some c.furthest.ensures.none)
