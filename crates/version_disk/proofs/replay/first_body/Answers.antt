use Rattle.std.proofs.Common.{◌∷◌, sym, ◌∙◌, ap}
use Rattle.slot_disk.specs.Bodies.{bodies}
use Rattle.slot_disk.proofs.lemmas.Bodies.{open_first}
use Rattle.version_disk.proofs.replay.first_body.Goals as goal

pub returns-clause-some : goal.returns-clause-some
returns-clause-some c =
    let w = c.args.body in
    ap (bodies w) c.in-Some.ensures.cases.0 ∙ open_first w c.in-Some.gate.now c.in-Some.rest.now c.if-gate-ne1.false c.if-rest-body.false
    ∙ (λ i. sym c.split_at.ensures.front i ∷ bodies w (sym c.split_at.ensures.back i))
