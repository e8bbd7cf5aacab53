use Rattle.std.proofs.Common.{sym, ap, Err, subst}
use Rattle.run_pictures.specs.Calls.{StopsFor}
use Rattle.run_pictures.specs.declared.status.PictureStatus.{PictureStatus}
use Rattle.run_pictures.proofs.Refusing.{stops}
use Rattle.run_pictures.proofs.top.text_for.Goals as goal

pub returns-clause-stops : goal.returns-clause-stops
returns-clause-stops g c =
    let before = g.S.Source.left c.args.source.now in
    let after = g.S.Source.left c.input_of.new.source in
    subst (λ (s : PictureStatus). StopsFor s before after) (sym c.of.ensures)
    (stops before after c.in_ok-input.input c.in_ok-input.ensures.given c.in-Err.refusal (λ r e. c.in-Err.ensures.refused r (ap Err e)) (λ k e. c.in-Err.ensures.too_many k (ap Err e)))
