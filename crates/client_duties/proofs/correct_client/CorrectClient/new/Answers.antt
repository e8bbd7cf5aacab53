use Rattle.std.proofs.Common.{◌∙◌, ap, refl, sym, subst}
use Rattle.quorum_rules.specs.Limits.{IsValid}
use Rattle.plan_words.specs.declared.plan.Plan.{Plan}
use Rattle.client_duties.specs.Tasks.{IsClientTask}
use Rattle.client_duties.specs.ClientDuty.{phase_in}
use Rattle.client_duties.proofs.Beginning.{begins, none_done}
use Rattle.client_duties.proofs.correct_client.CorrectClient.new.Goals as goal

pub returns-clause-first : goal.returns-clause-first
returns-clause-first c =
    ap (phase_in c.of.result.value) (c.from_vec.ensures.items ∙ c.into_vec.ensures)
    ∙ none_done c.of.result.value c.args.task (subst (λ (p : Plan). IsClientTask p c.args.task) (sym c.of.ensures) c.requires.task)

pub returns-clause-ready : goal.returns-clause-ready
returns-clause-ready c d config id correct entries =
    let same = ap (λ (p : Plan). p.config) (sym c.of.ensures) in
    begins _ c.args.task d (subst (λ (p : Plan). IsClientTask p c.args.task) (sym c.of.ensures) c.requires.task) (subst (λ (p : Plan). IsValid p.config) (sym c.of.ensures) c.requires.fits.valid) same refl (c.from_vec.ensures.items ∙ c.into_vec.ensures) refl refl (config ∙ same) id correct entries
