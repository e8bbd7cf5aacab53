use Rattle.std.proofs.Common.{rules, ◌≡◌, ◌∙◌, ◌++◌, ap, true, [], ◌∷◌, List}
use Rattle.std.proofs.lemmas.Result.{on_ok_weaker}
use Rattle.block_device.specs.declared.steps.BlockStep.{BlockStep}
use Rattle.plan_words.specs.Named.{is_phase}
use Rattle.client_duties.specs.Phases.{phases_in, with_steps}
use Rattle.client_duties.proofs.TaskSteps.{phase_more}
use Rattle.client_duties.proofs.phases.add_job.Goals as goal

pub returns-clause-made : goal.returns-clause-made
returns-clause-made c =
    let config = c.args.config.now in
    let ends : is_phase c.args.job.now ≡ true = search rules in
    on_ok_weaker c.push.result (λ e work.
    ap (λ (ps : List (List BlockStep)). ps ++ with_steps c.replace.new.dest (phases_in config c.args.client work)) e
    ∙ ap (λ (s : List BlockStep). (c.args.phases.now ++ s ∷ []) ++ with_steps c.replace.new.dest (phases_in config c.args.client work)) c.replace.ensures.value
    ∙ ap (λ (s : List BlockStep). (c.args.phases.now ++ c.args.steps.now ∷ []) ++ with_steps s (phases_in config c.args.client work)) (c.replace.ensures.after ∙ c.new.ensures)
    ∙ phase_more config c.args.client c.args.phases.now c.args.steps.now c.args.job.now work ends) c.push.ensures.ok
