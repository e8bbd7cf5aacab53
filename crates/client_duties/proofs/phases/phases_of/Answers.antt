use Rattle.std.proofs.Common.{◌≡◌, ◌∙◌, ◌+◌, ◌++◌, ap, sym, subst, drop, List, All}
use Rattle.std.specs.declared.option.Option.TheVariants.{None}
use Rattle.std.specs.List.{AllByRecursion}
use Rattle.std.proofs.lemmas.List.Elements.{All-nil}
use Rattle.block_device.specs.declared.steps.BlockStep.{BlockStep}
use Rattle.block_device.specs.Steps.{Fits}
use Rattle.plan_words.specs.declared.job.Job.{Job}
use Rattle.plan_words.specs.Plans.{IsJob, device_fault}
use Rattle.client_duties.specs.Phases.{phases_in, with_steps}
use Rattle.client_duties.proofs.Folding.{from_place}
use Rattle.client_duties.proofs.TaskSteps.{no_steps}
use Rattle.client_duties.proofs.phases.phases_of.Goals as goal

pub loop-job-init : goal.loop-job-init
loop-job-init c =
    let config = c.args.config.now in
    let all = phases_in config c.args.client c.args.work.now in
    record {
      made = ap (λ (ps : List (List BlockStep)). ps ++ with_steps c.new-steps.result all) c.new-phases.ensures ∙ ap (λ (s : List BlockStep). with_steps s all) c.new-steps.ensures ∙ no_steps config c.args.client c.args.work.now;
      fit = subst (All (All (Fits config))) (sym c.new-phases.ensures) (All-nil (All (Fits config)));
      next = subst (All (Fits config)) (sym c.new-steps.ensures) (All-nil (Fits config));
      jobs = c.requires.jobs;
      in_device = c.requires.in_device;
    }

pub add_job-requires : goal.add_job-requires
add_job-requires c =
    let here = from_place c.args.work.now c.loop-job.job-index c.job-item.result c.loop-job-test.true c.job-item.is in
    record {
      job = (subst (AllByRecursion (IsJob c.args.config.now)) here c.loop-job.invariant.jobs).0;
      in_device = (subst (AllByRecursion (λ job. device_fault c.args.config.now job ≡ None)) here c.loop-job.invariant.in_device).0;
      fit = c.loop-job.invariant.next;
      all_fit = c.loop-job.invariant.fit;
    }

pub loop-job-preserved : goal.loop-job-preserved
loop-job-preserved c =
    let config = c.args.config.now in
    let here = from_place c.args.work.now c.loop-job.job-index c.job-item.result c.loop-job-test.true c.job-item.is in
    record {
      made = c.in_ok-add_job.ensures.made (drop (c.loop-job.job-index + 1) c.args.work.now)
          ∙ ap (λ (jobs : List Job). c.loop-job.phases ++ with_steps c.loop-job.steps (phases_in config c.args.client jobs)) (sym here) ∙ c.loop-job.invariant.made;
      fit = c.in_ok-add_job.ensures.all_fit;
      next = c.in_ok-add_job.ensures.fit;
      jobs = (subst (AllByRecursion (IsJob config)) here c.loop-job.invariant.jobs).1;
      in_device = (subst (AllByRecursion (λ job. device_fault config job ≡ None)) here c.loop-job.invariant.in_device).1;
    }
