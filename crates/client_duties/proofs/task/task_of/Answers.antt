use Rattle.std.proofs.Common.{◌≡◌, ◌∙◌, ap, sym, subst, arith, List, length, map, take, All}
use Rattle.std.specs.declared.option.Option.TheVariants.{None}
use Rattle.std.specs.List.{AllByRecursion, range_with_len}
use Rattle.block_device.specs.declared.steps.BlockStep.{BlockStep}
use Rattle.plan_words.specs.declared.fault.Fault.{Fault}
use Rattle.plan_words.specs.declared.job.Job.{Job}
use Rattle.plan_words.specs.Plans.{device_fault}
use Rattle.plan_followed.specs.Asked.{messages, client_crash}
use Rattle.client_duties.specs.Phases.{all_steps, phases_in}
use Rattle.client_duties.specs.Tasks.{IsSendable, ways_of}
use Rattle.client_duties.proofs.Mails.{all_sendable}
use Rattle.client_duties.proofs.TaskSteps.{first_steps, every_step, count_phases, few_steps, limit_most}
use Rattle.client_duties.proofs.task.task_of.Goals as goal

pub returns-then-client-clause-task : goal.returns-then-client-clause-task
returns-then-client-clause-task c =
    let plan = c.args.plan.now in
    let sends = c.in_ok-mail_of.ensures ∙ ap (λ (rules : List Fault). messages plan.config rules c.args.client) c.as_slice.ensures in
    record {
      lying = sym c.client.ensures ∙ c.if-client.true;
      sends = sends;
      each = subst (All (IsSendable plan.config c.args.client)) (sym sends) (all_sendable plan.config c.requires.valid c.args.client plan.rules c.requires.fitting.each_rule);
    }

pub phases_of-requires-clause-in_device : goal.phases_of-requires-clause-in_device
phases_of-requires-clause-in_device c = subst (AllByRecursion (λ job. device_fault c.args.plan.now.config job ≡ None)) (sym c.as_slice-2.ensures) c.requires.fitting.in_device

pub returns-clause-task : goal.returns-clause-task
returns-clause-task c =
    let plan = c.args.plan.now in
    let client = c.args.client in
    let made = c.in_ok-phases_of.ensures.phases ∙ ap (λ (work : List Job). phases_in plan.config client work) c.as_slice-2.ensures in
    record {
      correct = sym c.client.ensures ∙ c.if-client.false;
      count = ap length made ∙ count_phases plan.config client plan.work;
      steps = λ k. ap (λ (ps : List (List BlockStep)). all_steps (take k ps)) made ∙ first_steps plan.config client plan.work k;
      all = ap all_steps made ∙ every_step plan.config client plan.work;
      few = (let e = ap (λ (ps : List (List BlockStep)). length (all_steps ps)) made in
          let f = few_steps plan.config client plan.work c.requires.fitting.in_device in
          let g = c.requires.fitting.few.steps in
          let h = limit_most plan.config in omega arith);
      fit = c.in_ok-phases_of.ensures.fit;
      ways = c.in_ok-ways_of.ensures ∙ ap (λ (rules : List Fault). map (ways_of rules client) (range_with_len 0 plan.config.n)) c.as_slice-3.ensures;
      crash = c.client_crash_of.ensures ∙ ap (λ (rules : List Fault). client_crash rules client) c.as_slice-4.ensures;
    }
