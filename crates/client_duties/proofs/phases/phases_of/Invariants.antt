use Rattle.std.proofs.Common.{◌≡◌, ◌++◌, drop, All}
use Rattle.std.specs.List.{AllByRecursion}
use Rattle.std.specs.declared.option.Option.TheVariants.{None}
use Rattle.block_device.specs.Steps.{Fits}
use Rattle.plan_words.specs.Plans.{IsJob, device_fault}
use Rattle.client_duties.specs.Phases.{phases_in, with_steps}
use Rattle.client_duties.proofs.phases.phases_of.Given as goal

abbrev pub invariant-loop-job : goal.invariant-loop-job
invariant-loop-job l = record {
  made : l.phases ++ with_steps l.steps (phases_in l.config l.client (drop l.job-index l.work)) ≡ phases_in l.config l.client l.work;
  fit : All (All (Fits l.config)) l.phases;
  next : All (Fits l.config) l.steps;
  jobs : AllByRecursion (IsJob l.config) (drop l.job-index l.work);
  in_device : AllByRecursion (λ job. device_fault l.config job ≡ None) (drop l.job-index l.work);
}
