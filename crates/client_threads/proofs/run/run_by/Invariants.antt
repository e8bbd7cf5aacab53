use Rattle.std.proofs.Common.{◌≡◌, take}
use Rattle.std.specs.Prelude.{count_by}
use Rattle.plan_words.specs.Named.{is_phase}
use Rattle.client_threads.specs.Opened.{pass_count}
use Rattle.client_threads.specs.Running.{IsBetween, plan_of}
use Rattle.client_threads.proofs.run.run_by.Given as goal

-- as many phases are closed as the work so far has ends of phases
abbrev pub invariant-loop-job : goal.invariant-loop-job
invariant-loop-job g l =
    (plan_of l.run ≡ l.plan)
    × IsBetween (count_by is_phase (take l.job-index l.plan.work)) l.run
    × (l.run.clock.passes ≡ pass_count l.plan l.shards)
