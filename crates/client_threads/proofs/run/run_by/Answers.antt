use Rattle.std.proofs.Common.{◌≡◌, ℕ, ◌+◌, ◌<◌, ◌≤◌, Err, List, length, get_or, sym, ◌∙◌, ap, subst, arith}
use Rattle.plan_words.specs.Named.{is_phase}
use Rattle.plan_words.specs.declared.job.Job.{Job}
use Rattle.event_clock.specs.Passes.{ClockId}
use Rattle.client_threads.specs.Running.{IsBetween, IsWorked, plan_of}
use Rattle.client_threads.specs.declared.state.Run.{Run}
use Rattle.client_threads.proofs.Counting.{phases_in, one_phase_more, no_phase_more, no_phase, all_phases, handed_on}
use Rattle.client_threads.proofs.run.run_by.Goals.{in-Phase+in_ok-run-2+in_ok-run-3, in_default}
use Rattle.client_threads.proofs.run.run_by.Goals as goal

abbrev passes_of : Run → ℕ
passes_of run = run.clock.passes

pub returns-in_err-run-2-clause-full : goal.returns-in_err-run-2-clause-full
returns-in_err-run-2-clause-full g c = handed_on c.from_residual-in_err-run-2.result c.in_err-run-2.field-0.0 c.from_residual-in_err-run-2.ensures.1 (λ t is. c.in_err-run-2.ensures.full t (ap Err is))

pub cut-requires-clause-worked : goal.cut-requires-clause-worked
cut-requires-clause-worked g c =
    let k = phases_in c.args.plan.now.work c.loop-job.job-index in
    (k, c.in_ok-run-2.ensures.worked k c.loop-job.invariant.1)

pub returns-in_err-run-3-clause-full : goal.returns-in_err-run-3-clause-full
returns-in_err-run-3-clause-full g c = handed_on c.from_residual-in_err-run-3.result c.in_err-run-3.field-0.0 c.from_residual-in_err-run-3.ensures.1 (λ t is. c.in_err-run-3.ensures.full t (ap Err is))

pub loop-job-preserved : goal.loop-job-preserved
loop-job-preserved g c =
    let work = c.args.plan.now.work in
    let i = c.loop-job.job-index in
    let x = c.job-item.result in
    let k = phases_in work i in
    let inv = c.loop-job.invariant in
    let lt : i < length work = subst (λ (js : List Job). i < length js) c.as_slice-job-items.ensures c.loop-job-test.true in
    let item : x ≡ get_or work i x = c.job-item.is ∙ ap (λ (js : List Job). get_or js i x) c.as_slice-job-items.ensures in
    elim c.match-job.branch [
      | in-Phase+in_ok-run-2+in_ok-run-3 w ↦
          let more : phases_in work (i + 1) ≡ k + 1 = one_phase_more work i x lt (sym item ∙ w.in-Phase.is) in (
            ap plan_of w.run-is ∙ w.in_ok-run-3.ensures.plan ∙ w.in_ok-run-2.ensures.plan ∙ inv.0,
            subst (IsBetween (phases_in work (i + 1))) (sym w.run-is) (subst (λ (n : ℕ). IsBetween n w.in_ok-run-3.run') (sym more) (w.in_ok-run-3.ensures.closed k (w.in_ok-run-2.ensures.worked k inv.1))),
            ap passes_of w.run-is ∙ ap (λ (clock : ClockId). clock.passes) (w.in_ok-run-3.ensures.clock ∙ w.in_ok-run-2.ensures.clock) ∙ inv.2,
          )
      | in_default w ↦
          let same : phases_in work (i + 1) ≡ k = no_phase_more work i x lt (ap is_phase (sym item) ∙ no_phase x w.in_default.not-Phase) in (
            ap plan_of w.run-is ∙ inv.0,
            subst (IsBetween (phases_in work (i + 1))) (sym w.run-is) (subst (λ (n : ℕ). IsBetween n c.loop-job.run) (sym same) inv.1),
            ap passes_of w.run-is ∙ inv.2,
          )
    ]

pub returns-in_err-run-4-clause-full : goal.returns-in_err-run-4-clause-full
returns-in_err-run-4-clause-full g c = handed_on c.from_residual-in_err-run-4.result c.in_err-run-4.field-0.0 c.from_residual-in_err-run-4.ensures.1 (λ t is. c.in_err-run-4.ensures.full t (ap Err is))

pub finish-requires-clause-worked : goal.finish-requires-clause-worked
finish-requires-clause-worked g c =
    let work = c.args.plan.now.work in
    let i = c.loop-job.job-index in
    let high : length work ≤ i = (let past = c.loop-job-test.false in let many = ap length c.as_slice-job-items.ensures in omega (arith, past, many)) in
    subst (λ (n : ℕ). IsWorked n c.in_ok-run-4.run') (all_phases work i high) (c.in_ok-run-4.ensures.worked (phases_in work i) c.loop-job.invariant.1)
