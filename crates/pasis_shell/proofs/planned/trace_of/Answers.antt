use Rattle.std.proofs.Common.{List, ℕ, subst, sym}
use Rattle.command_texts.specs.PlanRuns.{Traces}
use Rattle.pasis_shell.proofs.RunsOfPlans.{is_plan}
use Rattle.pasis_shell.proofs.planned.trace_of.Goals as goal

pub trace_text-requires-clause-of_scripts : goal.trace_text-requires-clause-of_scripts
trace_text-requires-clause-of_scripts g c = c.in_ok-plan.ensures.spelled.of_scripts

pub trace_text-requires-clause-run : goal.trace_text-requires-clause-run
trace_text-requires-clause-run g c = rw c.count-drawn.ensures.count c.in_ok-ran.ensures.followed

pub returns-clause-text : goal.returns-clause-text
returns-clause-text g c =
    let p = c.in_ok-plan.ensures in
    let is = is_plan c.args.input.now c.as_slice.result.now c.in_ok-plan.plan c.as_slice.ensures.value p.fits p.spelled p.faultless in
    (subst (λ (t : List ℕ). Traces c.args.input.now t) (sym c.of.ensures.text) (record { is = is; journals = c.in_ok-ran.ran.journals; trace = c.in_ok-text.ensures }), c.of.ensures.flaw)
