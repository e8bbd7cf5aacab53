use Rattle.std.proofs.Common.{List, ℕ, ap, subst, sym}
use Rattle.std.specs.Prelude.{Err}
use Rattle.command_texts.specs.PlanRuns.{Soaks}
use Rattle.command_texts.specs.Texts.{Refuses}
use Rattle.command_texts.specs.Statuses.{refusal_of_run}
use Rattle.command_texts.specs.declared.words.Command.TheVariants.{Soak}
use Rattle.command_texts.specs.declared.refusal.Refusal.TheVariants.{NoMemory}
use Rattle.pasis_shell.proofs.RunsOfPlans.{soak_refuses, given_on}
use Rattle.pasis_shell.proofs.planned.soak_of.Goals as goal

pub load_text-requires-clause-run : goal.load_text-requires-clause-run
load_text-requires-clause-run g c = rw c.count.ensures.count c.in_ok-ran.ensures.followed

pub returns-clause-text : goal.returns-clause-text
returns-clause-text g c = (subst (λ (t : List ℕ). Soaks c.args.number t) (sym c.of.ensures.text) (c.in_ok-ran.ran.journals, c.in_ok-text.ensures), c.of.ensures.flaw)

pub returns-in_err-ran-clause-refused : goal.returns-in_err-ran-clause-refused
returns-in_err-ran-clause-refused g c input =
    given_on (Refuses (Soak c.args.number) input) c.from_residual-in_err-ran.result (refusal_of_run c.in_err-ran.field-0.0) c.from_residual-in_err-ran.ensures.1
    (soak_refuses c.args.number input c.in_err-ran.field-0.0 (λ drawn is. c.in_err-ran.ensures.full drawn (ap Err is)))

pub returns-in_err-text-clause-refused : goal.returns-in_err-text-clause-refused
returns-in_err-text-clause-refused g c input = given_on (Refuses (Soak c.args.number) input) c.from_residual-in_err-text.result NoMemory c.from_residual-in_err-text.ensures.1 tt
