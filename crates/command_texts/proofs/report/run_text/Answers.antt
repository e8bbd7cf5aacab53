use Rattle.command_texts.proofs.Told.{runs_told}
use Rattle.command_texts.proofs.report.run_text.Goals as goal

pub returns : goal.returns
returns c = runs_told c.complete_histories.ensures c.args.plan.now c.args.journals.now c.in_ok-history.history c.in_ok-history.ensures c.in_ok-text.text c.in_ok-text.ensures
