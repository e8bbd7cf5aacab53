use Rattle.command_texts.specs.Words.{texts}
use Rattle.command_texts.proofs.WordForms.{no_form}
use Rattle.command_texts.proofs.words.form_of.Goals as goal

pub returns-in_err-command_of-clause-none : goal.returns-in_err-command_of-clause-none
returns-in_err-command_of-clause-none c = rw c.from_residual.ensures (no_form (texts c.args.words.now) c.in_err-command_of.ensures.none c.in_default.ensures.none)
