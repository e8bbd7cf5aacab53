use Rattle.command_texts.proofs.WordForms.{no_workers}
use Rattle.command_texts.proofs.words.with_workers.Goals as goal

pub returns-in_default-clause-none : goal.returns-in_default-clause-none
returns-in_default-clause-none c form = no_workers form.0 c.args.word.now c.in_default.not-run c.in_default.not-trace form.1.0 form.1.1
