use Rattle.std.proofs.Common.{sym, subst}
use Rattle.std.specs.Prelude.{IfErr}
use Rattle.command_texts.specs.Texts.{Refuses}
use Rattle.command_texts.specs.declared.words.Command.{Command}
use Rattle.pasis_shell.proofs.planned.text_in_threads.Goals as goal

pub returns-in-Soak-clause-refused : goal.returns-in-Soak-clause-refused
returns-in-Soak-clause-refused g c = subst (λ (k : Command). IfErr c.soak_of.result (λ refusal. Refuses k c.args.input.now refusal)) (sym c.in-Soak.is) (c.soak_of.ensures.refused c.args.input.now)
