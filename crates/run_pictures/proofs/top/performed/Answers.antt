use Rattle.std.proofs.Common.{subst, sym, ap, ◌∙◌, Err}
use Rattle.command_texts.specs.Texts.{Refuses}
use Rattle.line_forms.specs.declared.refusal.ScriptRefusal.{ScriptRefusal}
use Rattle.command_texts.specs.declared.refusal.Refusal.{Refusal}
use Rattle.command_texts.specs.declared.words.Command.TheVariants.{Replay}
use Rattle.run_pictures.proofs.Refusing.{refuses}
use Rattle.run_pictures.proofs.top.performed.Goals as goal

pub returns-in-Err-clause-refused : goal.returns-in-Err-clause-refused
returns-in-Err-clause-refused c =
    let r = c.in_ok-replay.replay in
    subst (λ (z : Refusal). Refuses Replay c.args.input.now z) (sym c.from.ensures)
    (refuses c.args.input.now r.config r.liars r.lines c.in_ok-replay.ensures.script c.in-Err.refusal (λ line cause k. c.perform.ensures.stop line cause (c.in-Err.is ∙ ap (λ (z : ScriptRefusal). Err z) k)))
