use Rattle.std.proofs.Common.{subst, sym, ap, ◌∙◌, Err, List, ℕ}
use Rattle.command_texts.specs.Texts.{Refuses}
use Rattle.command_texts.proofs.replay.report_of.Goals as goal
use Rattle.line_forms.specs.declared.refusal.ScriptRefusal.{ScriptRefusal}
use Rattle.line_forms.specs.Texts.{IsFaultless}
use Rattle.script_text.specs.Replays.{Spells, replay_script}
use Rattle.command_texts.specs.declared.words.Command.TheVariants.{Replay}
use Rattle.command_texts.specs.Replays.{IsScript, Replays}
use Rattle.command_texts.proofs.Replaying.{replays, refuses}

pub returns-in_ok-told-in-Ok-clause-text : goal.returns-in_ok-told-in-Ok-clause-text
returns-in_ok-told-in-Ok-clause-text c =
    let r = c.in_ok-replay.replay in
    let e = c.as_slice.ensures.value in
    let script : IsScript c.args.input.now r.config r.liars r.lines = record {
      replay = c.in_ok-replay.ensures.replay;
      spelled = subst (λ t. Spells t r.config r.liars r.lines) e c.in_ok-replay.ensures.spelled;
      faultless = subst (λ t. IsFaultless replay_script t) e c.in_ok-replay.ensures.faultless;
    } in (
      subst (λ (t : List ℕ). Replays c.args.input.now t) (sym c.of.ensures.text)
          (replays c.args.input.now r.config r.liars r.lines script c.in_ok-told-in-Ok.field-0 c.in-Ok.world c.in-Ok.ensures.cluster c.in-Ok.ensures.liars c.in-Ok.ensures.run c.in-Ok.ensures.is_run c.in_ok-told-in-Ok.ensures),
      c.of.ensures.flaw,
    )

pub returns-in-Err-clause-refused : goal.returns-in-Err-clause-refused
returns-in-Err-clause-refused c =
    let r = c.in_ok-replay.replay in
    let e = c.as_slice.ensures.value in
    let script : IsScript c.args.input.now r.config r.liars r.lines = record {
      replay = c.in_ok-replay.ensures.replay;
      spelled = subst (λ t. Spells t r.config r.liars r.lines) e c.in_ok-replay.ensures.spelled;
      faultless = subst (λ t. IsFaultless replay_script t) e c.in_ok-replay.ensures.faultless;
    } in
    subst (λ z. Refuses Replay c.args.input.now z) (sym c.from.ensures)
    (refuses c.args.input.now r.config r.liars r.lines script c.in-Err.refusal (λ line cause k. c.perform.ensures.stop line cause (c.in-Err.is ∙ ap (λ (z : ScriptRefusal). Err z) k)))
