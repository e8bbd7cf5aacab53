use Rattle.line_forms.specs.Texts.{IsRefusal}
use Rattle.line_forms.proofs.lemmas.Tables.{err_is}
use Rattle.script_text.specs.Replays.{replay_body, replay_script}
use Rattle.script_text.proofs.replay.read_replay.Goals as goal

pub returns-in_err-config-clause-fault : goal.returns-in_err-config-clause-fault
returns-in_err-config-clause-fault c = err_is (IsRefusal replay_script c.args.text.now) c.from_residual.result _ c.from_residual.ensures.1 (c.in_err-config.ensures.fault replay_body)

pub read_liars-requires-clause-head : goal.read_liars-requires-clause-head
read_liars-requires-clause-head c = c.in_ok-config.ensures.head replay_body
