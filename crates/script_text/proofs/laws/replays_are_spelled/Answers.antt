use Rattle.script_text.proofs.lemmas.ReplayLaws.{replay_accepted, one_replay, text_spells}
use Rattle.script_text.proofs.laws.replays_are_spelled.Goals as goal

pub returns-clause-accepted : goal.returns-clause-accepted
returns-clause-accepted c = replay_accepted

pub returns-clause-one : goal.returns-clause-one
returns-clause-one c = one_replay

pub returns-clause-text : goal.returns-clause-text
returns-clause-text c = text_spells
