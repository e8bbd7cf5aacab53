use Rattle.pasis_shell.proofs.Legal.{replay_is_legal}
use Rattle.pasis_shell.proofs.laws.replays_are_legal.Goals as goal

pub returns : goal.returns
returns c = replay_is_legal
