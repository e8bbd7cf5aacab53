-- Lemmas of `Conducting`.
use Rattle.locked_nodes.proofs.Conducting.{entries_go, held_come_again}
use Rattle.locked_nodes.proofs.laws.conduct.Goals as goal

pub returns : goal.returns
returns c = record { entries = entries_go; held = held_come_again }
