-- Lemmas of `Joining`.
use Rattle.locked_nodes.proofs.lemmas.Joining.{one_cell, several_cells, several_calm}
use Rattle.locked_nodes.proofs.laws.kept_journals.Goals as goal

pub returns : goal.returns
returns c = record { one = one_cell; several = several_cells; calm = several_calm }
