-- The law's clauses are lemmas, at the setting of a cluster.
use Rattle.protocol.proofs.lemmas.Marks.{marks_equal, marks_ascend, marks_step, lines_as_entries}
use Rattle.protocol.proofs.laws.marks.Goals as goal

pub returns : goal.returns
returns a = record { one = marks_equal; ascend = marks_ascend; from_one = marks_step; lines = lines_as_entries }
