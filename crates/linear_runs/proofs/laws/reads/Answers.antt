-- The law's clauses are lemmas of `Meaning`.
use Rattle.linear_runs.proofs.Meaning.{reads_written, reads_fresh}
use Rattle.linear_runs.proofs.laws.reads.Goals as goal

pub returns : goal.returns
returns a = record { written = reads_written; fresh = reads_fresh }
