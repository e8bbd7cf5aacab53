-- The law's clauses are lemmas of `Growing`.
use Rattle.protocol.proofs.Growing.{plays_more, run_more}
use Rattle.protocol.proofs.laws.pools.Goals as goal

pub returns : goal.returns
returns a = record { lines = λ s w place line. (plays_more s w place line).0; runs = λ s w lines last run. (run_more s lines w last run).0 }
