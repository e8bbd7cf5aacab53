-- The law's clauses are lemmas of `Given`.
use Rattle.protocol.proofs.lemmas.Given.{greatest_iff, none_iff}
use Rattle.protocol.proofs.laws.given.Goals as goal

pub returns : goal.returns
returns a = record { greatest = greatest_iff; none = none_iff }
