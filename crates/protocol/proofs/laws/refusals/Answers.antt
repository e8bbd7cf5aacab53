-- The law's clauses are lemmas of `Theorem` and `Refusing`, at the setting of a cluster.
use Rattle.protocol.proofs.lemmas.Theorem.{run_refusals}
use Rattle.protocol.proofs.Refusing.{playable}
use Rattle.protocol.proofs.lemmas.Cluster.{cluster_valid}
use Rattle.protocol.specs.Instance.{setting_of}
use Rattle.protocol.proofs.laws.refusals.Goals as goal

pub returns : goal.returns
returns a = record {
  exact = λ c nodes clients good lines w run place line. run_refusals (setting_of c nodes clients) lines w (cluster_valid c nodes clients good) run place line;
  taken = playable;
}
