-- The law's clauses are lemmas of `Theorem` and `Kept`, at the setting of a cluster.
use Rattle.protocol.proofs.lemmas.Kept.{run_accepted, run_asked}
use Rattle.protocol.proofs.lemmas.Cluster.{cluster_valid}
use Rattle.protocol.specs.Instance.{setting_of}
use Rattle.protocol.proofs.laws.origins.Goals as goal

pub returns : goal.returns
returns a = record {
  accepted = λ c nodes clients good lines w run. run_accepted (setting_of c nodes clients) lines w (cluster_valid c nodes clients good) run;
  asked = λ c nodes clients good lines w run. run_asked (setting_of c nodes clients) lines w (cluster_valid c nodes clients good) run;
}
