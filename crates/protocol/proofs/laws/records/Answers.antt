-- The law's clauses are lemmas, at the setting of a cluster.
use Rattle.protocol.proofs.lemmas.Cluster.{cluster_valid}
use Rattle.protocol.specs.Instance.{setting_of}
use Rattle.protocol.proofs.lemmas.Kept.{run_in_order, run_told}
use Rattle.protocol.proofs.lemmas.SpentLies.{records_few}
use Rattle.protocol.proofs.laws.records.Goals as goal

pub returns : goal.returns
returns a = record {
  starts = λ c nodes clients good lines w run. run_in_order (setting_of c nodes clients) lines w (cluster_valid c nodes clients good) run;
  told = λ c nodes clients good lines w run. run_told (setting_of c nodes clients) lines w (cluster_valid c nodes clients good) run;
  few = λ c nodes clients good lines w run. records_few (setting_of c nodes clients) lines w (cluster_valid c nodes clients good) run;
}
