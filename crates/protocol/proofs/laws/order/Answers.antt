-- The law's clauses are lemmas of `Kept`, at the setting of a cluster.
use Rattle.protocol.proofs.lemmas.Kept.{run_above, run_aim, run_up}
use Rattle.protocol.proofs.lemmas.Cluster.{cluster_valid}
use Rattle.protocol.specs.Instance.{setting_of}
use Rattle.protocol.proofs.laws.order.Goals as goal

pub returns : goal.returns
returns a = record {
  writes_above = λ c nodes clients good lines w run. run_above (setting_of c nodes clients) lines w (cluster_valid c nodes clients good) run;
  aim = λ c nodes clients good lines w run. run_aim (setting_of c nodes clients) lines w (cluster_valid c nodes clients good) run;
  reads_up = λ c nodes clients good lines w run. run_up (setting_of c nodes clients) lines w (cluster_valid c nodes clients good) run;
}
