-- The law's clauses are lemmas, at the setting of a cluster.
use Rattle.protocol.proofs.lemmas.Cluster.{cluster_valid}
use Rattle.protocol.specs.Instance.{setting_of}
use Rattle.protocol.proofs.lemmas.Kept.{run_done, run_spent, run_total}
use Rattle.protocol.proofs.laws.counts.Goals as goal

pub returns : goal.returns
returns a = record {
  done = λ c nodes clients good lines w run. run_done (setting_of c nodes clients) lines w (cluster_valid c nodes clients good) run;
  spent = λ c nodes clients good lines w run. run_spent (setting_of c nodes clients) lines w (cluster_valid c nodes clients good) run;
  all = λ c nodes clients good lines w run. run_total (setting_of c nodes clients) lines w (cluster_valid c nodes clients good) run;
}
