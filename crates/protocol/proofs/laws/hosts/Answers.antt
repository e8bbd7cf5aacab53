-- The law's clauses are lemmas of `Theorem` and `Kept`, at the setting of a cluster.
use Rattle.protocol.proofs.lemmas.Kept.{run_greatest, run_hosted, run_kept}
use Rattle.protocol.proofs.lemmas.Cluster.{cluster_valid}
use Rattle.protocol.specs.Instance.{setting_of}
use Rattle.protocol.proofs.laws.hosts.Goals as goal

pub returns : goal.returns
returns a = record {
  hosted = λ c nodes clients good lines w run. run_hosted (setting_of c nodes clients) lines w (cluster_valid c nodes clients good) run;
  kept = λ c nodes clients good lines w run. run_kept (setting_of c nodes clients) lines w (cluster_valid c nodes clients good) run;
  greatest = λ c nodes clients good lines w run. run_greatest (setting_of c nodes clients) lines w (cluster_valid c nodes clients good) run;
}
