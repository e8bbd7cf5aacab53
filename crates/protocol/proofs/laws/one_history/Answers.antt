-- The law's clauses are lemmas of `Theorem` and `Kept`, at the setting of a cluster.
use Rattle.protocol.proofs.lemmas.Theorem.{run_has, run_keys, run_one, run_values, run_written}
use Rattle.protocol.proofs.lemmas.Kept.{run_blocks}
use Rattle.protocol.proofs.lemmas.Cluster.{cluster_valid}
use Rattle.protocol.specs.Instance.{setting_of}
use Rattle.protocol.proofs.laws.one_history.Goals as goal

pub returns : goal.returns
returns a = record {
  some = λ c nodes clients good lines w run. run_has (setting_of c nodes clients) lines w (cluster_valid c nodes clients good) run;
  one = λ c nodes clients good lines w run. run_one (setting_of c nodes clients) lines w (cluster_valid c nodes clients good) run;
  blocks = λ c nodes clients good lines w run. run_blocks (setting_of c nodes clients) lines w (cluster_valid c nodes clients good) run;
  keys = λ c nodes clients good lines w run. run_keys (setting_of c nodes clients) lines w (cluster_valid c nodes clients good) run;
  of_writes = λ c nodes clients good lines w run. run_written (setting_of c nodes clients) lines w (cluster_valid c nodes clients good) run;
  values = λ c nodes clients good lines w run. run_values (setting_of c nodes clients) lines w (cluster_valid c nodes clients good) run;
}
