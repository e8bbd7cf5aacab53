-- The law's clauses are lemmas of `Theorem`, at the setting of a cluster.
use Rattle.protocol.proofs.lemmas.Theorem.{run_in_time, run_legal, run_never_outvoted, run_sound}
use Rattle.protocol.proofs.lemmas.Cluster.{cluster_valid}
use Rattle.protocol.specs.Instance.{setting_of}
use Rattle.protocol.proofs.laws.safety.Goals as goal

pub returns : goal.returns
returns a = record {
  legal = λ c nodes clients good lines w run h apart hist. run_legal (setting_of c nodes clients) lines w (cluster_valid c nodes clients good) run h apart hist;
  in_time = λ c nodes clients good lines w run h apart hist. run_in_time (setting_of c nodes clients) lines w (cluster_valid c nodes clients good) run h apart hist;
  sound = λ c nodes clients good lines w run h e hist. run_sound (setting_of c nodes clients) lines w (cluster_valid c nodes clients good) run h hist e;
  never_outvoted = λ c nodes clients good lines w run. run_never_outvoted (setting_of c nodes clients) lines w (cluster_valid c nodes clients good) run;
}
