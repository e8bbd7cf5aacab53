-- The law's clauses are lemmas of `Theorem` and `AtEnds`, at the setting of a cluster.
use Rattle.protocol.proofs.lemmas.Theorem.{run_bounded, run_low}
use Rattle.protocol.proofs.AtEnds.{few_then, lied_then}
use Rattle.protocol.proofs.lemmas.Cluster.{cluster_valid}
use Rattle.protocol.specs.Instance.{setting_of}
use Rattle.protocol.proofs.laws.bounds.Goals as goal

pub returns : goal.returns
returns a = record {
  rounds = λ c nodes clients good lines w run. run_bounded (setting_of c nodes clients) lines w (cluster_valid c nodes clients good) run;
  rounds_at_end = λ c nodes clients good any w again lines before then r end stamp value how rounds there gave ended at.
      few_then (setting_of c nodes clients) lines w (cluster_valid c nodes clients good) end before then at r stamp value how rounds there gave ended;
  times = λ c nodes clients good lines w run. run_low (setting_of c nodes clients) lines w (cluster_valid c nodes clients good) run;
  foreign = λ c nodes clients good any w again lines before then h e value end hist there kind read at.
      lied_then (setting_of c nodes clients) lines w (cluster_valid c nodes clients good) end before then at h e value hist there kind read;
}
