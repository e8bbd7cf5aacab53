-- The law's clauses are lemmas of `Kept` and `AtEnds`, at the setting of a cluster.
use Rattle.protocol.proofs.lemmas.Kept.{run_complete}
use Rattle.protocol.proofs.AtEnds.{completed_then}
use Rattle.protocol.proofs.lemmas.Cluster.{cluster_valid}
use Rattle.protocol.specs.Instance.{setting_of}
use Rattle.protocol.proofs.laws.completion.Goals as goal

pub returns : goal.returns
returns a = record {
  now = λ c nodes clients good lines w run. run_complete (setting_of c nodes clients) lines w (cluster_valid c nodes clients good) run;
  at_end = λ c nodes clients good any w again lines before then x end stamp there ended stamped at.
      completed_then (setting_of c nodes clients) lines w (cluster_valid c nodes clients good) end before then at x stamp there ended stamped;
}
