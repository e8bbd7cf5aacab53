-- The law's clauses are lemmas of `Fresh`, at the setting of a cluster.
use Rattle.protocol.proofs.Fresh.{run_always, run_fresh}
use Rattle.protocol.proofs.lemmas.Cluster.{cluster_valid}
use Rattle.protocol.specs.Instance.{setting_of}
use Rattle.protocol.proofs.laws.freshness.Goals as goal

pub returns : goal.returns
returns a = record {
  always = λ c nodes clients good any w run lines place line k m reply from later fits fine sent body honest.
      run_always (setting_of c nodes clients) (cluster_valid c nodes clients good) lines w from place line later fits fine k m reply sent body honest;
  under_way = λ c nodes clients good any w run lines more last k m reply task stamp from on during body honest.
      run_fresh (setting_of c nodes clients) (cluster_valid c nodes clients good) lines w from more last on k m reply task during body honest stamp;
}
