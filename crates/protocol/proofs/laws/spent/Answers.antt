-- The law's clauses are lemmas, at the setting of a cluster.
use Rattle.protocol.proofs.lemmas.Cluster.{cluster_valid}
use Rattle.protocol.specs.Instance.{setting_of}
use Rattle.protocol.proofs.lemmas.Kept.{run_spent_ascend}
use Rattle.protocol.proofs.lemmas.Counts.{spent_writes_are}
use Rattle.protocol.proofs.lemmas.SpentLies.{run_spent_lied}
use Rattle.protocol.proofs.laws.spent.Goals as goal

pub returns : goal.returns
returns a = record {
  are = spent_writes_are;
  ascend = λ c nodes clients good lines w run. run_spent_ascend (setting_of c nodes clients) lines w (cluster_valid c nodes clients good) run;
  lied = λ c nodes clients good lines w run. run_spent_lied (setting_of c nodes clients) lines w (cluster_valid c nodes clients good) run;
  none = λ c nodes clients good lines w run r honest low there spent.
      let k = run_spent_lied (setting_of c nodes clients) lines w (cluster_valid c nodes clients good) run r low there spent in
      let h = honest k.1.message.client in
      let l = k.1.lies in
      absurd (cc);
}
