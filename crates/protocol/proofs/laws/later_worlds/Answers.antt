-- The law's clauses are lemmas of `Endings`, at the setting of a cluster.
use Rattle.protocol.proofs.Endings.{begun_stay, ended_the_same, over_stays, crashed_over, at_line}
use Rattle.protocol.proofs.lemmas.Theorem.{run_is_right}
use Rattle.protocol.proofs.lemmas.Kept.{run_told}
use Rattle.protocol.proofs.lemmas.Cluster.{cluster_valid}
use Rattle.protocol.specs.Instance.{setting_of}
use Rattle.protocol.proofs.laws.later_worlds.Goals as goal

pub returns : goal.returns
returns a = record {
  begun = λ c nodes clients good lines w run more last r on.
      let s = setting_of c nodes clients in
      let valid = cluster_valid c nodes clients good in
      begun_stay s valid more w last (run_is_right s lines w valid run) on r;
  ended = λ c nodes clients good lines w run more last r end on.
      let s = setting_of c nodes clients in
      let valid = cluster_valid c nodes clients good in
      ended_the_same s valid more w last (run_is_right s lines w valid run) on r end;
  cut_off = λ c nodes clients good lines w run more last r on there unended crashed.
      let s = setting_of c nodes clients in
      let valid = cluster_valid c nodes clients good in
      (over_stays s valid more w last (run_is_right s lines w valid run) on r there (crashed_over s valid w r crashed), (run_told s lines w valid run r there).ended.0 unended);
  at_ends = λ c nodes clients good any w again lines r end run. at_line (setting_of c nodes clients) (cluster_valid c nodes clients good) lines w run r end;
}
