-- A write that nobody known made was lied; the history of the run, in which it stands, has that law.
use Rattle.std.proofs.Common.{◌++◌, ◌∙◌, List, map, ap}
use Rattle.std.proofs.lemmas.List.{append-nil}
use Rattle.protocol.specs.Instance.{setting_of}
use Rattle.protocol.specs.History.{Entry}
use Rattle.linear_runs.specs.Of.{known, unknown_write}
use Rattle.linear_runs.proofs.Lies.{lied_now}
use Rattle.linear_runs.proofs.Unknown.{none_unknown, op_lied}
use Rattle.linear_runs.proofs.laws.known.Goals as goal

pub returns : goal.returns
returns c = record {
  lied = λ n nodes clients good lines w run.
      let s = setting_of n nodes clients in
      let has = c.one_history.ensures.some n nodes clients good lines w run in
      op_lied s w (c.one_history.ensures.of_writes n nodes clients good lines w run) has.0 has.1 (c.safety.ensures.sound n nodes clients good lines w run)
      (lied_now s w lines run (c.later_worlds.ensures.at_ends n nodes clients good lines w run) (c.bounds.ensures.foreign n nodes clients good lines w run) (c.pools.ensures.runs s) has.0 has.1);
  all = λ n nodes clients good lines w run honest.
      let s = setting_of n nodes clients in
      let has = c.one_history.ensures.some n nodes clients good lines w run in
      let none = none_unknown s w (c.one_history.ensures.of_writes n nodes clients good lines w run) has.0 has.1 (c.safety.ensures.sound n nodes clients good lines w run)
      (lied_now s w lines run (c.later_worlds.ensures.at_ends n nodes clients good lines w run) (c.bounds.ensures.foreign n nodes clients good lines w run) (c.pools.ensures.runs s) has.0 has.1) honest in
      ap (λ (es : List Entry). known w.records ++ map unknown_write es) none ∙ append-nil (known w.records);
}
