-- The law's clauses are lemmas of `Crashes`, by the laws of the protocol.
use Rattle.linear_runs.proofs.Crashes.{kept, cut_off}
use Rattle.linear_runs.proofs.laws.durable.Goals as goal

pub returns : goal.returns
returns c = record {
  durable = λ n nodes clients good any w again lines run apart. record {
    linearizable = c.linearizable.ensures.by_block n nodes clients good lines w run apart;
    cut_off = cut_off n nodes clients good c.runs.ensures c.records.ensures.starts c.records.ensures.told c.later_worlds.ensures.begun c.later_worlds.ensures.ended c.later_worlds.ensures.cut_off lines w run;
  };
  kept = λ n nodes clients good lines w run.
      kept n nodes clients good c.runs.ensures c.records.ensures.starts c.records.ensures.told c.later_worlds.ensures.begun c.later_worlds.ensures.ended c.later_worlds.ensures.cut_off lines w run;
}
