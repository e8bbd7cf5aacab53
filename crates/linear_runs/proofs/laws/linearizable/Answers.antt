-- The law is a lemma of `Runs`, by the laws of the protocol.
use Rattle.linear_runs.proofs.lemmas.Runs.{history_linearizable, takes_time}
use Rattle.linear_runs.proofs.Unknown.{agree_on}
use Rattle.linear_runs.proofs.Whole.{one_order}
use Rattle.protocol.specs.Instance.{setting_of}
use Rattle.protocol.specs.Setting.{zeros}
use Rattle.linear_runs.specs.Of.{operations}
use Rattle.linear_runs.proofs.laws.linearizable.Goals as goal

pub returns-clause-by_block : goal.returns-clause-by_block
returns-clause-by_block c = λ n nodes clients good lines w run apart.
    let s = setting_of n nodes clients in
    let has = c.one_history.ensures.some n nodes clients good lines w run in
    history_linearizable s w (c.records.ensures.starts n nodes clients good lines w run) (c.records.ensures.told n nodes clients good lines w run) (c.one_history.ensures.of_writes n nodes clients good lines w run)
    has.0 has.1 (agree_on s w (c.one_history.ensures.values n nodes clients good lines w run) apart)
    (c.safety.ensures.legal n nodes clients good lines w run has.0 apart has.1) (c.safety.ensures.in_time n nodes clients good lines w run has.0 apart has.1)

pub returns-clause-as_one : goal.returns-clause-as_one
returns-clause-as_one c = λ n nodes clients good lines w run apart.
    let s = setting_of n nodes clients in
    one_order (zeros s) (operations s w) (takes_time s w (c.records.ensures.told n nodes clients good lines w run)) (returns-clause-by_block c n nodes clients good lines w run apart)
