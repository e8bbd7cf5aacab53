-- The law's clauses are lemmas of `Executing`.
use Rattle.protocol.specs.Instance.{setting_of}
use Rattle.block_phases.proofs.lemmas.Executing.{operations_begin, operations_go_on, operations_cut_off, outcomes_know_no_liars, cut_offs_know_no_liars}
use Rattle.block_phases.proofs.operations.Goals as goal

pub returns : goal.returns
returns a = record {
  begin = λ n nodes clients good. operations_begin (setting_of n nodes clients);
  go_on = λ n nodes clients good. operations_go_on (setting_of n nodes clients);
  cut_off = λ n nodes clients good. operations_cut_off (setting_of n nodes clients);
  no_liars = λ n nodes clients good. outcomes_know_no_liars (setting_of n nodes clients);
  no_liars_cut_off = λ n nodes clients good. cut_offs_know_no_liars (setting_of n nodes clients);
}
