-- The law's clauses are lemmas of `Ending`, since the setting of a cluster is valid.
use Rattle.protocol.specs.Instance.{setting_of}
use Rattle.block_phases.proofs.Ending.{operations_are_asked, phases_end}
use Rattle.block_phases.proofs.endings.Goals as goal

pub returns : goal.returns
returns a = record {
  begin = λ n nodes clients good. operations_are_asked (setting_of n nodes clients);
  phases = λ n nodes clients good. phases_end (setting_of n nodes clients) (a.cluster.ensures n nodes clients good);
}
