-- The law's clauses are lemmas of `Sessions` and `Replacing`.
use Rattle.store_device.proofs.Sessions.{lives_begin, nodes_lost, nodes_rebuilt, nodes_gone, nodes_back, nodes_fail, nodes_changed}
use Rattle.store_device.proofs.Replacing.{nodes_replaced}
use Rattle.store_device.proofs.laws.nodes_are_rebuilt.Goals as goal

pub returns : goal.returns
returns a = record {
  begin = λ c. lives_begin c;
  lost = λ c. nodes_lost c;
  rebuilt = λ c. nodes_rebuilt c;
  replaced = λ c. nodes_replaced c;
  gone = λ c. nodes_gone c;
  back = λ c. nodes_back c;
  fail = λ c. nodes_fail c;
  changed = λ c. nodes_changed c;
}
