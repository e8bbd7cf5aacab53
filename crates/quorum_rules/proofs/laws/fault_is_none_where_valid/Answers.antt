use Rattle.quorum_rules.proofs.lemmas.FaultLaws.{fault-valid}
use Rattle.quorum_rules.proofs.laws.fault_is_none_where_valid.Goals as goal

pub returns : goal.returns
returns c = fault-valid
