use Rattle.slab_node.proofs.Rewriting.{renewals, written_renewals}
use Rattle.slab_node.proofs.laws.renewals_renew.Goals as goal

pub returns-clause-whole : goal.returns-clause-whole
returns-clause-whole c = written_renewals

pub returns-clause-cut_off : goal.returns-clause-cut_off
returns-clause-cut_off c = renewals
