use Rattle.merge_trace.proofs.Tracing.{few_nodes, all_fitting}
use Rattle.merge_trace.proofs.laws.kept_journals.Goals as goal

pub returns-clause-nodes : goal.returns-clause-nodes
returns-clause-nodes c = few_nodes

pub returns-clause-fits : goal.returns-clause-fits
returns-clause-fits c = all_fitting c.fitting_lines.ensures
