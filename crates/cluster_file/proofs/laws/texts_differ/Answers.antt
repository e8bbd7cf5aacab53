use Rattle.cluster_file.proofs.Printed.{one_membership}
use Rattle.cluster_file.proofs.laws.texts_differ.Goals as goal

pub returns : goal.returns
returns c = one_membership
