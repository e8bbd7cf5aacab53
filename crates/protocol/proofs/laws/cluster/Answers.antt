-- The law is a lemma of `Cluster`.
use Rattle.protocol.proofs.lemmas.Cluster.{cluster_valid}
use Rattle.protocol.proofs.laws.cluster.Goals as goal

pub returns : goal.returns
returns a = cluster_valid
