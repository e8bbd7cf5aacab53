-- The law is a lemma of `Kept`, at the setting of a cluster.
use Rattle.protocol.proofs.lemmas.Kept.{run_working}
use Rattle.protocol.proofs.lemmas.Cluster.{cluster_valid}
use Rattle.protocol.specs.Instance.{setting_of}
use Rattle.protocol.proofs.laws.tasks.Goals as goal

pub returns : goal.returns
returns a = λ c nodes clients good lines w run. run_working (setting_of c nodes clients) lines w (cluster_valid c nodes clients good) run
