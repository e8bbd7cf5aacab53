-- The law is a lemma of `Forming`, at the setting of a cluster.
use Rattle.protocol.proofs.lemmas.Forming.{formed_reply}
use Rattle.protocol.proofs.lemmas.Cluster.{cluster_valid}
use Rattle.protocol.specs.Instance.{setting_of}
use Rattle.protocol.proofs.laws.false_replies.Goals as goal

pub returns : goal.returns
returns a = λ c nodes clients good. formed_reply (setting_of c nodes clients) (cluster_valid c nodes clients good)
