use Rattle.version_disk.proofs.Compacting.{alike}
use Rattle.version_disk.proofs.laws.compacted_answers_alike.Goals as goal

pub returns : goal.returns
returns a = alike
