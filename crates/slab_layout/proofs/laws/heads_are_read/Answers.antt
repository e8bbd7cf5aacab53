use Rattle.slab_layout.proofs.lemmas.Codec.{head_of_bytes}
use Rattle.slab_layout.proofs.laws.heads_are_read.Goals as goal

pub returns : goal.returns
returns c = head_of_bytes
