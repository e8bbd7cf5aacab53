use Rattle.gf_field.proofs.lemmas.Blocks as lemmas
use Rattle.gf_field.proofs.laws.ascending_fragments_decode.Goals as goal

pub returns : goal.returns
returns c = lemmas.ascending_fragments_decode
