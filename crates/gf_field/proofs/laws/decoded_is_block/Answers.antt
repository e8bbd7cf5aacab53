use Rattle.gf_field.proofs.lemmas.Blocks as lemmas
use Rattle.gf_field.proofs.laws.decoded_is_block.Goals as goal

pub returns : goal.returns
returns c = lemmas.decoded_is_block
