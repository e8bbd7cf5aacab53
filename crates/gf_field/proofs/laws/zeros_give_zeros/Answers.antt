use Rattle.gf_field.proofs.lemmas.Blocks as lemmas
use Rattle.gf_field.proofs.laws.zeros_give_zeros.Goals as goal

pub returns : goal.returns
returns c = lemmas.fragments_of-zeros
