use Rattle.gf_field.proofs.lemmas.Blocks as lemmas
use Rattle.gf_field.proofs.laws.fragments_are_strings.Goals as goal

pub returns : goal.returns
returns c = lemmas.fragments_are_strings
