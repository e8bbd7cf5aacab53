use Rattle.gf_field.proofs.lemmas.FieldLaws as lemmas
use Rattle.gf_field.proofs.laws.no_zero_divisors.Goals as goal

pub returns : goal.returns
returns c = lemmas.product-eq-zero
