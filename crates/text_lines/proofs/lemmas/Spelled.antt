-- The lemmas that a reader of fields needs.
use Rattle.text_lines.proofs.lemmas.Numbers.{number_of-some}
use Rattle.text_lines.proofs.lemmas.Values.{value_of-some}

pub ruleset spelled = (number_of-some, value_of-some)
