use Rattle.text_lines.proofs.lemmas.Values.{value_of-text}
use Rattle.text_lines.proofs.laws.values_read_back.Goals as goal

pub returns : goal.returns
returns c = value_of-text
