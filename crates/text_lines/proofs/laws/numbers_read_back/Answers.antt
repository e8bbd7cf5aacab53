use Rattle.text_lines.proofs.lemmas.Numbers.{number_of-decimal}
use Rattle.text_lines.proofs.laws.numbers_read_back.Goals as goal

pub returns : goal.returns
returns c = number_of-decimal
