use Rattle.text_lines.proofs.lemmas.Joined.{parts-text_of_lines}
use Rattle.text_lines.proofs.laws.lines_come_apart.Goals as goal

pub returns : goal.returns
returns c = parts-text_of_lines
