use Rattle.text_lines.proofs.lemmas.Joined.{parts-joined}
use Rattle.text_lines.proofs.laws.fields_come_apart.Goals as goal

pub returns : goal.returns
returns c = parts-joined 32
