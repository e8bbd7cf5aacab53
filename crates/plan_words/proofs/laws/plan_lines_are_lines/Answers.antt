use Rattle.plan_words.proofs.lemmas.Texts.{fields_back, one_line}
use Rattle.plan_words.proofs.laws.plan_lines_are_lines.Goals as goal

pub returns-clause-apart : goal.returns-clause-apart
returns-clause-apart c = fields_back

pub returns-clause-no_newline : goal.returns-clause-no_newline
returns-clause-no_newline c = one_line
