use Rattle.event_lines.proofs.lemmas.Accepted.{event_apart}
use Rattle.event_lines.proofs.lemmas.Lines.{one_line, no_liar, event_printed}
use Rattle.event_lines.proofs.laws.event_lines_are_lines.Goals as goal

pub returns-clause-apart : goal.returns-clause-apart
returns-clause-apart c = event_apart

pub returns-clause-no_newline : goal.returns-clause-no_newline
returns-clause-no_newline c = one_line

pub returns-clause-no_liar : goal.returns-clause-no_liar
returns-clause-no_liar c = no_liar

pub returns-clause-printed : goal.returns-clause-printed
returns-clause-printed c = event_printed
