use Rattle.event_lines.proofs.lemmas.Accepted.{event_accepted}
use Rattle.event_lines.proofs.lemmas.Unique.{one_event}
use Rattle.event_lines.proofs.laws.event_lines_have_one_text.Goals as goal

pub returns-clause-accepted : goal.returns-clause-accepted
returns-clause-accepted c = event_accepted

pub returns-clause-one : goal.returns-clause-one
returns-clause-one c = one_event
