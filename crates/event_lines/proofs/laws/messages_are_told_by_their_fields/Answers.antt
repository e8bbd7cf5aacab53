use Rattle.event_lines.proofs.Messages.{ask_texts, answer_texts}
use Rattle.event_lines.proofs.laws.messages_are_told_by_their_fields.Goals as goal

pub returns-clause-asks : goal.returns-clause-asks
returns-clause-asks c = ask_texts

pub returns-clause-answers : goal.returns-clause-answers
returns-clause-answers c = answer_texts
