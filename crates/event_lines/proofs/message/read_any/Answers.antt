use Rattle.event_lines.proofs.Messages.{message_read, no_message}
use Rattle.event_lines.proofs.message.read_any.Goals as goal

pub returns-in-Ok : goal.returns-in-Ok
returns-in-Ok c = rw c.in-Some.is (message_read c.in-Some.text.now c.in-Ok.message c.in-Ok.ensures.ok.0 c.in-Ok.ensures.ok.1)

pub returns-in-Err-At : goal.returns-in-Err-At
returns-in-Err-At c =
    let refused = rw c.in-Err-At.field-0-is at c.in-Err-At.ensures.refused in
    rw c.in-Some.is (no_message c.in-Some.text.now refused.0)
