use Rattle.std.proofs.Common.{◌≡◌, ◌∷◌}
use Rattle.wire_forms.specs.declared.message.Message.{Message}
use Rattle.message_texts.specs.Texts.{IsMessage, message_fields}
use Rattle.event_lines.specs.Lines.{IsSpelled}
use Rattle.event_lines.specs.Rests.{fields_after}
use Rattle.event_lines.specs.Words.{speech_text}
use Rattle.event_lines.specs.Forms.{message_cause, messages_of}
use Rattle.event_lines.proofs.Messages.{speech_refused, given_on}
use Rattle.event_lines.proofs.message.read_speech.Goals as goal

pub returns-in_err-message : goal.returns-in_err-message
returns-in_err-message c = λ numbers.
    let fields = fields_after c.args.rest in
    let refusal = c.in_err-message.field-0.0 in
    given_on (IsSpelled numbers (speech_text c.args.speech ∷ fields)) (message_cause (messages_of c.args.speech) fields) c.from_residual.result refusal c.from_residual.ensures.1
    (speech_refused (λ (m : Message). IsMessage m × (message_fields m ≡ fields)) (IsSpelled numbers (speech_text c.args.speech ∷ fields)) c.args.speech fields refusal c.in_err-message.ensures)
