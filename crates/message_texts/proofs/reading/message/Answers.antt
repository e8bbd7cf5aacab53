use Rattle.std.proofs.Common.{◌∙◌, ap}
use Rattle.std.proofs.lemmas.Result.{IfOk-weaker}
use Rattle.text_lines.specs.Lines.{texts}
use Rattle.message_texts.specs.Texts.{Spells, IsMessage, message_fields, text_of}
use Rattle.message_texts.proofs.lemmas.Fields.{text_spelled}
use Rattle.message_texts.proofs.reading.message.Goals as goal

pub returns : goal.returns
returns c =
    IfOk-weaker c.message_of.result (Spells IsMessage message_fields (texts c.as_slice.result.now)) (Spells IsMessage text_of c.args.text.now)
    (λ o h. text_spelled c.args.text.now o (rw (ap texts c.as_slice.ensures.value ∙ c.in_ok-fields.ensures) at h)) c.message_of.ensures
