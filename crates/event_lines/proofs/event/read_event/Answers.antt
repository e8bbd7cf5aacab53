use Rattle.std.proofs.Common.{sym}
use Rattle.event_lines.specs.Rests.{fields_after}
use Rattle.event_lines.specs.declared.word.LineWord.TheVariants.{Form, Speech}
use Rattle.event_lines.proofs.Events.{line_read}
use Rattle.event_lines.proofs.event.read_event.Goals as goal

pub returns-in-Some-Form : goal.returns-in-Some-Form
returns-in-Some-Form c =
    let found = rw c.in-Some-Form.field-0-is at c.in-Some-Form.ensures in
    line_read c.args.config.now c.args.line.now c.first_word.result.0.now (fields_after c.first_word.result.1) (Form c.in-Some-Form.form) c.read_form.result c.first_word.ensures (sym found) c.read_form.ensures

pub returns-in-Some-Speech : goal.returns-in-Some-Speech
returns-in-Some-Speech c =
    let found = rw c.in-Some-Speech.field-0-is at c.in-Some-Speech.ensures in
    line_read c.args.config.now c.args.line.now c.first_word.result.0.now (fields_after c.first_word.result.1) (Speech c.in-Some-Speech.speech) c.read_speech.result c.first_word.ensures (sym found)
    (c.read_speech.ensures c.args.config.now)
