use Rattle.std.proofs.Common.{◌≡◌}
use Rattle.text_lines.specs.Lines.{fields_of, texts}
use Rattle.event_lines.proofs.event.read_form.Goals as goal

pub returns-in_ok-fields-in-Some : goal.returns-in_ok-fields-in-Some
returns-in_ok-fields-in-Some c =
    let e : texts c.as_slice.result.now ≡ fields_of c.in-Some.rest.now = rw c.as_slice.ensures.value c.in_ok-fields-in-Some.ensures in
    rw (c.in-Some.is, ← e) c.read_fields.ensures
