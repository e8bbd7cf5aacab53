use Rattle.command_texts.proofs.Formed.{value_bytes}
use Rattle.command_texts.proofs.forms.form_value.Goals as goal

pub returns : goal.returns
returns c = value_bytes c.args.value.now c.as_slice-bytes.ensures.each
