use Rattle.std.proofs.Common.{subst}
use Rattle.message_texts.specs.Texts.{IsBytes}
use Rattle.command_texts.proofs.forms.form_digest.Goals as goal

pub returns : goal.returns
returns c = record { count = c.form_count.ensures; bytes = subst IsBytes c.as_slice.ensures c.form_bytes.ensures }
