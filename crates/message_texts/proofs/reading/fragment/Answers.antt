use Rattle.std.proofs.Common.{sym, ◌∙◌, arith}
use Rattle.message_texts.proofs.lemmas.Spelling.{fragment_needs_value, fragment_too_long, fragment_spelled}
use Rattle.message_texts.proofs.reading.fragment.Goals as goal

pub returns-in_default : goal.returns-in_default
returns-in_default c = fragment_needs_value c.args.field.now (sym c.in_ok-bytes.ensures ∙ c.in_default.is)

pub returns-then-len-gt16384 : goal.returns-then-len-gt16384
returns-then-len-gt16384 c = fragment_too_long c.args.field.now c.in-Some.bytes (sym c.in_ok-bytes.ensures ∙ c.in-Some.is) (omega arith)

pub returns : goal.returns
returns c = fragment_spelled c.args.field.now c.in-Some.bytes (sym c.in_ok-bytes.ensures ∙ c.in-Some.is) (omega arith)
