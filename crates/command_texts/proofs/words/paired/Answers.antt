use Rattle.command_texts.proofs.WordForms.{is_word, no_number_no_form, number_form}
use Rattle.command_texts.proofs.words.paired.Goals as goal

pub returns-in_err-number-clause-none : goal.returns-in_err-number-clause-none
returns-in_err-number-clause-none c =
    rw c.from_residual.ensures (no_number_no_form c.args.word.now c.args.second.now c.as_bytes.result.now (is_word c.args.word.now _ c.if-ne.ensures) c.as_bytes.ensures.value c.in_err-number.ensures)

pub returns-clause-some : goal.returns-clause-some
returns-clause-some c = number_form c.args.word.now c.args.second.now c.as_bytes.result.now c.in_ok-number.field-0 (is_word c.args.word.now _ c.if-ne.ensures) c.as_bytes.ensures.value c.in_ok-number.ensures
