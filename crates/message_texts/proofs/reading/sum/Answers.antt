use Rattle.std.proofs.Common.{sym, ◌∙◌, arith}
use Rattle.message_texts.proofs.lemmas.Spelling.{sum_needs_value, sum_of_other_length, sum_spelled}
use Rattle.message_texts.proofs.reading.sum.Goals as goal
use Rattle.message_texts.proofs.reading.sum.Goals.{then-len-ne0-via-then-len-ne0, then-len-ne0-via-else-len-ne0+then-len-gt1024}

pub returns-in_default : goal.returns-in_default
returns-in_default c = sum_needs_value c.args.field.now (sym c.in_ok-bytes.ensures ∙ c.in_default.is)

pub returns-then-len-ne0 : goal.returns-then-len-ne0
returns-then-len-ne0 c =
    sum_of_other_length c.args.field.now c.in-Some.bytes (sym c.in_ok-bytes.ensures ∙ c.in-Some.is)
    (λ k e few. elim c.then-len-ne0.branch [ then-len-ne0-via-then-len-ne0 w ↦ omega arith | then-len-ne0-via-else-len-ne0+then-len-gt1024 w ↦ omega arith ])

pub returns : goal.returns
returns c = let h = c.in_ok-digests.ensures in sum_spelled c.args.field.now c.in-Some.bytes c.in_ok-digests.field-0 (sym c.in_ok-bytes.ensures ∙ c.in-Some.is) (h.flat ∙ c.as_slice.ensures.value) h.each (omega arith)
