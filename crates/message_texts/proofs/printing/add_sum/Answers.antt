use Rattle.std.proofs.Common.{◌++◌, ◌∙◌, List, ℕ, ap, arith}
use Rattle.hex.specs.Hex.{encode_lower, encode_with}
use Rattle.message_texts.proofs.lemmas.Printed.{next_digest, all_digests}
use Rattle.message_texts.proofs.printing.add_sum.Goals as goal

pub loop-i-init : goal.loop-i-init
unfolding encode_with
loop-i-init c = c.in_ok-add.ensures.ok

pub loop-i-preserved : goal.loop-i-preserved
loop-i-preserved c =
    c.in_ok-add_hex.ensures.ok ∙ ap (λ (d : List ℕ). c.loop-i.text ++ encode_lower d) c.as_slice.ensures
    ∙ next_digest c.args.text.now c.loop-i.text c.args.sum.now c.loop-i.i c.entry.result c.entry.ensures.value c.loop-i.invariant

pub returns : goal.returns
returns c = all_digests c.args.text.now c.loop-i.text c.args.sum.now c.loop-i.i (omega arith) c.loop-i.invariant
