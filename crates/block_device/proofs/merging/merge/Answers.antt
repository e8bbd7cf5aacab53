use Rattle.std.proofs.Common.{◌+◌, ◌∙◌, arith}
use Rattle.std.proofs.lemmas.Result.{IfOk-weaker}
use Rattle.block_device.proofs.lemmas.Merges.{merged_parts}
use Rattle.block_device.proofs.merging.merge.Goals as goal

pub returns-clause-value : goal.returns-clause-value
returns-clause-value c =
    IfOk-weaker c.shared.result _ _ (λ value h. h
    ∙ merged_parts c.args.old.now c.args.bytes.now c.args.at (c.args.at + c.len-2.result) _ _ _ _ _ _ _ c.as_slice.ensures.value c.as_slice-2.ensures.value (omega arith) c.tail.ensures.value
    c.in_ok-value.ensures.items c.in_ok-extend_from_slice.ensures.items c.in_ok-extend_from_slice-2.ensures.items c.in_ok-extend_from_slice-3.ensures.items) c.shared.ensures
