use Rattle.std.proofs.Common.{◌∙◌, ap, arith, ◌+◌, ◌*◌, length}
use Rattle.std.proofs.lemmas.Slice.{between_to_end}
use Rattle.slot_disk.specs.Slots.{digests}
use Rattle.slot_disk.proofs.body.read_version.Goals as goal

pub returns : goal.returns
returns c =
    let body = c.args.body.now in
    let sum = c.in_ok-sum.ensures ∙ ap (digests c.args.nodes) (between_to_end body 49 (length body) (omega arith)) in
    let fragment = c.in_ok-fragment.ensures ∙ between_to_end body (49 + 32 * c.args.nodes) (length body) (omega arith) in
    λ i. record { stamp = c.read_stamp.ensures i; sum = sum i; fragment = fragment i }
