use Rattle.std.proofs.Common.{◌≡◌, ◌<◌, length, replicate, None, sym, ◌∙◌, arith}
use Rattle.std.proofs.lemmas.List.{length-replicate, ext_get_or}
use Rattle.protocol.proofs.lemmas.Seeing.{at_replicate}
use Rattle.operation_core.proofs.answers.clear.Goals as goal

pub returns : goal.returns
returns c =
    let n = length c.args.answers.now.items in
    let size : length (replicate n None) ≡ n = length-replicate n None in
    ext_get_or None c.loop-i.answers.items (replicate n None) (c.loop-i.invariant.size ∙ sym size) (λ i l. c.loop-i.invariant.none i (let m : i < n = omega (arith, l, c.loop-i.invariant.size) in omega (arith, m)) ∙ sym (at_replicate n None i))
