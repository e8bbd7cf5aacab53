use Rattle.std.proofs.Common.{◌≡◌, ◌+◌, ◌*◌, ◌<◌, ℕ, length, take, drop, get_or, ap, sym, ◌∙◌, arith}
use Rattle.std.proofs.lemmas.List.{same_lists, get_or_default}
use Rattle.std.proofs.lemmas.Simd.{get_or-chunk, length-chunk}
use Rattle.sha2.specs.Sha256.{padded_message}
use Rattle.digest_lanes.proofs.four.padded_block.Goals as goal

pub returns : goal.returns
returns c =
    let p = padded_message c.args.message.now in
    let n : ℕ = c.args.i * 64 in
    let out = c.bytes.block in
    let l : length (take 64 (drop n p)) ≡ 64 = length-chunk n 64 p (omega (arith, c.requires)) in
    same_lists out (take 64 (drop n p)) (c.bytes.invariant.0 ∙ sym l) (λ k d h.
    let lt : k < 64 = omega (arith, c.bytes.invariant.0) in
    let at : 64 * c.args.i + k ≡ n + k = omega arith in
    get_or_default out k d 0 h ∙ c.bytes.invariant.1 k (omega arith) ∙ ap (λ x. get_or p x 0) at
    ∙ sym (get_or-chunk n 64 p k 0 lt) ∙ get_or_default (take 64 (drop n p)) k 0 d (omega arith))
