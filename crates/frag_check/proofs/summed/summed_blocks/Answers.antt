use Rattle.std.proofs.Common.{◌∙◌, ap, sym, map, map-id, take_all, arith}
use Rattle.std.proofs.lemmas.Iterator.{items_from_drains, YieldsList-from_zip}
use Rattle.std.proofs.lemmas.Iterator.Adapters.{YieldsList-from_vec}
use Rattle.std.proofs.lemmas.Iterator.Consumers.{YieldsList-at}
use Rattle.gf_field.specs.Fragments.{fragments_of}
use Rattle.cross_sum.specs.Digest.{digest}
use Rattle.frag_check.proofs.Pairs.{paired, pairs_are_of}
use Rattle.frag_check.proofs.summed.summed_blocks.Goals as goal

pub returns : goal.returns
returns c = (
    let shares = c.loop-block.shares in
    let sums = c.in_ok-sums.sums in
    let code = c.args.code.now in
    let blocks = c.args.blocks.now in
    let second = c.zip-shares-items.ensures.second in
    let road = YieldsList-at c.into_iter-shares-iterator.ensures.into_iter_gives
    (YieldsList-from_zip
    (YieldsList-at c.zip-shares-items.ensures.first (YieldsList-from_vec {s = c.into_iter.result} shares.items c.into_iter.ensures.rest (c.into_iter.ensures.len ∙ shares.ok.0)))
    (YieldsList-from_vec {s = c.zip-shares-items.result.b} sums.items second.0 (second.1 ∙ sums.ok.0))) in
    let all = items_from_drains c.loop-shares.yielded (c.loop-shares.shares-iterator, c.loop-shares.yielded_by, λ _. (c.next.new.self, c.in-None.ensures.steps)) road in
    let every = c.loop-block.invariant ∙ ap (map (fragments_of code.n code.m)) (take_all c.loop-block.block-index blocks (let over = c.loop-block-test.false in omega (arith, over))) in
    c.loop-shares.invariant ∙ ap (map paired) (sym (map-id c.loop-shares.yielded) ∙ all) ∙ pairs_are_of code.n code.m blocks shares.items sums.items every (c.in_ok-sums.ensures ∙ ap (map (map digest)) c.deref.ensures.value)
    )
