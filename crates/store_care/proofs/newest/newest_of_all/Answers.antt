use Rattle.std.proofs.Common.{◌≡◌, ◌+◌, ◌-◌, ℕ, List, [], ◌∷◌, ◌++◌, map, Option, Vec, Global, sym, ap, ◌∙◌, arith}
use Rattle.std.specs.List.{range_with_len}
use Rattle.std.proofs.lemmas.List.{map_push}
use Rattle.std.proofs.lemmas.List.FromFn.{map-range_with_len_more}
use Rattle.protocol.specs.Messages.{Version}
use Rattle.store_device.specs.Stores.{SeenStore}
use Rattle.store_care.specs.Holdings.{newest_of}
use Rattle.store_care.proofs.newest.newest_of_all.Goals as goal

pub loop-block-preserved : goal.loop-block-preserved
loop-block-preserved g c =
    let first = c.args.first in
    let block = c.loop-block.block in
    let store = c.args.store.now in
    let inv = c.loop-block.invariant in
    let newest = c.in_ok-newest.newest in
    let items = λ (v : Vec (Option Version) Global). v.items in
    let more : block - first + 1 ≡ block + 1 - first = omega (arith, inv.begun) in
    record {
      same = c.newest_of.ensures.same ∙ inv.same;
      begun = omega (arith, inv.begun);
      newest = ap (map items) c.in_ok-push.ensures.items ∙ map_push items c.loop-block.all.items newest
          ∙ ap (λ (vs : List (List (Option Version))). vs ++ newest.items ∷ []) inv.newest
          ∙ ap (λ (v : List (Option Version)). map (newest_of store) (range_with_len first (block - first)) ++ v ∷ [])
          (c.in_ok-newest.ensures.newest ∙ ap (λ (s : SeenStore _). newest_of s block) inv.same)
          ∙ sym (map-range_with_len_more (newest_of store) first (block - first) block (omega (arith, inv.begun)))
          ∙ ap (λ (n : ℕ). map (newest_of store) (range_with_len first n)) more;
    }
