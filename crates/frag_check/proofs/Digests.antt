-- Digests, one each.
use Rattle.std.proofs.Common.{◌≡◌, ℕ, ◌<◌, List, [], Some, length, get_or, map, ap, sym, ◌∙◌, arith}
use Rattle.std.specs.List.{slice_get}
use Rattle.std.proofs.lemmas.List.{ext_get_or, length-map, get_or-map}
use Rattle.std.proofs.lemmas.Option.{get_or_from_slice_get, slice_get-get_or}
use Rattle.cross_sum.specs.Digest.{digest}

pub same_digests : (shares sum : List (List ℕ)) → length shares ≡ length sum → ((k : ℕ) → k < length shares → slice_get sum k ≡ Some (digest (get_or shares k []))) → map digest shares ≡ sum
same_digests shares sum e h =
    let l = length-map shares digest in
    ext_get_or [] (map digest shares) sum (l ∙ e)
    (λ k hk. get_or-map digest shares k [] [] (omega arith) ∙ sym (get_or_from_slice_get sum k (digest (get_or shares k [])) [] (h k (omega arith))))

pub digest_at : (shares sum : List (List ℕ)) (k : ℕ) (share : List ℕ) → k < length shares → share ≡ get_or shares k share → map digest shares ≡ sum → slice_get sum k ≡ Some (digest share)
digest_at shares sum k share hk e h =
    let l = length-map shares digest in
    ap (λ s. slice_get s k) (sym h) ∙ slice_get-get_or (map digest shares) k [] (omega arith)
    ∙ ap Some (get_or-map digest shares k share [] hk ∙ ap digest (sym e))
