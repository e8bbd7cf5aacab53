-- The digests of several blocks in one list: those of the first block, and then those of the others.
use Rattle.std.proofs.Common.{◌≡◌, ℕ, ◌+◌, ◌<◌, List, [], ◌++◌, length, map, take, drop, get_or, ap, ◌∙◌, take_at, drop_at}
use Rattle.std.proofs.lemmas.List.{map-append, length-map, drop_more}
use Rattle.std.specs.List.{flat_map}
use Rattle.cross_sum.specs.Digest.{digest}

-- the digests of all blocks from one on
abbrev pub digests_from : ℕ → List (List (List ℕ)) → List (List ℕ)
digests_from i blocks = map digest (flat_map (λ b. b) (drop i blocks))

parted : (blocks : List (List (List ℕ))) (i : ℕ) → i < length blocks → digests_from i blocks ≡ map digest (get_or blocks i []) ++ digests_from (i + 1) blocks
parted blocks i there = ap (λ l. map digest (flat_map (λ b. b) l)) (drop_more blocks i [] there) ∙ map-append digest (get_or blocks i []) (flat_map (λ b. b) (drop (i + 1) blocks))

pub first_block : (blocks : List (List (List ℕ))) (i : ℕ) (rest : List (List ℕ)) → i < length blocks → rest ≡ digests_from i blocks
    → take (length (get_or blocks i [])) rest ≡ map digest (get_or blocks i [])
first_block blocks i rest there is = ap (take (length (get_or blocks i []))) (is ∙ parted blocks i there)
    ∙ take_at (map digest (get_or blocks i [])) (digests_from (i + 1) blocks) (length (get_or blocks i [])) (length-map (get_or blocks i []) digest)

pub other_blocks : (blocks : List (List (List ℕ))) (i : ℕ) (rest : List (List ℕ)) → i < length blocks → rest ≡ digests_from i blocks
    → drop (length (get_or blocks i [])) rest ≡ digests_from (i + 1) blocks
other_blocks blocks i rest there is = ap (drop (length (get_or blocks i []))) (is ∙ parted blocks i there)
    ∙ drop_at (map digest (get_or blocks i [])) (digests_from (i + 1) blocks) (length (get_or blocks i [])) (length-map (get_or blocks i []) digest)
