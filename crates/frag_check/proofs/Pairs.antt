-- Fragments beside their cross checksums.
use Rattle.std.proofs.Common.{◌≡◌, ℕ, List, [], ◌∷◌, map, zip, refl, ap, ◌∙◌}
use Rattle.gf_field.specs.Fragments.{fragments_of}
use Rattle.cross_sum.specs.Digest.{digest}
use Rattle.frag_check.specs.declared.summed.Summed.{Summed}
use Rattle.frag_check.specs.Summing.{summed_of}

abbrev pub paired : List (List ℕ) × List (List ℕ) → Summed
paired p = record { shares = p.0; sum = p.1 }

-- each block's fragments and digests, paired, are those that are made of it
pub pairs_are : (n m : ℕ) (blocks : List (List ℕ)) → map paired (zip (map (fragments_of n m) blocks) (map (map digest) (map (fragments_of n m) blocks))) ≡ map (summed_of n m) blocks
pairs_are n m [] = refl
pairs_are n m (block ∷ blocks) = ap (λ l. summed_of n m block ∷ l) (pairs_are n m blocks)

pub pairs_are_of : (n m : ℕ) (blocks : List (List ℕ)) (shares : List (List (List ℕ))) (sums : List (List (List ℕ))) → shares ≡ map (fragments_of n m) blocks
    → sums ≡ map (map digest) shares → map paired (zip shares sums) ≡ map (summed_of n m) blocks
pairs_are_of n m blocks shares sums e f = ap (λ s. map paired (zip shares s)) f ∙ ap (λ s. map paired (zip s (map (map digest) s))) e ∙ pairs_are n m blocks
