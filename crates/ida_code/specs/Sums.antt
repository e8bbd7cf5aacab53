-- The cross checksum and the verifier of a block.
use Rattle.std.specs.Prelude.{ℕ, List, map}
use Rattle.cross_sum.specs.Digest.{digest, verifier}
use Rattle.gf_field.specs.Fragments.{fragments_of}

-- the digest of each fragment of the block D
abbrev pub sum_of : ℕ → ℕ → List ℕ → List (List ℕ)
sum_of n m D = map digest (fragments_of n m D)

-- the verifier of the block's cross checksum
abbrev pub verifier_of : ℕ → ℕ → List ℕ → List ℕ
verifier_of n m D = verifier (sum_of n m D)
