-- Digests of strings, and of lists of digests.
use Rattle.std.specs.Prelude.{ℕ, List}
use Rattle.std.specs.List.{flat_map}
use Rattle.sha2.specs.Sha256.{sha256}

-- the SHA-256 of a string
abbrev pub digest : List ℕ → List ℕ
digest s = sha256 s

-- the digests of a cross checksum in one string
abbrev pub flat : List (List ℕ) → List ℕ
flat S = flat_map (λ d. d) S

-- the verifier of a cross checksum
abbrev pub verifier : List (List ℕ) → List ℕ
verifier S = digest (flat S)
