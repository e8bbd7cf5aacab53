-- The header of a slab: 40 bytes.
use Rattle.std.specs.Prelude.{◌≡◌, ◌<◌, ◌^◌, ℕ, List, [], ◌∷◌, ◌++◌}
use Rattle.std.specs.Int.{w32, w64, to_be_bytes}
use Rattle.quorum_rules.specs.Limits.{Numbers, IsValid, edition_number}
use Rattle.sqlite_disk.specs.Digest.{digest}

-- "PASISLAB"
abbrev pub magic : List ℕ
magic = 80 ∷ 65 ∷ 83 ∷ 73 ∷ 83 ∷ 76 ∷ 65 ∷ 66 ∷ []

-- what the check of a header covers: that this is a slab, the configuration, the number of the node, and the key
abbrev pub header_front : Numbers → ℕ → ℕ → List ℕ
header_front c number key =
    magic ++ (edition_number c.edition ∷ c.n ∷ c.t ∷ c.b ∷ c.qc ∷ c.m ∷ number ∷ 0 ∷ [])
    ++ to_be_bytes w32 c.size ++ to_be_bytes w32 c.blocks ++ to_be_bytes w64 key

-- the bytes of a header
abbrev pub header_bytes : Numbers → ℕ → ℕ → List ℕ
header_bytes c number key = header_front c number key ++ to_be_bytes w64 (digest key (header_front c number key))

-- a header of a node that there is
pub record IsHeader (c : Numbers) (number key : ℕ) (bytes : List ℕ) : Type 0 where
  pub valid : IsValid c
  pub below : number < c.n
  pub fits : key < 2 ^ 64
  pub written : bytes ≡ header_bytes c number key
