-- How a cross checksum is kept.
use Rattle.std.specs.Prelude.{◌≡◌, ⊤, ℕ, List, Option, slice_get}
use Rattle.std.specs.declared.option.Option.TheVariants.{None, Some}
use Rattle.cross_sum.specs.Digest.{digest, verifier}
use Rattle.cross_sum.specs.declared.part.Part.{Part}
use Rattle.cross_sum.specs.declared.sum.Digests.{Digests}

-- each string has the digest at its place
abbrev pub HaveDigests : List (List ℕ) → List (List ℕ) → Type 0
HaveDigests strings digests = (i : ℕ) (s : List ℕ) → slice_get strings i ≡ Some s → slice_get digests i ≡ Some (digest s)

-- the string that stands beside digests, if one does, has the digest of its number
abbrev pub IsBeside : Option Part → List (List ℕ) → Type 0
IsBeside None digests = ⊤
IsBeside (Some part) digests = slice_get digests part.number ≡ Some (digest part.bytes)

-- the verifier is that of the digests, and the strings have these
pub record IsKept (kept : Digests) : Type 0 where
  pub verified : kept.verifier ≡ verifier kept.digests.items
  pub known : HaveDigests kept.strings kept.digests.items
  pub beside : IsBeside kept.beside kept.digests.items
