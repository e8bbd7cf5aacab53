-- Parts whose digests are known.
use Rattle.std.specs.Prelude.{◌≡◌, ℕ, List, slice_get}
use Rattle.std.specs.declared.option.Option.TheVariants.{Some}
use Rattle.std.specs.List.{Contains}
use Rattle.cross_sum.specs.Digest.{digest}
use Rattle.cross_sum.specs.declared.part.Part.{Part}

-- the cross checksum has the part's digest at the part's number
abbrev pub HasItsDigest : List (List ℕ) → Part → Type 0
HasItsDigest sum p = slice_get sum p.number ≡ Some (digest p.bytes)

-- one of the parts has this number and these bytes
pub record IsAmong (parts : List Part) (number : ℕ) (bytes : List ℕ) : Type 0 where
  pub part : Part
  pub there : Contains parts part
  pub numbered : part.number ≡ number
  pub has : part.bytes ≡ bytes
