-- What was read of the input.
use Rattle.std.specs.Prelude.{◌≡◌, ℕ, ◌<◌, Bool, List, [], ◌++◌, length, Option, true, false}
use Rattle.std.specs.Io.KnownBytes.{Consumes, IsAtEnd}

-- bytes were read behind those at hand; none where the input has ended
pub record HasRead (old new : List ℕ) (left left_after : Option (List ℕ)) (more : Bool) : Type 0 where
  pub bytes : List ℕ
  pub gave : Consumes left left_after bytes
  pub behind : new ≡ old ++ bytes
  pub some : more ≡ true → 0 < length bytes
  pub ended : more ≡ false → (bytes ≡ []) × IsAtEnd left_after
