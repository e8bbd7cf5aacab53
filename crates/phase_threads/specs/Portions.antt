-- Things that are dealt out, one to each portion.
use Rattle.std.specs.Prelude.{◌≡◌, ℕ, List, [], ◌∷◌, ◌++◌, length, slice_get}
use Rattle.std.specs.declared.option.Option.TheVariants.{Some}

-- each portion got the thing at its place
pub record AreDealt {A : Type 0} (old : List (List A)) (things : List A) (new : List (List A)) : Type 0 where
  pub count : length new ≡ length old
  pub each : (k : ℕ) (was now : List A) (x : A) → slice_get old k ≡ Some was → slice_get new k ≡ Some now → slice_get things k ≡ Some x → now ≡ was ++ x ∷ []
