-- Thread states before their threads worked and after.
use Rattle.std.specs.Prelude.{◌≡◌, ℕ, List, length, slice_get}
use Rattle.std.specs.declared.option.Option.TheVariants.{Some}

-- two lists of one length, and each item is so to the other one at its place
pub record Beside {X Y : Type 0} (R : ℕ → X → Y → Type 0) (xs : List X) (ys : List Y) : Type 0 where
  pub count : length xs ≡ length ys
  pub each : (i : ℕ) (x : X) (y : Y) → slice_get xs i ≡ Some x → slice_get ys i ≡ Some y → R i x y
