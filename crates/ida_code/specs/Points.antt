-- Numbers as points of polynomials, with what their weights have in common.
use Rattle.std.specs.Prelude.{◌≡◌, ℕ, ◌<◌, List, length, slice_index}
use Rattle.gf_field.specs.Field.{total, inverse}
use Rattle.gf_field.specs.Polynomials.{AreElements, AreDistinct}
use Rattle.gf_field.specs.Interpolation.{others}

-- x + xs[l]
abbrev pub added : List ℕ → ℕ → ℕ → ℕ
added xs x l = total x (slice_index xs l)

-- for each point the inverse of the product of its sums with the others
pub record AreScales (xs scales : List ℕ) : Type 0 where
  pub len : length scales ≡ length xs
  pub each : (k : ℕ) → k < length xs → slice_index scales k ≡ inverse (others xs k (slice_index xs k))

-- different elements with their scales
pub record ArePoints (xs scales : List ℕ) : Type 0 where
  pub elements : AreElements xs
  pub distinct : AreDistinct xs
  pub scaled : AreScales xs scales
