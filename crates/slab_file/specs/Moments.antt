-- How the moments of a file go on.
use Rattle.std.specs.Prelude.{◌⊎◌, ◌≤◌, ℕ, List}

-- Time goes on in a call: a crash since a moment t before it could leave what it could leave then, or what it may leave now, and nothing that could be left is forgotten.
pub record Elapses {F : Type 0} (moment : F → ℕ) (left_since : F → ℕ → List ℕ → Type 0) (may_leave : F → List ℕ → Type 0) (old new : F) : Type 0 where
  pub later : moment old ≤ moment new
  pub nothing_else : (t : ℕ) (bytes : List ℕ) → t ≤ moment old → left_since new t bytes → left_since old t bytes ⊎ may_leave new bytes
  pub remembers : (t : ℕ) (bytes : List ℕ) → t ≤ moment old → left_since old t bytes → left_since new t bytes
