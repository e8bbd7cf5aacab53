-- How far a text begins what a grammar has.
use Rattle.std.specs.Prelude.{◌≡◌, ℕ, ◌+◌, ◌≤◌, ◌<◌, List, ◌++◌, length, take}

-- the text goes on to one that the grammar has
abbrev pub Begins : (List ℕ → Type 0) → List ℕ → Type 0
Begins Is text = (more : List ℕ) × Is (text ++ more)

-- the first k bytes begin something that the grammar has, and no more of them do
pub record IsLongest (Is : List ℕ → Type 0) (text : List ℕ) (k : ℕ) : Type 0 where
  pub within : k ≤ length text
  pub begins : Begins Is (take k text)
  pub most : k < length text → ¬ Begins Is (take (k + 1) text)

-- first what one grammar has, then what the other has
abbrev pub Then : (List ℕ → Type 0) → (List ℕ → Type 0) → List ℕ → Type 0
Then First Rest text = (first : List ℕ) × (rest : List ℕ) × (text ≡ first ++ rest) × First first × Rest rest
