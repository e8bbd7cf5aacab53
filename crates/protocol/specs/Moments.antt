-- The course of a run.
use Rattle.std.specs.Prelude.{◌≡◌, ℕ, List, ◌∷◌, ◌++◌}
use Rattle.protocol.specs.Setting.{Setting}
use Rattle.protocol.specs.World.{World}
use Rattle.protocol.specs.Lines.{Line, Run, IsRun, plays}

-- one of the lines has this place: those before it lead to the world `before`, it makes `then` of it, and those after it lead to the last
pub record IsLineAt (s : Setting) (lines : List (ℕ × Line)) (last : World) (place : ℕ) (before then : World) : Type 0 where
  pub front : List (ℕ × Line)
  pub line : Line
  pub rest : List (ℕ × Line)
  pub parts : lines ≡ front ++ (place, line) ∷ rest
  pub run : IsRun s front before
  pub on : Run s before ((place, line) ∷ rest) last
  pub made : then ≡ plays s before place line
