-- That journals of a run in threads have lines, and how many.
use Rattle.std.specs.Prelude.{◌≡◌, ℕ, List, length}
use Rattle.protocol.specs.World.{World}
use Rattle.protocol.specs.Lines.{Line, IsRun}
use Rattle.journals.specs.Steps.{Conduct}
use Rattle.journals.specs.declared.whole.Journals.{Journals}
use Rattle.journals.specs.Journals.{setting_for, IsMerge, NumbersBelow, AreOfRun}

-- lines of the journals, and the last world of their run
pub record HasRun (j : Journals) : Type 0 where
  pub lines : List (ℕ × Line)
  pub last : World
  pub merge : IsMerge j lines
  pub run : IsRun (setting_for j) lines last

-- journals of a run have lines, which are a run
abbrev pub LinesAreThere : Type 0
LinesAreThere = (conduct : Conduct) (j : Journals) → AreOfRun conduct j → HasRun j

-- there are as many lines as numbers
abbrev pub LinesAreCounted : Type 0
LinesAreCounted = (j : Journals) (count : ℕ) (lines : List (ℕ × Line)) → NumbersBelow j count → IsMerge j lines → length lines ≡ count

-- and the last world has the place of that count
abbrev pub LastPlaceIsCount : Type 0
LastPlaceIsCount =
    (j : Journals) (count : ℕ) (lines : List (ℕ × Line)) (w : World)
    → NumbersBelow j count → IsMerge j lines → IsRun (setting_for j) lines w
    → w.place ≡ count
