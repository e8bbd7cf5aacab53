-- Which line of a text is wrong, and why.
use Rattle.std.specs.Prelude.{ℕ, ◌≡◌, ◌≤◌, ◌<◌, ◌-◌, Bool, true, false, not, ◌&&◌, List, [], ◌∷◌, ◌++◌, length, take, drop, Option, Some, None}
use Rattle.text_lines.specs.Lines.{parts_of}
use Rattle.line_forms.specs.Tables.{first_of}
use Rattle.line_forms.specs.declared.cause.Cause.{Cause}
use Rattle.line_forms.specs.declared.cause.Cause.TheVariants.{Empty, Cut, MissingLine}
use Rattle.line_forms.specs.declared.refusal.ScriptRefusal.{ScriptRefusal}
use Rattle.line_forms.specs.declared.refusal.ScriptRefusal.TheVariants.{NoMemory, Fault}

-- a kind of texts
pub record Grammar : Type 0 where
  -- what is wrong with a line that stands after these lines
  pub cause : List (List ℕ) → List ℕ → Option Cause
  -- whether a text may end after these lines
  pub may_end : List (List ℕ) → Bool

abbrev pub is_empty : {A : Type 0} → List A → Bool
is_empty [] = true
is_empty (x ∷ xs) = false

-- the causes where a text ends after these lines, with what stands after its last newline
abbrev pub end_causes : Grammar → List (List ℕ) → List ℕ → List (Bool × Cause)
end_causes g before rest =
    (is_empty before && is_empty rest, Empty)
    ∷ (not (is_empty rest), Cut)
    ∷ (not (g.may_end before), MissingLine)
    ∷ []

-- the cause where a line is needed and there is no newline
abbrev pub ended : Cause → List ℕ → Cause
ended missing [] = missing
ended missing (c ∷ rest) = Cut

-- what is wrong after these lines, where the other parts of the text are its next lines and, as the last
-- part, what stands after the last newline
abbrev pub part_cause : Grammar → List (List ℕ) → List (List ℕ) → Option Cause
part_cause g before [] = None
part_cause g before (rest ∷ []) = first_of (end_causes g before rest)
part_cause g before (line ∷ next ∷ more) = g.cause before line

-- what is wrong with a text after its first lines, so many of them
abbrev pub cause_after : Grammar → List ℕ → ℕ → Option Cause
cause_after g text lines = part_cause g (take lines (parts_of text)) (drop lines (parts_of text))

-- the first line that has a cause, counted from 1, and its first cause
pub record IsFault (g : Grammar) (text : List ℕ) (line : ℕ) (cause : Cause) : Type 0 where
  pub counted : 1 ≤ line
  pub here : cause_after g text (line - 1) ≡ Some cause
  pub none_before : (k : ℕ) → k < line - 1 → cause_after g text k ≡ None

-- no line has a cause
abbrev pub IsFaultless : Grammar → List ℕ → Type 0
IsFaultless g text = (k : ℕ) → cause_after g text k ≡ None

-- a fault is the text's, and want of memory may come at any text
abbrev pub IsRefusal : Grammar → List ℕ → ScriptRefusal → Type 0
IsRefusal g text NoMemory = Unit {0}
IsRefusal g text (Fault fault) = IsFault g text fault.line fault.cause

-- the text begins with these lines, none of which has a cause, and the rest stands after them
pub record ReadsTo (g : Grammar) (text : List ℕ) (lines : List (List ℕ)) (rest : List ℕ) : Type 0 where
  pub parts : parts_of text ≡ lines ++ parts_of rest
  pub well : (k : ℕ) → k < length lines → cause_after g text k ≡ None
