-- A table of causes, and what reading a line answers by it.
use Rattle.std.specs.Prelude.{ℕ, ◌≡◌, Bool, List, [], ◌∷◌, Option, Some, None, Result, Ok, Err, if◌then◌else◌}
use Rattle.line_forms.specs.declared.cause.Cause.{Cause}
use Rattle.line_forms.specs.declared.refusal.LineRefusal.{LineRefusal}
use Rattle.line_forms.specs.declared.refusal.LineRefusal.TheVariants as line_refusals
use Rattle.line_forms.specs.declared.refusal.ScriptRefusal.{ScriptRefusal}
use Rattle.line_forms.specs.declared.refusal.ScriptRefusal.TheVariants as script_refusals

-- the first cause whose test holds
abbrev pub first_of : List (Bool × Cause) → Option Cause
first_of [] = None
first_of (test ∷ more) = if test.0 then Some test.1 else first_of more

-- the second cause where there is no first
abbrev pub or_then : Option Cause → Option Cause → Option Cause
or_then (Some cause) later = Some cause
or_then None later = later

-- an answer without a cause is as it should be, and a refusal is this cause or the want of memory
abbrev pub Gives : {X : Type 0} → (X → Type 0) → Option Cause → Result X LineRefusal → Type 0
Gives Is cause (Ok x) = (cause ≡ None) × Is x
Gives Is cause (Err line_refusals.NoMemory) = Unit {0}
Gives Is cause (Err (line_refusals.Cause c)) = cause ≡ Some c

-- a line's refusal, told of its text
abbrev pub refused_at : ℕ → LineRefusal → ScriptRefusal
refused_at line line_refusals.NoMemory = script_refusals.NoMemory
refused_at line (line_refusals.Cause cause) = script_refusals.Fault (record { line = line; cause = cause })
