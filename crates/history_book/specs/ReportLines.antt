-- The lines of a report, one by one.
use Rattle.std.specs.Prelude.{◌≡◌, ◌==◌, ℕ, List, [], ◌∷◌, ◌++◌, Option, if◌then◌else◌}
use Rattle.std.specs.declared.option.Option.TheVariants.{None, Some}
use Rattle.history_making.specs.declared.entry.Entry.{Entry as EntryRecord}
use Rattle.history_making.specs.declared.entry.Spent.{Spent as SpentRecord}
use Rattle.history_book.specs.declared.reading.ReportLine.{ReportLine}
use Rattle.history_book.specs.declared.reading.ReportLine.TheVariants.{Entry, Spent, End}
use Rattle.line_forms.specs.declared.cause.Cause.{Cause}
use Rattle.line_forms.specs.declared.cause.Cause.TheVariants.{Empty, MissingLine}
use Rattle.history_making.specs.declared.entry.Counts.{Counts}
use Rattle.history_book.specs.Reports.{entry_fields, spent_fields, end_fields}
use Rattle.history_book.specs.ReportTexts.{entry_told, spent_told, MayFollow, MayFollowSpent, AreCounts}

abbrev pub line_fields : ReportLine → List (List ℕ)
line_fields (Entry e) = entry_fields e
line_fields (Spent x) = spent_fields x
line_fields (End counts) = end_fields counts

-- the line may stand after these entries and spent writes
abbrev pub MayStand : List EntryRecord → List SpentRecord → ReportLine → Type 0
MayStand entries spent (Entry e) = MayFollow entries e × (spent ≡ [])
MayStand entries spent (Spent x) = MayFollowSpent spent x
MayStand entries spent (End counts) = AreCounts entries spent counts

-- the fields spell the line's entry or spent write
abbrev pub IsToldBy : List (List ℕ) → ReportLine → Type 0
IsToldBy fields (Entry e) = entry_told fields ≡ Some e
IsToldBy fields (Spent x) = spent_told fields ≡ Some x
IsToldBy fields (End counts) = Unit {0}

-- what these become by one more line, and the counts of an end line
abbrev pub IsAdded : ReportLine → List EntryRecord → List SpentRecord → List EntryRecord → List SpentRecord → Option Counts → Type 0
IsAdded (Entry e) entries spent entries_after spent_after ended = (ended ≡ None) × (entries_after ≡ entries ++ e ∷ []) × (spent_after ≡ spent)
IsAdded (Spent x) entries spent entries_after spent_after ended = (ended ≡ None) × (entries_after ≡ entries) × (spent_after ≡ spent ++ x ∷ [])
IsAdded (End counts) entries spent entries_after spent_after ended = (ended ≡ Some counts) × (entries_after ≡ entries) × (spent_after ≡ spent)

-- the cause where the line with this number is needed and nothing is left
abbrev pub missing_at : ℕ → Cause
missing_at number = if number == 1 then Empty else MissingLine
