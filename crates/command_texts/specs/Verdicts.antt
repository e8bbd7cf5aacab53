-- What `check` writes of a report.
use Rattle.std.specs.Prelude.{◌≡◌, ℕ, List, [], ◌∷◌, codes, decimal, Option}
use Rattle.std.specs.declared.option.Option.TheVariants.{None, Some}
use Rattle.text_lines.specs.Lines.{line_of_fields, text_of_lines}
use Rattle.line_forms.specs.Texts.{IsFaultless}
use Rattle.history_making.specs.declared.entry.Entry.{Entry}
use Rattle.history_book.specs.declared.judging.FlawKind.{FlawKind}
use Rattle.history_book.specs.declared.judging.FlawKind.TheVariants.{Value, Time}
use Rattle.history_book.specs.declared.judging.Flaw.{Flaw}
use Rattle.history_making.specs.Books.{Book}
use Rattle.history_book.specs.Judging.{IsLegal, IsInTime, TellsFirstFlaw}
use Rattle.history_book.specs.Reports.{report_text}
use Rattle.history_book.specs.ReportTexts.{IsReport, report}

-- the history is one of plain registers and in time; or this is its first flaw, and it isn't
abbrev pub IsVerdict : List Entry → Option Flaw → Type 0
IsVerdict entries None = IsLegal entries × IsInTime entries
IsVerdict entries (Some flaw) = TellsFirstFlaw entries flaw × (IsLegal entries × IsInTime entries → ⊥)

-- the word of a kind of flaw
abbrev pub flaw_word : FlawKind → List ℕ
flaw_word Value = codes "value"
flaw_word Time = codes "time"

-- the fields of the line that tells it
abbrev pub verdict_fields : Option Flaw → List (List ℕ)
verdict_fields None = codes "legal" ∷ []
verdict_fields (Some flaw) = codes "illegal" ∷ flaw_word flaw.kind ∷ decimal flaw.first ∷ decimal flaw.second ∷ []

-- `legal`, or `illegal`, the kind of the flaw and the places of its two entries from 1
abbrev pub verdict_text : Option Flaw → List ℕ
verdict_text flaw = text_of_lines (line_of_fields (verdict_fields flaw) ∷ [])

-- the input is the report of a history, and the text tells what is judged of it
pub record Judges (input text : List ℕ) (flaw : Option Flaw) : Type 0 where
  pub book : Book
  pub told : IsReport book
  pub spelled : input ≡ report_text book
  pub faultless : IsFaultless report input
  pub verdict : IsVerdict book.entries flaw
  pub shown : text ≡ verdict_text flaw
