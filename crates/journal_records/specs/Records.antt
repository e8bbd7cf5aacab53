-- The records of a run, as its correct clients' journals tell them.
use Rattle.std.specs.Prelude.{◌≡◌, ℕ, false, List, map}
use Rattle.std.specs.List.{Contains}
use Rattle.protocol.specs.World.{World, Record}
use Rattle.protocol.specs.Lines.{Line, IsRun}
use Rattle.protocol.specs.Report.{Ascend}
use Rattle.journals.specs.declared.desk.DeskJournal.{DeskJournal}
use Rattle.journals.specs.Steps.{Conduct}
use Rattle.journals.specs.Records.{records_in}
use Rattle.journals.specs.declared.whole.Journals.{Journals}
use Rattle.journals.specs.Journals.{setting_for, IsMerge, AreOfRun}

-- the record is one of a correct client of the journals
pub record IsDeskRecord (j : Journals) (r : Record) : Type 0 where
  pub desk : DeskJournal
  pub there : Contains j.desks desk
  pub correct : (setting_for j).lying_client desk.client ≡ false
  pub told : Contains (records_in j.config desk) r

-- the records are those of all correct clients of the journals, by start
pub record AreAllRecords (j : Journals) (records : List Record) : Type 0 where
  pub ascend : Ascend (map (λ r. r.start) records)
  pub all : (r : Record) → IsDeskRecord j r → Contains records r
  pub only : (r : Record) → Contains records r → IsDeskRecord j r

-- the last world of a run in threads has all records of its clients' journals
abbrev pub WorldsHaveAllRecords : Type 0
WorldsHaveAllRecords =
    (conduct : Conduct) (j : Journals) (lines : List (ℕ × Line)) (w : World)
    → AreOfRun conduct j → Ascend (map (λ d. d.client) j.desks) → IsMerge j lines → IsRun (setting_for j) lines w
    → AreAllRecords j w.records

-- so its records are any list of all records
abbrev pub RecordsAreThose : Type 0
RecordsAreThose =
    (conduct : Conduct) (j : Journals) (lines : List (ℕ × Line)) (w : World) (records : List Record)
    → AreOfRun conduct j → Ascend (map (λ d. d.client) j.desks) → IsMerge j lines → IsRun (setting_for j) lines w
    → AreAllRecords j records
    → w.records ≡ records
