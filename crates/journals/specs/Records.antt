-- The records that journals tell.
use Rattle.std.specs.Prelude.{◌≡◌, ℕ, ◌+◌, List, [], ◌∷◌, ◌++◌, map, Option}
use Rattle.std.specs.declared.option.Option.TheVariants.{None, Some}
use Rattle.quorum_rules.specs.Limits.{Numbers}
use Rattle.protocol.specs.Operations.{Task}
use Rattle.protocol.specs.World.{Record, open_record}
use Rattle.protocol.specs.Seen.{started_task}
use Rattle.journals.specs.declared.desk.DeskJournal.{DeskJournal}
use Rattle.journals.specs.declared.whole.Journals.{Journals}
use Rattle.journals.specs.Desks.{DeskState, new_desk, desk_after_all}
use Rattle.journals.specs.Agreement.{ended_record}

-- the record of an operation under way, if there is one
abbrev pub record_of_task : ℕ → Option Task → List Record
record_of_task c None = []
record_of_task c (Some task) = open_record c task ∷ []

-- the record of what the client has under way, if anything: places count lines from 1, and numbers count from 0
abbrev pub open_records : ℕ → DeskState → List Record
open_records c d = record_of_task c (started_task (d.began + 1) d.client.seen.task)

-- the records of a client: of the operations that it ended, in order, and of the one that it left open
abbrev pub client_records : ℕ → DeskState → List Record
client_records c d = map (ended_record c) d.ended ++ open_records c d

-- the client after its whole journal
abbrev pub last_desk : Numbers → DeskJournal → DeskState
last_desk config d = desk_after_all (new_desk config d.client) d.entries

-- the records that a client's journal tells
abbrev pub records_in : Numbers → DeskJournal → List Record
records_in config d = client_records d.client (last_desk config d)

-- those of all these journals, one client's after another's
abbrev pub told_records : Numbers → List DeskJournal → List Record
told_records config [] = []
told_records config (d ∷ ds) = records_in config d ++ told_records config ds

-- the records are those that the journals of the clients tell, one client's after another's
abbrev pub AreTold : Journals → List Record → Type 0
AreTold j records = records ≡ told_records j.config j.desks
