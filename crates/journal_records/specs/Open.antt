-- Which operations the records without an outcome are of, in the last world of any run.
use Rattle.std.specs.Prelude.{◌≡◌, ◌⊎◌, ℕ, ◌≤◌, false}
use Rattle.std.specs.declared.option.Option.TheVariants.{None, Some}
use Rattle.std.specs.List.{Contains}
use Rattle.protocol.specs.Setting.{Setting}
use Rattle.protocol.specs.Operations.{Task}
use Rattle.protocol.specs.World.{World, Record, open_record}

-- a record without an outcome is of what its client has under way, or the client came back
abbrev pub RecordsTellTasks : World → Type 0
RecordsTellTasks w =
    (r : Record) → Contains w.records r → r.outcome ≡ None
    → ((task : Task) × (w.task r.client ≡ Some task) × (r ≡ open_record r.client task)) ⊎ (1 ≤ w.life r.client)

-- what a client has under way has its record, also where the client has crashed
abbrev pub TasksAreRecorded : World → Type 0
TasksAreRecorded w = (client : ℕ) (task : Task) → w.task client ≡ Some task → Contains w.records (open_record client task)

-- each record is of a correct client
abbrev pub RecordsAreOfCorrect : Setting → World → Type 0
RecordsAreOfCorrect s w = (r : Record) → Contains w.records r → s.lying_client r.client ≡ false
