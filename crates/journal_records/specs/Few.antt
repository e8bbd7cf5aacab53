-- How many records a plan's run has, and how many rounds.
use Rattle.std.specs.Prelude.{ℕ, ◌^◌, ◌<◌, ◌≤◌, List, length, sum_by}
use Rattle.protocol.specs.World.{Record}
use Rattle.protocol.specs.Report.{rounds_of}
use Rattle.journals.specs.declared.whole.Journals.{Journals}
use Rattle.plan_words.specs.declared.plan.Plan.{Plan}
use Rattle.plan_followed.specs.Followed.{AreOfPlan}
use Rattle.journal_records.specs.Records.{AreAllRecords}

-- the records of a plan's run are fewer than 2^31, and their rounds fewer than 2^64, where no more numbers were drawn than a clock has
abbrev pub RecordsFitHistory : Type 0
RecordsFitHistory =
    (plan : Plan) (j : Journals) (drawn : ℕ) (records : List Record)
    → AreOfPlan plan j drawn → drawn ≤ 2 ^ 56 → AreAllRecords j records
    → (length records < 2 ^ 31) × (sum_by (λ r. rounds_of r.outcome) records < 2 ^ 64)
