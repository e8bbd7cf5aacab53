-- What the records of a plan's run are where no client lies or crashed.
use Rattle.std.specs.Prelude.{◌≡◌, ℕ, ◌<◌, List, [], ◌∷◌}
use Rattle.std.specs.List.{Contains, AllByRecursion}
use Rattle.protocol.specs.World.{World, Record}
use Rattle.protocol.specs.Lines.{Line, IsRun}
use Rattle.journals.specs.Desks.{Ended}
use Rattle.journals.specs.Agreement.{ended_record}
use Rattle.journals.specs.declared.whole.Journals.{Journals}
use Rattle.journals.specs.Journals.{setting_for, IsMerge}
use Rattle.plan_words.specs.declared.plan.Plan.{Plan}
use Rattle.plan_followed.specs.Followed.{AreOfPlan}
use Rattle.journal_records.specs.Shown.{ended_by, IsSteady}

-- no client lies or crashed in the run
abbrev pub AllSteady : Plan → Journals → Type 0
AllSteady plan j = (c : ℕ) → IsSteady plan j c

-- each operation ended before those behind it started
abbrev pub ComeInTurn : List Ended → Type 0
ComeInTurn [] = Unit {0}
ComeInTurn (x ∷ xs) = AllByRecursion (λ y. x.end < y.start) xs × ComeInTurn xs

-- the records of the run are those of the operations that its clients ended, each client's one after another
pub record AreSteady (j : Journals) (w : World) : Type 0 where
  pub own : (r : Record) → Contains w.records r → (x : Ended) × Contains (ended_by j r.client) x × (r ≡ ended_record r.client x)
  pub there : (c : ℕ) (x : Ended) → Contains (ended_by j c) x → Contains w.records (ended_record c x)
  pub turns : (c : ℕ) → ComeInTurn (ended_by j c)

-- in journals of a run of a plan whose clients are all steady, no operation of the lines' run is left open
abbrev pub RecordsAreSteady : Type 0
RecordsAreSteady =
    (plan : Plan) (j : Journals) (drawn : ℕ) (lines : List (ℕ × Line)) (w : World)
    → AreOfPlan plan j drawn → IsMerge j lines → IsRun (setting_for j) lines w → AllSteady plan j
    → AreSteady j w
