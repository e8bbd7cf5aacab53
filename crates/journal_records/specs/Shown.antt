-- Which operations of a plan's clients a history has.
use Rattle.std.specs.Prelude.{◌≡◌, ◌⊎◌, ℕ, ◌+◌, ◌-◌, ◌^◌, ◌≤◌, false, List, length, slice_get}
use Rattle.std.specs.declared.option.Option.TheVariants.{Some}
use Rattle.std.specs.List.{Contains}
use Rattle.wire_forms.specs.Liars.{has_number}
use Rattle.block_device.specs.declared.steps.BlockStep.{BlockStep}
use Rattle.block_device.specs.declared.steps.BlockStep.TheVariants.{Read, Whole, Merge}
use Rattle.run_words.specs.declared.outcome.Outcome.TheVariants.{Spent}
use Rattle.protocol.specs.Operations.Work.{Reads, Writes}
use Rattle.protocol.specs.World.{World, Record}
use Rattle.protocol.specs.Lines.{Line, IsRun}
use Rattle.protocol.specs.History.{Entry, IsHistory}
use Rattle.protocol.specs.Report.{spent_writes}
use Rattle.protocol.specs.Bounds.{ceiling}
use Rattle.journals.specs.declared.desk.DeskAct.TheVariants.{Crash}
use Rattle.journals.specs.Desks.{Ended, new_desk, desk_after_all}
use Rattle.journals.specs.declared.whole.Journals.{Journals}
use Rattle.journals.specs.Journals.{setting_for, at_desk, IsMerge}
use Rattle.plan_words.specs.declared.plan.Plan.{Plan}
use Rattle.plan_followed.specs.Asked.{steps_for, client_crash}
use Rattle.plan_followed.specs.Clients.{times, asks}
use Rattle.plan_followed.specs.Followed.{AreOfPlan}

-- the operations that a client ended, in order
abbrev pub ended_by : Journals → ℕ → List Ended
ended_by j c = (desk_after_all (new_desk j.config c) (at_desk j c)).ended

-- the operation is that of the step: a merge writes some value
abbrev pub IsOf : BlockStep → Ended → Type 0
IsOf (Read block) x = (x.block ≡ block) × (x.work ≡ Reads)
IsOf (Whole block value) x = (x.block ≡ block) × (x.work ≡ Writes value)
IsOf (Merge block at bytes) x = (x.block ≡ block) × (value : List ℕ) × (x.work ≡ Writes value)

-- the entry is that of the client's operation, which has the places after the numbers of its start and its end
pub record IsEntryOf (c : ℕ) (x : Ended) (e : Entry) : Type 0 where
  pub client : e.client ≡ c
  pub block : e.block ≡ x.block
  pub start : e.start ≡ Some (x.start + 1)
  pub end : e.end ≡ Some (x.end + 1)

-- the client's operation stands in the history, or among the writes that ended as spent
abbrev pub IsShown : World → List Entry → ℕ → Ended → Type 0
IsShown w history c x =
    ((e : Entry) × Contains history e × IsEntryOf c x e)
    ⊎ Contains (spent_writes w.records) (record { client = c; start = x.start + 1; end = x.end + 1 })

-- the client crashed in the run: its journal has a crash
abbrev pub HasCrashed : Journals → ℕ → Type 0
HasCrashed j c = (n : ℕ) × Contains (at_desk j c) (record { number = n; act = Crash })

-- the client neither lies nor crashed in the run, whether or not the plan has a crash for it
abbrev pub IsSteady : Plan → Journals → ℕ → Type 0
IsSteady plan j c = (has_number plan.liars.clients c ≡ false) × (HasCrashed j c → ⊥)

-- each step of each steady client was done to its end, in order, and stands in the history or among the spent writes, as whatever a
-- correct client ended does; a client crashes only where the plan has it crash, after just so many asks; a write is spent only where
-- the times that liars sent leave it none
pub record IsComplete (plan : Plan) (j : Journals) (w : World) (history : List Entry) : Type 0 where
  pub all : (c : ℕ) → IsSteady plan j c → length (ended_by j c) ≡ length (steps_for plan.config c plan.work)
  pub each : (c k : ℕ) (step : BlockStep) (x : Ended) → IsSteady plan j c → slice_get (steps_for plan.config c plan.work) k ≡ Some step → slice_get (ended_by j c) k ≡ Some x → IsOf step x
  pub shown : (c : ℕ) (x : Ended) → has_number plan.liars.clients c ≡ false → Contains (ended_by j c) x → IsShown w history c x
  pub crashes : (c : ℕ) → has_number plan.liars.clients c ≡ false → HasCrashed j c → client_crash plan.rules c ≡ Some (times asks (at_desk j c))
  pub spent : (r : Record) → Contains w.records r → r.outcome ≡ Some Spent → 2 ^ 64 - 1 ≤ ceiling (setting_for j) w r.block

-- in journals of a run of a plan the run of the lines has a complete history
abbrev pub HistoriesAreComplete : Type 0
HistoriesAreComplete =
    (plan : Plan) (j : Journals) (drawn : ℕ) (lines : List (ℕ × Line)) (w : World) (history : List Entry)
    → AreOfPlan plan j drawn → IsMerge j lines → IsRun (setting_for j) lines w → IsHistory (setting_for j) w history
    → IsComplete plan j w history
