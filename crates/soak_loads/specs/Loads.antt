-- Runs of plans in which each block has one client, first of all of those that numbers make.
use Rattle.std.specs.Prelude.{◌≡◌, ℕ, ◌≤◌, false, List, length}
use Rattle.std.specs.declared.option.Option.TheVariants.{None}
use Rattle.wire_forms.specs.Liars.{has_number}
use Rattle.std.specs.List.{AllByRecursion}
use Rattle.protocol.specs.Setting.{Setting, first_stamp}
use Rattle.protocol.specs.World.{World}
use Rattle.protocol.specs.Lines.{Line, IsRun}
use Rattle.protocol.specs.History.{Entry, NoClash}
use Rattle.history_making.specs.Books.{Book}
use Rattle.history_making.specs.Tellings.{Tells}
use Rattle.soak_loads.specs.Soaks.{soak_text}
use Rattle.protocol.specs.Seen.{block_of}
use Rattle.soak_loads.specs.Plain.{deeds_of, plain_text}
use Rattle.plan_words.specs.declared.job.Job.{Job}
use Rattle.plan_words.specs.declared.job.Job.TheVariants.{Block, Device, Phase}
use Rattle.plan_words.specs.declared.plan.Plan.{Plan}
use Rattle.soak_loads.specs.MadePlans.{plan_of}
use Rattle.journals.specs.declared.whole.Journals.{Journals}
use Rattle.journals.specs.Journals.{setting_for, IsMerge}
use Rattle.plan_followed.specs.Asked.{client_crash}
use Rattle.plan_followed.specs.Followed.{AreOfPlan}

-- an operation by the client that its block has, or the end of a phase
abbrev pub IsByOwner : (ℕ → ℕ) → Job → Type 0
IsByOwner owner (Block client op) = client ≡ owner (block_of op)
IsByOwner owner (Device client op) = ⊥
IsByOwner owner Phase = Unit {0}

-- the client neither lies nor is to crash
abbrev pub IsReliable : Plan → ℕ → Type 0
IsReliable plan c = (has_number plan.liars.clients c ≡ false) × (client_crash plan.rules c ≡ None)

-- no client lies or is to crash, and each block has one client, who does all operations on it
pub record HasOwners (plan : Plan) : Type 0 where
  pub reliable : (c : ℕ) → IsReliable plan c
  pub owner : ℕ → ℕ
  pub owned : AllByRecursion (IsByOwner owner) plan.work

-- the law holds of each run of the plan, whatever turns its threads took, and of the book that tells it
abbrev pub InEachRunOf : Plan → (Setting → World → Book → Type 0) → Type 0
InEachRunOf plan law =
    (j : Journals) (drawn : ℕ) (lines : List (ℕ × Line)) (w : World) (h : List Entry) (book : Book)
    → AreOfPlan plan j drawn
    → IsMerge j lines
    → IsRun (setting_for j) lines w
    → Tells w.records (first_stamp (setting_for j)) h book
    → law (setting_for j) w book

-- so many operations are done, and no write is spent
abbrev pub HasDone : ℕ → Setting → World → Book → Type 0
HasDone count s w book = (book.counts.done ≡ count) × (book.counts.spent ≡ 0)

-- where no two strings that were seen clash, the line is that of the plan's operations done one after another on plain registers
abbrev pub HasPlainLine : ℕ → Plan → Setting → World → Book → Type 0
HasPlainLine number plan s w book = NoClash s w → soak_text number book ≡ plain_text number plan

-- all operations of a plan whose blocks have owners are done
abbrev pub OwnersAreDone : Type 0
OwnersAreDone =
    (plan : Plan)
    → HasOwners plan
    → InEachRunOf plan (HasDone (length (deeds_of plan.work)))

-- and the line is the plain one
abbrev pub OwnersArePlain : Type 0
OwnersArePlain =
    (number : ℕ) (plan : Plan)
    → HasOwners plan
    → InEachRunOf plan (HasPlainLine number plan)

-- so it is where a number makes the plan
abbrev pub LoadsAreDone : Type 0
LoadsAreDone =
    (number clients ops : ℕ)
    → 1 ≤ clients
    → InEachRunOf (plan_of number clients ops) (HasDone ops)

abbrev pub LoadsArePlain : Type 0
LoadsArePlain =
    (number clients ops : ℕ)
    → 1 ≤ clients
    → let plan = plan_of number clients ops in InEachRunOf plan (HasPlainLine number plan)
