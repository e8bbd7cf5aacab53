-- What holds of plans, and of journals that follow them.
use Rattle.std.specs.Prelude.{◌≡◌, ℕ, ◌==◌, if◌then◌else◌, List, [], ◌∷◌, ◌++◌, fold, replicate, unwrap_or, Option}
use Rattle.std.specs.declared.option.Option.TheVariants.{None, Some}
use Rattle.wire_forms.specs.declared.op.Op.TheVariants.{Write}
use Rattle.block_device.specs.declared.steps.BlockStep.TheVariants.{Merge}
use Rattle.block_device.specs.Device.{merged}
use Rattle.block_device.specs.Latest.{value_given}
use Rattle.block_device.specs.Ops.{op_of}
use Rattle.wire_forms.specs.Liars.{has_number, AreLiars}
use Rattle.protocol.specs.Instance.{IsCluster}
use Rattle.plan_words.specs.declared.plan.Plan.{Plan}
use Rattle.plan_words.specs.Plans.{Fits}
use Rattle.journals.specs.declared.desk.DeskEntry.{DeskEntry}
use Rattle.journals.specs.Desks.{DeskState, Ended}
use Rattle.journals.specs.Records.{client_records}
use Rattle.journals.specs.Steps.{IsConduct}
use Rattle.journals.specs.declared.whole.Journals.{Journals}
use Rattle.journals.specs.Journals.{AreOfRun}
use Rattle.journals.specs.Phases.{ArePhased}
use Rattle.plan_followed.specs.Asked.{conduct_of}
use Rattle.plan_followed.specs.Clients.{InEach, GoesByPlan}
use Rattle.plan_followed.specs.Followed.{AreOfPlan}

-- the law holds of each plan that fits
abbrev pub OfPlans : (Plan → Type 0) → Type 0
OfPlans law = (plan : Plan) → Fits plan → law plan

-- who lies is who the plan declares lying, and no liar crashes
abbrev pub HasConduct : Plan → Type 0
HasConduct plan = IsConduct (has_number plan.liars.nodes) (conduct_of plan.rules)

-- the lying nodes are nodes, at most b of them, and the lying clients are numbered from 1 to 1000
abbrev pub HasLiars : Plan → Type 0
HasLiars plan = AreLiars plan.config plan.liars

-- the cluster is valid, and few of its nodes lie
abbrev pub HasCluster : Plan → Type 0
HasCluster plan = IsCluster plan.config (has_number plan.liars.nodes)

-- in journals of a run of a plan the prunes stand in phases
abbrev pub PlansPhase : Type 0
PlansPhase = (plan : Plan) (j : Journals) (drawn : ℕ) (h : AreOfPlan plan j drawn) → ArePhased (conduct_of plan.rules) j h.follows.phases

-- journals of a run of a plan are those of a run in threads, so that all that is known of these and of their lines holds of them
abbrev pub PlansRun : Type 0
PlansRun = (plan : Plan) (j : Journals) (drawn : ℕ) → AreOfPlan plan j drawn → AreOfRun (conduct_of plan.rules) j

-- where each entry goes by the plan, and one more does, each of all of them does
abbrev pub OneMore : Type 0
OneMore =
    (plan : Plan) (c : ℕ) (es : List DeskEntry) (e : DeskEntry) → InEach (GoesByPlan plan c) es → GoesByPlan plan c es e.act
    → InEach (GoesByPlan plan c) (es ++ e ∷ [])

-- what an operation that ended showed its client of a block: the value, if it is a read of the block that gave one
abbrev pub shown_by : ℕ → Ended → Option (List ℕ)
shown_by block x = if x.block == block then value_given (Some x.outcome) else None

-- what a client has seen of a block of this size when these operations have ended, one after another: zeros at first
abbrev pub seen_after : ℕ → ℕ → List Ended → List ℕ
seen_after size block ended = fold (λ seen x. unwrap_or (shown_by block x) seen) (replicate size 0) ended

-- a merge puts its bytes into what the client's operations that ended have shown of the block, whatever it has under way
abbrev pub MergesIntoSeen : Type 0
MergesIntoSeen =
    (size client : ℕ) (d : DeskState) (block at : ℕ) (bytes : List ℕ)
    → op_of size client (client_records client d) (Merge block at bytes) ≡ Write block (merged (seen_after size block d.ended) at bytes)
