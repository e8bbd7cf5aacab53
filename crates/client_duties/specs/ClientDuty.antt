-- When the threads of clients do what the plan says.
use Rattle.std.specs.Prelude.{◌≡◌, ◌⊎◌, ℕ, ◌+◌, ◌-◌, ◌%◌, ◌<◌, ◌≤◌, true, false, List, [], ◌++◌, length, take, count_by, All, Option, slice_get, slice_set}
use Rattle.std.specs.declared.option.Option.TheVariants.{None, Some}
use Rattle.block_device.specs.declared.steps.BlockStep.{BlockStep}
use Rattle.block_device.specs.Steps.{Fits}
use Rattle.quorum_rules.specs.Limits.{IsValid}
use Rattle.protocol.specs.Messages.{Tag}
use Rattle.protocol.specs.Seen.{SeenTask, ops_of, phase_of}
use Rattle.plan_words.specs.declared.plan.Plan.{Plan}
use Rattle.plan_words.specs.Named.{is_phase}
use Rattle.journals.specs.declared.desk.DeskEntry.{DeskEntry}
use Rattle.locked_nodes.specs.declared.cell_shard.CellShard.{CellShard}
use Rattle.locked_nodes.specs.CellShards.{IsWholeAt}
use Rattle.journals.specs.declared.desk.Way.{Way}
use Rattle.client_desks.specs.Desks.{DeskView, state_at, task_at}
use Rattle.plan_followed.specs.Asked.{steps_for, first_phases, drops, holds, client_crash, messages}
use Rattle.plan_followed.specs.Clients.{InEach, GoesByPlan, IsDone, IsCutOff, times, starts, asks, asks_of, all_asked, way_of, last_of, turn_after}
use Rattle.client_duties.specs.declared.task.Ways.{Ways}
use Rattle.client_duties.specs.Phases.{all_steps}
use Rattle.client_duties.specs.Tasks.{IsSendable}
use Rattle.client_duties.specs.declared.work.ClientDuty.{ClientDuty}
use Rattle.client_duties.specs.declared.work.ClientDuty.TheVariants.{Client, Lying}
use Rattle.client_duties.specs.declared.correct_client.CorrectClient.{CorrectClient}
use Rattle.client_duties.specs.declared.liar.Liar.{Liar}

-- ---- a correct client

-- what is left of the asks to a node that are dropped, and of the next ones that are held, after so many asks
abbrev pub ways_left : ℕ → ℕ → ℕ → Ways
ways_left drops holds before = record { drops = drops - before; holds = holds - (before - drops) }

-- how many asks are left
abbrev pub asks_left : ℕ → Option ℕ → Option ℕ
asks_left before None = None
asks_left before (Some count) = Some (count - before)

-- how many phases are done, where these are left
abbrev pub phase_in : Plan → List (List BlockStep) → ℕ
phase_in plan phases = count_by is_phase plan.work + 1 - length phases

abbrev pub phase_at : CorrectClient → ℕ
phase_at w = phase_in w.plan.value w.phases.items

-- a client's steps of the first phases of a plan's work, and all of them
abbrev pub steps_of_first : Plan → ℕ → ℕ → List BlockStep
steps_of_first plan c k = steps_for plan.config c (first_phases k plan.work)

abbrev pub every_step : Plan → ℕ → List BlockStep
every_step plan c = steps_for plan.config c plan.work

-- the phases that are left have a client's steps that are left; all are few, and on the cluster's blocks
pub record HasSteps (plan : Plan) (c : ℕ) (phases : List (List BlockStep)) : Type 0 where
  pub fewer : length phases ≤ count_by is_phase plan.work + 1
  pub next : (k : ℕ) → steps_of_first plan c (phase_in plan phases + k) ≡ steps_of_first plan c (phase_in plan phases) ++ all_steps (take k phases)
  pub all : every_step plan c ≡ steps_of_first plan c (phase_in plan phases) ++ all_steps phases
  pub few : length (every_step plan c) ≤ 4000
  pub fit : All (All (Fits plan.config)) phases

module _ (w : CorrectClient) where
  -- the desk is the correct client's, in the plan's valid cluster
  pub record IsItsDesk (d : DeskView) : Type 0 where
    pub valid : IsValid w.plan.value.config
    pub same : w.config ≡ w.plan.value.config
    pub config : d.config ≡ w.plan.value.config
    pub id : d.id ≡ w.client
    pub correct : d.lying ≡ false

  -- what the thread counts is what the journal tells
  pub record Counts (es : List DeskEntry) : Type 0 where
    pub nodes : length w.ways ≡ w.plan.value.config.n
    pub ways : (i : ℕ) → i < w.plan.value.config.n → slice_get w.ways i ≡ Some (ways_left (drops w.plan.value.rules w.client i) (holds w.plan.value.rules w.client i) (times (asks_of i) es))
    pub left : w.crash_after ≡ asks_left (times asks es) (client_crash w.plan.value.rules w.client)
    pub few : (count : ℕ) → client_crash w.plan.value.rules w.client ≡ Some count → times asks es ≤ count

  -- the client went by the plan so far, and the thread counted it
  pub record Goes (d : DeskView) : Type 0 where
    pub its : IsItsDesk d
    pub acts : InEach (GoesByPlan w.plan.value w.client) d.entries
    pub counts : Counts d.entries

  -- the client did the phases that it has done, or crashed on the way
  pub record Stands (d : DeskView) : Type 0 where
    pub goes : Goes d
    pub done : IsDone w.plan.value w.client (steps_of_first w.plan.value w.client (phase_at w)) d.entries
    pub steps : HasSteps w.plan.value w.client w.phases.items

-- a node that is to hold back asks of the client stands in one cell
abbrev pub HoldsWhole : CorrectClient → List CellShard → Type 0
HoldsWhole w cell_shards = (node : ℕ) → 0 < holds w.plan.value.rules w.client node → IsWholeAt cell_shards node

-- the worker is of the same plan and client
pub record IsSame (old new : CorrectClient) : Type 0 where
  pub plan : new.plan.value ≡ old.plan.value
  pub client : new.client ≡ old.client

-- a worker that has a phase to do
pub record IsReady (w : CorrectClient) (d : DeskView) : Type 0 where
  pub stands : Stands w d
  pub left : 0 < length w.phases.items

-- it did one phase more
pub record HasWorked (old : CorrectClient) (new : CorrectClient) (d : DeskView) : Type 0 where
  pub same : IsSame old new
  pub stands : Stands new d
  pub one : length new.phases.items + 1 ≡ length old.phases.items

-- the worker after an ask to the node was counted, to which these ways were left
abbrev pub counted : CorrectClient → ℕ → Ways → CorrectClient
counted w node was = record w { ways = slice_set w.ways node (ways_left was.drops was.holds 1); crash_after = asks_left 1 w.crash_after }

-- an ask to the node, which goes this way, was counted; one was left
pub record HasCounted (old : CorrectClient) (node : ℕ) (way : Way) (new : CorrectClient) : Type 0 where
  pub left : old.crash_after ≡ Some 0 → ⊥
  pub was : Ways
  pub there : slice_get old.ways node ≡ Some was
  pub goes : way ≡ way_of was.drops was.holds 0
  pub is : new ≡ counted old node was

-- the steps fit the cluster, and those of the phases so far, after which these phases are left, are the first of few
pub record StepsFit (plan : Plan) (c : ℕ) (phases : List (List BlockStep)) (steps : List BlockStep) : Type 0 where
  pub more : List BlockStep
  pub all : every_step plan c ≡ steps_of_first plan c (phase_in plan phases) ++ more
  pub few : length (every_step plan c) ≤ 4000
  pub fit : All (Fits plan.config) steps

-- the worker and its desk after an operation ended, or the client crashed in it
pub record HasAskedOn (old : CorrectClient) (before : DeskView) (new : CorrectClient) (d : DeskView) : Type 0 where
  pub same : IsSame old new
  pub phases : new.phases.items ≡ old.phases.items
  pub goes : Goes new d
  pub starts : times starts d.entries ≡ times starts before.entries
  pub over : ((task_at d ≡ None) × ((state_at d).crashed ≡ false)) ⊎ IsCutOff new.plan.value new.client d.entries

-- the step that is done: the client is idle again, and has started one operation more
pub record DidStep (before d : DeskView) : Type 0 where
  pub one : times starts d.entries ≡ times starts before.entries + 1
  pub idle : task_at d ≡ None
  pub up : (state_at d).crashed ≡ false

-- the worker and its desk after one step, of whose phases none was taken
pub record HasStepped (old : CorrectClient) (before : DeskView) (new : CorrectClient) (d : DeskView) : Type 0 where
  pub same : IsSame old new
  pub phases : new.phases.items ≡ old.phases.items
  pub goes : Goes new d
  pub over : DidStep before d ⊎ IsCutOff new.plan.value new.client d.entries

-- an operation on the block is under way
abbrev pub IsOn : ℕ → DeskView → Type 0
IsOn block d = (t : SeenTask) × (task_at d ≡ Some t) × (t.block ≡ block)

-- of the steps of the phases so far, after which these phases are left, these steps are left
pub record IsAmid (plan : Plan) (c : ℕ) (phases : List (List BlockStep)) (left : List BlockStep) (d : DeskView) : Type 0 where
  pub taken : List BlockStep
  pub count : times starts d.entries ≡ length taken
  pub steps : steps_of_first plan c (phase_in plan phases) ≡ taken ++ left
  pub idle : task_at d ≡ None
  pub up : (state_at d).crashed ≡ false

-- so it is, or the client crashed
abbrev pub IsAmidOrOff : CorrectClient → List BlockStep → DeskView → Type 0
IsAmidOrOff w left d = IsAmid w.plan.value w.client w.phases.items left d ⊎ IsCutOff w.plan.value w.client d.entries

-- ---- a lying client

-- the desk is the lying client's, and has the asks that were sent
pub record HasMail (w : Liar) (d : DeskView) : Type 0 where
  pub config : d.config ≡ w.plan.value.config
  pub id : d.id ≡ w.client
  pub lying : d.lying ≡ true
  pub sent : all_asked d.entries ++ w.mail.items ≡ messages w.plan.value.config w.plan.value.rules w.client
  pub each : All (IsSendable w.plan.value.config w.client) w.mail.items

-- all mail is sent, and where none was left nothing happened
pub record HasSentAll (old : Liar) (before : DeskView) (new : Liar) (d : DeskView) : Type 0 where
  pub plan : new.plan.value ≡ old.plan.value
  pub client : new.client ≡ old.client
  pub mail : HasMail new d
  pub all : new.mail.items ≡ []
  pub none : old.mail.items ≡ [] → d.entries ≡ before.entries

-- ---- all clients' threads

-- the thread may do its part of a phase
abbrev pub Ready : ClientDuty → List CellShard → DeskView → Type 0
Ready (Client w) cell_shards d = IsReady w d × HoldsWhole w cell_shards
Ready (Lying w) cell_shards d = HasMail w d

-- it did its part
abbrev pub Done : ClientDuty → DeskView → ClientDuty → DeskView → Type 0
Done (Client old) before (Client new) d = HasWorked old new d
Done (Lying old) before (Lying new) d = HasSentAll old before new d
Done _ before _ d = ⊥

-- the operation and the phase that are under way at the desk
abbrev pub tag_at : DeskView → Tag
tag_at d = record { op = ops_of (state_at d).client.seen; phase = phase_of (task_at d) }

-- the node from which the client looks for the next one to ask
abbrev pub turn_at : DeskView → ℕ
turn_at d = turn_after (d.id % d.config.n) (tag_at d) (last_of d.entries)
