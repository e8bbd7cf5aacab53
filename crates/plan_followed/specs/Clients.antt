-- When a client's journal follows a plan.
use Rattle.std.specs.Prelude.{◌≡◌, ◌⊎◌, ℕ, ◌+◌, ◌-◌, ◌<◌, ◌≤◌, ◌%◌, ◌==◌, ◌&&◌, Bool, true, false, if◌then◌else◌, nat_lt, List, ◌∷◌, ◌++◌, length, count_by, Option, slice_get}
use Rattle.std.specs.declared.option.Option.TheVariants.{None, Some}
use Rattle.std.specs.Option.{IsSome}
use Rattle.std.specs.List.{filter_map}
use Rattle.block_device.specs.declared.steps.BlockStep.{BlockStep}
use Rattle.block_device.specs.Ops.{op_of}
use Rattle.protocol.specs.Messages.{Tag, Message}
use Rattle.protocol.specs.Seen.{SeenTask, has_answered}
use Rattle.plan_words.specs.declared.plan.Plan.{Plan}
use Rattle.journals.specs.declared.desk.Way.{Way}
use Rattle.journals.specs.declared.desk.Way.TheVariants.{Call as ByCall, Lose as ByLose, Hold as ByHold}
use Rattle.journals.specs.declared.desk.DeskAct.TheVariants.{Start, Call}
use Rattle.journals.specs.declared.desk.DeskAct.{DeskAct}
use Rattle.journals.specs.declared.desk.DeskEntry.{DeskEntry}
use Rattle.journals.specs.Desks.{DeskState, new_desk, desk_after_all}
use Rattle.journals.specs.Records.{client_records}
use Rattle.journals.specs.Journals.{desks_before}
use Rattle.journals.specs.Phases.{Phase}
use Rattle.plan_followed.specs.Asked.{steps_for, first_phases, drops, holds, client_crash, messages}

-- the fact holds of each entry and those before it
abbrev pub InEach : (List DeskEntry → DeskAct → Type 0) → List DeskEntry → Type 0
InEach fact es = (before rest : List DeskEntry) (e : DeskEntry) → es ≡ before ++ e ∷ rest → fact before e.act

-- ---- what is counted, and what came last

abbrev pub starts : DeskAct → Bool
starts (Start op) = true
starts _ = false

abbrev pub asks : DeskAct → Bool
asks (Call way ask reply) = true
asks _ = false

abbrev pub asks_of : ℕ → DeskAct → Bool
asks_of i (Call way ask reply) = ask.node == i
asks_of i _ = false

-- how many of the entries pass
abbrev pub times : (DeskAct → Bool) → List DeskEntry → ℕ
times test es = count_by (λ e. test e.act) es

abbrev pub last_of : List DeskEntry → Option DeskEntry
last_of es = slice_get es (length es - 1)

-- the message of an ask
abbrev pub asked : DeskAct → Option Message
asked (Call way ask reply) = Some ask
asked _ = None

-- the messages of all asks, in order
abbrev pub all_asked : List DeskEntry → List Message
all_asked es = filter_map (λ e. asked e.act) es

-- ---- whom a client asks, and how

-- after an ask of the same phase of the operation a client goes on with the next node, else it begins at its own
abbrev pub turn_by : ℕ → Tag → DeskAct → ℕ
turn_by own tag (Call way ask reply) = if (ask.tag.op == tag.op) && (ask.tag.phase == tag.phase) then ask.node + 1 else own
turn_by own tag _ = own

abbrev pub turn_after : ℕ → Tag → Option DeskEntry → ℕ
turn_after own tag None = own
turn_after own tag (Some e) = turn_by own tag e.act

-- of the n nodes from one on, going round, this is the first that hasn't answered the phase
pub record IsNext (n : ℕ) (task : Option SeenTask) (from node : ℕ) : Type 0 where
  pub passed : ℕ
  pub round : passed < n
  pub is : node ≡ (from + passed) % n
  pub answered : (k : ℕ) → k < passed → has_answered task ((from + k) % n) ≡ true
  pub unanswered : has_answered task node ≡ false

-- the way of an ask to a node that was asked so often: the first asks are dropped, and the next ones held
abbrev pub way_of : ℕ → ℕ → ℕ → Way
way_of drops holds before = if nat_lt before drops then ByLose else (if nat_lt before (drops + holds) then ByHold else ByCall)

-- ---- one client

module _ (plan : Plan) (c : ℕ) where
  -- the client after these entries
  abbrev pub client_after : List DeskEntry → DeskState
  client_after es = desk_after_all (new_desk plan.config c) es

  -- an operation that starts is that of the next step, after the records that the client's journal tells so far
  abbrev pub IsNextStart : List BlockStep → List DeskEntry → DeskAct → Type 0
  IsNextStart steps before (Start op) = (step : BlockStep) × (slice_get steps (times starts before) ≡ Some step) × (op ≡ op_of plan.config.size c (client_records c (client_after before)) step)
  IsNextStart steps before _ = Unit {0}

  -- an ask is of the next node, in ascending order from the client's number modulo n
  abbrev pub IsInTurn : List DeskEntry → DeskAct → Type 0
  IsInTurn before (Call way ask reply) = IsNext plan.config.n (client_after before).client.seen.task (turn_after (c % plan.config.n) ask.tag (last_of before)) ask.node
  IsInTurn before _ = Unit {0}

  -- an ask goes the way that the plan has for it
  abbrev pub IsOnItsWay : List DeskEntry → DeskAct → Type 0
  IsOnItsWay before (Call way ask reply) = way ≡ way_of (drops plan.rules c ask.node) (holds plan.rules c ask.node) (times (asks_of ask.node) before)
  IsOnItsWay before _ = Unit {0}

  -- the client finished: it did these steps to their end, and didn't make more asks than it may
  pub record IsFinished (steps : List BlockStep) (es : List DeskEntry) : Type 0 where
    pub started : times starts es ≡ length steps
    pub ended : (client_after es).client.seen.task ≡ None
    pub up : (client_after es).crashed ≡ false
    pub few : (count : ℕ) → client_crash plan.rules c ≡ Some count → times asks es ≤ count

  -- the client crashed: it made as many asks as it may, while its last operation hadn't ended
  pub record IsCutOff (es : List DeskEntry) : Type 0 where
    pub count : client_crash plan.rules c ≡ Some (times asks es)
    pub down : (client_after es).crashed ≡ true
    pub busy : IsSome (client_after es).client.seen.task

  -- it did these steps, or crashed on the way
  abbrev pub IsDone : List BlockStep → List DeskEntry → Type 0
  IsDone steps es = IsFinished steps es ⊎ IsCutOff es

  -- the act is one that the plan has after these entries
  pub record GoesByPlan (before : List DeskEntry) (act : DeskAct) : Type 0 where
    pub start : IsNextStart (steps_for plan.config c plan.work) before act
    pub turn : IsInTurn before act
    pub way : IsOnItsWay before act

  -- a correct client does its steps in order, and asks in turn and by the ways of the plan; each phase ends when it did the steps so far
  pub record ClientFollows (phases : List Phase) (es : List DeskEntry) : Type 0 where
    pub acts : InEach GoesByPlan es
    pub closed : (k : ℕ) (p : Phase) → slice_get phases k ≡ Some p → IsDone (steps_for plan.config c (first_phases (k + 1) plan.work)) (desks_before p.close es)
    pub done : IsDone (steps_for plan.config c plan.work) es

  -- a lying client sends its messages in order, each once, and all of them in the first phase
  pub record LiarFollows (phases : List Phase) (es : List DeskEntry) : Type 0 where
    pub sends : all_asked es ≡ messages plan.config plan.rules c
    pub early : (p : Phase) → slice_get phases 0 ≡ Some p → desks_before p.close es ≡ es
