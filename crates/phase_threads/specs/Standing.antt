-- The cells and desks of a run, and the journals that they make.
use Rattle.std.specs.Prelude.{◌≡◌, ◌⊎◌, ℕ, ◌<◌, ◌≤◌, ◌==◌, Bool, true, false, if◌then◌else◌, List, [], ◌++◌, map, fold, All, slice_get}
use Rattle.std.specs.declared.option.Option.TheVariants.{Some}
use Rattle.std.specs.List.{Contains, AllZip, range_with_len, list_any}
use Rattle.quorum_rules.specs.Limits.{Numbers}
use Rattle.wire_forms.specs.Liars.{has_number}
use Rattle.event_clock.specs.Passes.{ClockId}
use Rattle.journals.specs.declared.node.NodeEntry.{NodeEntry}
use Rattle.journals.specs.declared.desk.DeskAct.{DeskAct}
use Rattle.journals.specs.declared.desk.DeskEntry.{DeskEntry}
use Rattle.journals.specs.declared.desk.DeskJournal.{DeskJournal}
use Rattle.journals.specs.declared.whole.Journals.{Journals}
use Rattle.journals.specs.Acts.{can_prune}
use Rattle.journals.specs.Steps.{side, IsOwn}
use Rattle.journals.specs.Phases.{Phase}
use Rattle.locked_nodes.specs.Cells.{CellView, KeptCell, HasNoLateMail, next_charter, state_of}
use Rattle.locked_nodes.specs.CellShards.{cell_shard_of, cell_shards_of, Cover}
use Rattle.locked_nodes.specs.Joined.{join}
use Rattle.receipt_lock.specs.Tickets.{Begins}
use Rattle.client_desks.specs.Desks.{DeskView, KeptDesk, desk_entry}
use Rattle.client_desks.specs.Later.{IsLater}
use Rattle.plan_words.specs.declared.plan.Plan.{Plan}
use Rattle.plan_followed.specs.Asked.{nature, crash_after}
use Rattle.plan_words.specs.declared.fault.Fault.{Fault}
use Rattle.plan_words.specs.declared.fault.Fault.TheVariants.{CrashNode, Hold}
use Rattle.plan_followed.specs.Nodes.{Pruning, act_of, node_after}
use Rattle.plan_followed.specs.Closed.{next_begin, AreWorked, HavePruned, AreBelow}

-- ---- cells and desks

-- a cell of this cluster, by this clock
pub record IsCellOf (config : Numbers) (clock : ClockId) (cell : CellView) : Type 0 where
  pub cluster : cell.charter.config ≡ config
  pub some : 0 < cell.charter.shards
  pub ticks : cell.charter.pass.clock ≡ clock

-- all are, and each block of a node has its cell
pub record AreCells (config : Numbers) (clock : ClockId) (cells : List CellView) : Type 0 where
  pub each : All (IsCellOf config clock) cells
  pub cover : Cover config.n (cell_shards_of cells)

-- their nodes are those of the cluster
abbrev pub AreInside : Numbers → List CellView → Type 0
AreInside config cells = All (λ c. c.charter.number < config.n) cells

-- the desk is of this cluster, and its pass is of this clock
pub record IsDeskAt (config : Numbers) (clock : ClockId) (d : DeskView) : Type 0 where
  pub cluster : d.config ≡ config
  pub ticks : d.pass.clock ≡ clock

-- a client's entry is the side of an entry of one of the cells
pub record HasSideIn (cells : List CellView) (id : ℕ) (e : DeskEntry) : Type 0 where
  pub cell : CellView
  pub there : Contains cells cell
  pub of : NodeEntry
  pub stands : Contains cell.journal of
  pub number : of.number ≡ e.number
  pub agree : side of.act ≡ Some (id, e.act)

-- a node's entry has its side on one of the desks
pub record HasSideOn (desks : List DeskView) (c n : ℕ) (act : DeskAct) : Type 0 where
  pub desk : DeskView
  pub there : Contains desks desk
  pub client : desk.id ≡ c
  pub stands : Contains desk.entries (desk_entry n act)

-- cells and desks agree in pairs: a node's entry that has a client's side finds it on that client's desk, and a client's entry is a
-- start, a crash, or the side of a node's
pub record PairsStand (cells : List CellView) (desks : List DeskView) : Type 0 where
  pub called : (cell : CellView) (n : NodeEntry) (c : ℕ) (act : DeskAct) → Contains cells cell → Contains cell.journal n → side n.act ≡ Some (c, act) → HasSideOn desks c n.number act
  pub answered : (d : DeskView) (e : DeskEntry) → Contains desks d → Contains d.entries e → IsOwn e.act ⊎ HasSideIn cells d.id e

-- what a phase did to a cell: its journal has only entries more, under the charter with which it came into its vault
pub record HasWorked (old new : CellView) : Type 0 where
  pub charter : new.charter ≡ next_charter old false
  pub grew : Begins old.journal new.journal

-- ---- the journals

abbrev pub journal_at : DeskView → DeskJournal
journal_at d = record { client = d.id; entries = d.entries }

-- those of a cell are joined, if it is one of node i
abbrev pub add_cell : ℕ → List NodeEntry → CellView → List NodeEntry
add_cell i es c = if c.charter.number == i then join es c.journal else es

-- the journal of node i: the entries of its cells by number
abbrev pub node_journal : List CellView → ℕ → List NodeEntry
node_journal cells i = fold (add_cell i) [] cells

-- the journals of these cells and desks: that of a node has the entries of its cells by number
abbrev pub journals_of : Plan → List CellView → List DeskView → Journals
journals_of plan cells desks = record { config = plan.config; liars = plan.liars; nodes = map (node_journal cells) (range_with_len 0 plan.config.n); desks = map journal_at desks }

-- ---- what a phase does

-- the pass of each cell and each desk has seen all numbers below this one
pub record HaveSeen (from : ℕ) (row : List CellView) (table : List DeskView) : Type 0 where
  pub cells : All (λ c. from ≤ c.pass.seen) row
  pub desks : All (λ d. from ≤ d.pass.seen) table

-- and none has seen one from this one on
pub record HaveSeenNone (bound : ℕ) (row : List CellView) (table : List DeskView) : Type 0 where
  pub cells : All (λ c. c.pass.seen ≤ bound) row
  pub desks : All (λ d. d.pass.seen ≤ bound) table

-- what each of them keeps
pub record AreKept (row : List CellView) (table : List DeskView) : Type 0 where
  pub cells : All KeptCell row
  pub desks : All KeptDesk table

-- in a phase cells worked and desks went on, but for liars' desks after the first phase
pub record HavePhased (plan : Plan) (phases : List Phase) (old : List CellView) (were : List DeskView) (new : List CellView) (are : List DeskView) : Type 0 where
  pub cells : AllZip HasWorked old new
  pub desks : AllZip IsLater were are
  pub quiet : AllZip (λ d e. has_number plan.liars.clients d.id ≡ true → (phases ≡ []) ⊎ (e.entries ≡ d.entries)) were are

-- a node prunes: as its cells' journals leave it, it neither lies nor has crashed
abbrev pub prunes_at : Plan → List CellView → ℕ → Bool
prunes_at plan cells i = can_prune (node_after plan i (node_journal cells i)) (nature plan.rules i)

-- node i did these prunes, if it may, under numbers from this one on
pub record HasDonePrunes (from : ℕ) (ps : List Pruning) (may : Bool) (old new : List NodeEntry) : Type 0 where
  pub more : List NodeEntry
  pub grown : new ≡ old ++ more
  pub later : (e : NodeEntry) → Contains more e → from ≤ e.number
  pub acts : map (λ e. e.act) more ≡ (if may then map act_of ps else [])

-- so a phase leaves closed what was closed
abbrev pub PhasesWork : Type 0
PhasesWork =
    (plan : Plan) (phases : List Phase) (old : List CellView) (were : List DeskView) (new : List CellView) (are : List DeskView)
    → AreBelow (next_begin phases) (journals_of plan old were) → AreInside plan.config old
    → HaveSeen (next_begin phases) old were → HavePhased plan phases old were new are → All KeptCell new
    → AreWorked plan phases (journals_of plan old were) (journals_of plan new are)

-- what the passes have seen bounds what the journals have
abbrev pub JournalsBelow : Type 0
JournalsBelow =
    (plan : Plan) (bound : ℕ) (cells : List CellView) (desks : List DeskView)
    → AreInside plan.config cells → HaveSeenNone bound cells desks → AreKept cells desks → AreBelow bound (journals_of plan cells desks)

-- a rule that has the node crash, or hold back asks
abbrev pub needs_whole : ℕ → Fault → Bool
needs_whole i (CrashNode node count) = i == node
needs_whole i (Hold client node count) = i == node
needs_whole i _ = false

-- node i is to crash or to hold back asks, so that it has one cell
abbrev pub is_whole : Plan → ℕ → Bool
is_whole plan i = list_any (needs_whole i) plan.rules

-- one of the cells of a plan's node, of which each has so many
pub record IsPlanned (plan : Plan) (count : ℕ → ℕ) (cell : CellView) : Type 0 where
  pub shard : cell.charter.shard < cell.charter.shards
  pub shards : cell.charter.shards ≡ count cell.charter.number
  pub nature : cell.charter.nature ≡ nature plan.rules cell.charter.number
  pub crash : cell.charter.crash_after ≡ crash_after plan.rules cell.charter.number

-- no shard has two cells
abbrev pub HaveOwnShards : List CellView → Type 0
HaveOwnShards row = (k m : ℕ) (a b : CellView) → slice_get row k ≡ Some a → slice_get row m ≡ Some b → cell_shard_of a.charter ≡ cell_shard_of b.charter → m ≡ k

-- the cells are those of the plan's nodes, each of which has some, and one alone where it needs to be whole
pub record ArePlanned (plan : Plan) (clock : ClockId) (row : List CellView) : Type 0 where
  pub cells : AreCells plan.config clock row
  pub inside : AreInside plan.config row
  pub own : HaveOwnShards row
  pub shards : ℕ → ℕ
  pub some : (i : ℕ) → 0 < shards i
  pub whole : (i : ℕ) → is_whole plan i ≡ true → shards i ≡ 1
  pub each : All (IsPlanned plan shards) row

-- and prunes after it are those of the phase
abbrev pub CellsPrune : Type 0
CellsPrune =
    (plan : Plan) (clock : ClockId) (p : Phase) (ps : List Pruning) (old new : List CellView) (desks : List DeskView)
    → ArePlanned plan clock old → ArePlanned plan clock new
    → ((i : ℕ) → i < plan.config.n → HasDonePrunes p.close ps (prunes_at plan old i) (node_journal old i) (node_journal new i))
    → HavePruned plan p ps (journals_of plan old desks) (journals_of plan new desks)

-- whether a cell prunes is whether its node does
abbrev pub NodesPrune : Type 0
NodesPrune =
    (plan : Plan) (clock : ClockId) (row : List CellView) (cell : CellView)
    → ArePlanned plan clock row → All KeptCell row → Contains row cell → can_prune (state_of cell) cell.charter.nature ≡ prunes_at plan row cell.charter.number

-- where no cell holds back an ask no node does
abbrev pub NothingLate : Type 0
NothingLate =
    (plan : Plan) (clock : ClockId) (row : List CellView)
    → ArePlanned plan clock row → All KeptCell row → All HasNoLateMail row → (i : ℕ) → i < plan.config.n → (node_after plan i (node_journal row i)).late ≡ []
