-- The life of a store: what happened over all its sessions, one turn after the other, and what each node keeps after each turn.
use Rattle.std.specs.Prelude.{◌≡◌, ◌≢◌, ℕ, suc, ◌==◌, ◌<◌, ◌≤◌, ⊤, if◌then◌else◌, List, [], ◌∷◌, ◌++◌, length, map, Option, slice_get}
use Rattle.std.specs.declared.option.Option.TheVariants.{None, Some}
use Rattle.std.specs.List.{AllByRecursion}
use Rattle.quorum_rules.specs.Limits.{Numbers, IsValid}
use Rattle.stamp_order.specs.declared.Stamp.{Stamp}
use Rattle.wire_forms.specs.declared.op.Op.{Op}
use Rattle.wire_forms.specs.declared.op.Op.TheVariants.{Read as ReadOp, Write as WriteOp}
use Rattle.protocol.specs.Setting.{zeros}
use Rattle.protocol.specs.Instance.{setting}
use Rattle.protocol.specs.World.{Fits}
use Rattle.protocol.specs.Operations.{Work, Outcome, How}
use Rattle.protocol.specs.Seen.{block_of, work_of}
use Rattle.run_words.specs.declared.outcome.Outcome.TheVariants.{Wrote, Gave}
use Rattle.node_core.specs.Seen.{versions_in, new_node}
use Rattle.version_disk.specs.declared.prune.Prune.{Prune}
use Rattle.linear_runs.specs.Linear.{Operation, IsLinear, IsLinearAsOne, on_block}
use Rattle.linear_runs.specs.Durable.{Crash, IsDurable}
use Rattle.block_phases.specs.Executions.{StampedValue}
use Rattle.block_turns.specs.Turns.{Standing, Turn as BlockTurn, Moment as BlockMoment, first_standing, standing_at, told_by as told_there}
use Rattle.block_turns.specs.Turns.Turn.{Did, Left, Pruned as PrunedThere, Changed as ChangedThere, Gone as GoneThere, Back as BackThere, Lost as LostThere, Failed as FailedThere, Renewed as RenewedThere}
use Rattle.block_turns.specs.Lives.{IsLife as IsBlockLife}
use Rattle.block_turns.specs.Strings.{NoClash}
use Rattle.store_device.specs.Stores.{Nodes}
use Rattle.store_device.specs.Told.{AreApart, kept_of}

-- what happens to a store
pub data Turn : Type 0 where
  -- A batch of operations, and the outcome that was told of each. None was told if a crash cut the operation off, or too few nodes
  -- answered; its last phase stores this value, or none.
  Performed : List Op → List (Option Outcome) → (stored : List (Option StampedValue)) → Turn
  -- Nodes pruned blocks, wholly, in part or not at all. Each stamp is that of an acknowledged operation on the block.
  Pruned : List Prune → Turn
  -- something other than the store changed what lying and lost nodes keep
  Changed : Turn
  -- The node is out of reach, keeps what it has and answers nothing. It may still store what the latest operation on each block asked.
  Gone : (node : ℕ) → Turn
  -- the node is back with what it kept, and maybe with some of what it could still store
  Back : (node : ℕ) → Turn
  -- the node answers nothing, and what it keeps doesn't count: its disk was replaced, damaged or put back from a copy
  Lost : (node : ℕ) → Turn
  -- the same, but of one block alone
  Damaged : (block node : ℕ) → Turn
  -- the node lies about this block from now on
  Failed : (block node : ℕ) → Turn
  -- the block was rebuilt on the node: there it keeps the first version and that of the latest acknowledged operation
  Renewed : (block node : ℕ) → Turn

-- a turn, and what each node keeps after it
pub record Moment : Type 0 where
  pub turn : Turn
  pub nodes : Nodes

-- ---- what happens to one block

-- a client's operation on the block, with the outcome that was told
abbrev pub turn_of : ℕ → Work → Option Outcome → Option StampedValue → BlockTurn
turn_of client work None stored = Left client work stored
turn_of client work (Some outcome) stored = Did client work outcome

-- the batch's operation on the block, if it has one; else nothing happens to the block. The clients are numbered from this one on.
abbrev pub batch_on : ℕ → ℕ → List Op → List (Option Outcome) → List (Option StampedValue) → BlockTurn
batch_on block client (op ∷ ops) (outcome ∷ outcomes) (value ∷ stored) =
    if block_of op == block then turn_of client (work_of op) outcome value else batch_on block (suc client) ops outcomes stored
batch_on block client _ _ _ = ChangedThere

-- the prune of the block, if there is one
abbrev pub prune_on : ℕ → List Prune → BlockTurn
prune_on block [] = ChangedThere
prune_on block (p ∷ prunes) = if p.block == block then PrunedThere p.stamp else prune_on block prunes

-- what a turn is on a block: where it is of other blocks, only lying and lost nodes may have been changed
abbrev pub turn_on : ℕ → Turn → BlockTurn
turn_on block (Performed ops outcomes stored) = batch_on block 1 ops outcomes stored
turn_on block (Pruned prunes) = prune_on block prunes
turn_on block Changed = ChangedThere
turn_on block (Gone node) = GoneThere node
turn_on block (Back node) = BackThere node
turn_on block (Lost node) = LostThere node
turn_on block (Damaged other node) = if other == block then LostThere node else ChangedThere
turn_on block (Failed other node) = if other == block then FailedThere node else ChangedThere
turn_on block (Renewed other node) = if other == block then RenewedThere node else ChangedThere

abbrev pub moment_on : ℕ → Moment → BlockMoment
moment_on block m = record { turn = turn_on block m.turn; kept = kept_of m.nodes block }

-- the block's life: each turn of the store is one of the block, with the same number
abbrev pub life_on : ℕ → List Moment → List BlockMoment
life_on block life = map (moment_on block) life

-- ---- a life

-- what each node keeps after these turns, where it kept this before them
abbrev pub nodes_after : Nodes → List Moment → Nodes
nodes_after first [] = first
nodes_after first (m ∷ life) = nodes_after m.nodes life

module _ (c : Numbers) where
  -- what each node keeps at first
  abbrev pub first_nodes : Nodes
  first_nodes i = new_node c i

  -- a batch may be performed
  pub record IsBatch (ops : List Op) : Type 0 where
    pub few : length ops ≤ 64
    pub fit : AllByRecursion (λ op. (block_of op < c.blocks) × Fits (setting c) (work_of op)) ops
    pub apart : AreApart ops

  -- a turn that performs does so with a batch, and tells something of each operation
  abbrev pub IsWhole : Turn → Type 0
  IsWhole (Performed ops outcomes stored) = IsBatch ops × (length outcomes ≡ length ops) × (length stored ≡ length ops)
  IsWhole _ = ⊤

  -- a store's life, from its beginning: on each block it is a life of the block
  pub record IsLife (life : List Moment) : Type 0 where
    pub whole : AllByRecursion (λ m. IsWhole m.turn) life
    pub each : (block : ℕ) → block < c.blocks → IsBlockLife (setting c) block (life_on block life)

  -- what each node keeps at the end of a life
  abbrev pub nodes_of : List Moment → Nodes
  nodes_of life = nodes_after first_nodes life

  -- what is known of a block at the end of a life
  abbrev pub standing_on : ℕ → List Moment → Standing
  standing_on block life = standing_at (first_standing (setting c)) (life_on block life)

  -- no two different strings of the block's life share a digest
  abbrev pub NoneClash : ℕ → List Moment → Type 0
  NoneClash block life = NoClash (setting c) (life_on block life)

-- ---- its operations

-- the operation, which has this client, of turn k; a write that wasn't told of may have taken place
abbrev pub told_one : ℕ → ℕ → Op → Option Outcome → List Operation
told_one k client op outcome = told_there (block_of op) k (turn_of client (work_of op) outcome None)

-- the operations of a batch, whose clients are numbered from this one on
abbrev pub told_by : ℕ → ℕ → List Op → List (Option Outcome) → List Operation
told_by k client (op ∷ ops) (outcome ∷ outcomes) = told_one k client op outcome ++ told_by k (suc client) ops outcomes
told_by k client _ _ = []

-- the operations of turn k
abbrev pub told_at : ℕ → Turn → List Operation
told_at k (Performed ops outcomes stored) = told_by k 1 ops outcomes
told_at k _ = []

-- the operations of these turns, the first of which is turn k: each starts and ends at its turn, or has no end
abbrev pub told_from : ℕ → List Moment → List Operation
told_from k [] = []
told_from k (m ∷ life) = told_at k m.turn ++ told_from (suc k) life

-- the operations of a life
abbrev pub told : List Moment → List Operation
told life = told_from 0 life

-- ---- what holds of each life

module _ (c : Numbers) where
  -- the operations on each block are linearizable, in the order of turns, where no two strings of the block's life clash
  abbrev pub LivesAreLinearizable : Type 0
  LivesAreLinearizable =
      IsValid c
      → (life : List Moment)
      → IsLife c life
      → (block : ℕ)
      → block < c.blocks
      → NoneClash c block life
      → IsLinear (zeros (setting c)) (on_block block (told life))

  -- so are the operations on all blocks, in one order
  abbrev pub LivesAreLinearizableAsOne : Type 0
  LivesAreLinearizableAsOne =
      IsValid c
      → (life : List Moment)
      → IsLife c life
      → ((block : ℕ) → block < c.blocks → NoneClash c block life)
      → IsLinearAsOne (zeros (setting c)) (told life)

  -- and durably so, whichever clients crash between whichever turns
  abbrev pub LivesAreDurable : Type 0
  LivesAreDurable =
      IsValid c
      → (life : List Moment) (crashes : List Crash)
      → IsLife c life
      → ((block : ℕ) → block < c.blocks → NoneClash c block life)
      → IsDurable (zeros (setting c)) crashes (told life)

-- turn k performed the operation, and told this of it
pub record WasTold (life : List Moment) (k : ℕ) (op : Op) (outcome : Option Outcome) : Type 0 where
  pub ops : List Op
  pub outcomes : List (Option Outcome)
  pub stored : List (Option StampedValue)
  pub turn : slice_get (map (λ m. m.turn) life) k ≡ Some (Performed ops outcomes stored)
  pub place : ℕ
  pub asked : slice_get ops place ≡ Some op
  pub told : slice_get outcomes place ≡ Some outcome

-- A read was acknowledged after a write of the block was. Of the block's writes that began before the read, none began after that write,
-- and each was acknowledged.
pub record IsReadAfter (life : List Moment) (block write read : ℕ) (value given : List ℕ) : Type 0 where
  pub later : write < read
  pub chosen : Stamp
  pub wrote : WasTold life write (WriteOp block value) (Some (Wrote chosen))
  pub stamp : Stamp
  pub how : How
  pub rounds : ℕ
  pub gave : WasTold life read (ReadOp block) (Some (Gave stamp given how rounds))
  pub others :
      (k : ℕ) (other : List ℕ) (outcome : Option Outcome) → WasTold life k (WriteOp block other) outcome → k < read
      → (k ≤ write) × (outcome ≢ None)

module _ (c : Numbers) where
  -- then it returns what was written
  abbrev pub AcknowledgedWritesAreRead : Type 0
  AcknowledgedWritesAreRead =
      IsValid c
      → (life : List Moment)
      → IsLife c life
      → (block : ℕ)
      → block < c.blocks
      → NoneClash c block life
      → (write read : ℕ) (value given : List ℕ)
      → IsReadAfter life block write read value given
      → given ≡ value

-- on each block these nodes keep the same as those
abbrev pub KeepAlike : Numbers → Nodes → Nodes → Type 0
KeepAlike c nodes others = (i block : ℕ) → i < c.n → versions_in (nodes i) block ≡ versions_in (others i) block
