-- What prunes do to cells, and to the journals of their nodes.
use Rattle.std.specs.Prelude.{◌≡◌, ◌≢◌, ℕ, ◌<◌, ◌≤◌, ◌%◌, Bool, true, List, ◌++◌, length, map, All, slice_get}
use Rattle.std.specs.declared.option.Option.TheVariants.{Some}
use Rattle.event_clock.specs.Passes.{ClockId}
use Rattle.journals.specs.declared.node.NodeEntry.{NodeEntry}
use Rattle.journals.specs.Acts.{can_prune}
use Rattle.locked_nodes.specs.declared.cell_shard.CellShard.{CellShard}
use Rattle.locked_nodes.specs.Cells.{CellView, IsPrune, rechartered, state_of}
use Rattle.locked_nodes.specs.CellShards.{IsPlace}
use Rattle.plan_words.specs.declared.plan.Plan.{Plan}
use Rattle.plan_followed.specs.Nodes.{Pruning}
use Rattle.plan_followed.specs.declared.prunes.BlockStamp.{BlockStamp}
use Rattle.phase_threads.specs.Standing.{HasDonePrunes, node_journal, prunes_at}

abbrev pub pruning_of : BlockStamp → Pruning
pruning_of x = record { block = x.block; stamp = x.stamp }

abbrev pub prunings_of : List BlockStamp → List Pruning
prunings_of xs = map pruning_of xs

-- the cells under charters by which prunes may follow
abbrev pub reopened : List CellView → List CellView
reopened cells = map (λ c. rechartered c true) cells

-- prunes may follow in the cell, which is of this clock; the blocks are its node's; and neither its pass nor its journal has a number from the bound on
pub record IsOpenCell (clock : ClockId) (bound : ℕ) (prunings : List BlockStamp) (cell : CellView) : Type 0 where
  pub ticks : cell.charter.pass.clock ≡ clock
  pub may : cell.charter.prunes ≡ true
  pub blocks : All (λ x. x.block < cell.charter.config.blocks) prunings
  pub seen : cell.pass.seen ≤ bound
  pub below : All (λ e. e.number < bound) cell.journal

-- the cell's journal has only prunes more
pub record HasMorePrunes (old new : CellView) : Type 0 where
  pub charter : new.charter ≡ old.charter
  pub more : List NodeEntry
  pub grown : new.journal ≡ old.journal ++ more
  pub prunes : All (λ e. IsPrune e.act) more

-- the node's cells all prune, or none does
abbrev pub AllPrune : ℕ → Bool → List CellView → Type 0
AllPrune node may cells = All (λ c. c.charter.number ≡ node → can_prune (state_of c) c.charter.nature ≡ may) cells

-- the node did these prunes, if its cells prune, under numbers from this one on
abbrev pub NodePruned : ℕ → List BlockStamp → ℕ → List CellView → List CellView → Type 0
NodePruned from prunings node old new =
    (may : Bool) → AllPrune node may old → HasDonePrunes from (prunings_of prunings) may (node_journal old node) (node_journal new node)

-- the journals of all other nodes are as they were
abbrev pub OthersStay : ℕ → List CellView → List CellView → Type 0
OthersStay node old new = (i : ℕ) → i ≢ node → node_journal new i ≡ node_journal old i

-- each node of the plan did these prunes, if it may
abbrev pub AllPruned : Plan → ℕ → List BlockStamp → List CellView → List CellView → Type 0
AllPruned plan from prunings old new =
    (i : ℕ) → i < plan.config.n → HasDonePrunes from (prunings_of prunings) (prunes_at plan old i) (node_journal old i) (node_journal new i)

-- each block of the node has its place, and all the node's shards are of one count
pub record IsServed (cell_shards : List CellShard) (node : ℕ) : Type 0 where
  pub some : All (λ s. 0 < s.shards) cell_shards
  pub there : (block : ℕ) → (place : ℕ) × IsPlace cell_shards place node block
  pub shards : ℕ
  pub alike : All (λ s. s.node ≡ node → s.shards ≡ shards) cell_shards

-- the places of the node's cells, by shard
pub record ArePlaces (cell_shards : List CellShard) (node : ℕ) (places : List ℕ) : Type 0 where
  pub some : 0 < length places
  pub each : (block : ℕ) → (place : ℕ) × (slice_get places (block % length places) ≡ Some place) × IsPlace cell_shards place node block
