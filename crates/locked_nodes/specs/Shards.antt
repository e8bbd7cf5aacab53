-- A node that stands in several cells, each of which serves the blocks of its shard.
use Rattle.std.specs.Prelude.{◌≡◌, ℕ, ◌<◌, ◌%◌, ◌==◌, Bool, false, List, [], length, filter, Option, slice_get}
use Rattle.std.specs.declared.option.Option.TheVariants.{None, Some}
use Rattle.std.specs.List.{Contains}
use Rattle.quorum_rules.specs.Limits.{Numbers}
use Rattle.protocol.specs.Messages.{Body}
use Rattle.protocol.specs.Report.{Ascend}
use Rattle.wire_forms.specs.declared.message.Body.TheVariants.{Ask as Asks, Answer as Answers}
use Rattle.journals.specs.declared.node.Nature.{Nature}
use Rattle.journals.specs.declared.node.NodeEntry.{NodeEntry}
use Rattle.journals.specs.Acts.{Cause, cause_of, new_state, after_all, NodeKept}
use Rattle.journals.specs.Acts.Cause.{Comes, ComesLate, Prunes}
use Rattle.locked_nodes.specs.Cells.{CellView, KeptCell, numbers}

-- the block of an ask
abbrev pub block_in : Body → ℕ
block_in (Asks ask) = ask.block
block_in (Answers reply) = 0

-- the block for which something comes to a node
abbrev pub block_for : Cause → ℕ
block_for (Comes way ask) = block_in ask.body
block_for (ComesLate ask) = block_in ask.body
block_for (Prunes block stamp) = block

-- what the node did is on a block of this shard, of so many
abbrev pub is_of_shard : ℕ → ℕ → NodeEntry → Bool
is_of_shard shard shards e = (block_for (cause_of e.act) % shards) == shard

-- a kept journal of a node: its numbers ascend, and its entries are what such a node does
pub record IsJournal (config : Numbers) (number : ℕ) (nature : Nature) (crash_after : Option ℕ) (journal : List NodeEntry) : Type 0 where
  pub ascends : Ascend (numbers journal)
  pub goes : NodeKept nature (new_state config number crash_after) journal

-- the cell serves this shard, of so many, of a node that isn't to crash
pub record IsShardOf (config : Numbers) (number : ℕ) (nature : Nature) (shards shard : ℕ) (cell : CellView) : Type 0 where
  pub kept : KeptCell cell
  pub cluster : cell.charter.config ≡ config
  pub node : cell.charter.number ≡ number
  pub conduct : (cell.charter.nature ≡ nature) × (cell.charter.crash_after ≡ None)
  pub share : (cell.charter.shards ≡ shards) × (cell.charter.shard ≡ shard)

-- there is a cell for each shard
pub record AreShards (config : Numbers) (number : ℕ) (nature : Nature) (shards : ℕ) (cells : List CellView) : Type 0 where
  pub count : length cells ≡ shards
  pub each : (i : ℕ) (cell : CellView) → slice_get cells i ≡ Some cell → IsShardOf config number nature shards i cell

-- the entries of the cells by number: those on the blocks of a shard are the journal of its cell
pub record AreJoined (cells : List CellView) (es : List NodeEntry) : Type 0 where
  pub ascends : Ascend (numbers es)
  pub each : (i : ℕ) (cell : CellView) → slice_get cells i ≡ Some cell → filter (is_of_shard i (length cells)) es ≡ cell.journal

-- the entry stands in a cell that serves a shard of the node
pub record IsFromShard (config : Numbers) (number : ℕ) (nature : Nature) (shards : ℕ) (e : NodeEntry) : Type 0 where
  pub cell : CellView
  pub serves : IsShardOf config number nature shards cell.charter.shard cell
  pub stands : Contains cell.journal e

-- a cell's journal is kept, from the node that its charter tells of
abbrev pub OneCell : Type 0
OneCell = (cell : CellView) → KeptCell cell → IsJournal cell.charter.config cell.charter.number cell.charter.nature cell.charter.crash_after cell.journal

-- the entries by number of the several cells of a node are a kept journal of the node, as if it had one cell
abbrev pub SeveralCells : Type 0
SeveralCells =
    (config : Numbers) (number : ℕ) (nature : Nature) (shards : ℕ) (cells : List CellView) (es : List NodeEntry)
    → 1 < shards → AreShards config number nature shards cells → AreJoined cells es → IsJournal config number nature None es

-- a node that such entries leave hasn't crashed, and holds nothing back
abbrev pub SeveralCalm : Type 0
SeveralCalm =
    (config : Numbers) (number : ℕ) (nature : Nature) (shards : ℕ) (es : List NodeEntry)
    → 1 < shards → ((e : NodeEntry) → Contains es e → IsFromShard config number nature shards e)
    → ((after_all (new_state config number None) es).crashed ≡ false) × ((after_all (new_state config number None) es).late ≡ [])
