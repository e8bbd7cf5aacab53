-- What a run begins with.
use Rattle.std.specs.Prelude.{◌≡◌, ◌⊎◌, ℕ, zero, suc, ◌+◌, ◌<◌, if◌then◌else◌, List, [], length, slice_get}
use Rattle.std.specs.declared.option.Option.TheVariants.{Some}
use Rattle.event_clock.specs.Passes.{ClockId, Holder}
use Rattle.locked_nodes.specs.Cells.{CellView, new_cell}
use Rattle.client_desks.specs.Desks.{first_desk}
use Rattle.plan_words.specs.declared.plan.Plan.{Plan}
use Rattle.plan_words.specs.Named.{clients, ascending}
use Rattle.wire_forms.specs.Liars.{has_number}
use Rattle.plan_followed.specs.Asked.{nature, crash_after}
use Rattle.phase_threads.specs.Standing.{is_whole, HaveOwnShards}
use Rattle.phase_threads.specs.declared.duty.Seat.{Seat}
use Rattle.client_duties.specs.declared.work.ClientDuty.{ClientDuty}
use Rattle.client_threads.specs.Running.{StandsAt}

-- a pass of this clock that has drawn and seen nothing
pub record IsUnusedPass (clock : ClockId) (pass : Holder) : Type 0 where
  pub ticks : pass.clock ≡ clock
  pub drawn : pass.drawn ≡ []

-- how many cells node i has, where one that needn't be whole has so many
abbrev pub shards_of : Plan → ℕ → ℕ → ℕ
shards_of plan shards i = if is_whole plan i then 1 else shards

-- how many the first nodes have, so many
abbrev pub cell_count : Plan → ℕ → ℕ → ℕ
cell_count plan shards zero = 0
cell_count plan shards (suc n) = cell_count plan shards n + shards_of plan shards n

-- how many passes a run's clock has: one for each cell, one for each client, and the one that meets all others
abbrev pub pass_count : Plan → ℕ → ℕ
pass_count plan shards = cell_count plan shards plan.config.n + length (ascending (clients plan.rules plan.work)) + 1

-- the cell of a shard of node i, which has done nothing
pub record IsNewCell (plan : Plan) (shards : ℕ) (clock : ClockId) (i shard : ℕ) (cell : CellView) : Type 0 where
  pub pass : Holder
  pub unused : IsUnusedPass clock pass
  pub below : shard < shards_of plan shards i
  pub is : cell ≡ new_cell plan.config i shard (shards_of plan shards i) (nature plan.rules i) (crash_after plan.rules i) pass

-- the shard comes before this one of this node
abbrev pub IsBefore : ℕ → ℕ → ℕ → ℕ → Type 0
IsBefore node shard i s = (i < node) ⊎ ((i ≡ node) × (s < shard))

-- there is a cell for each shard before this one of this node
pub record AreNewCells (plan : Plan) (shards : ℕ) (clock : ClockId) (node shard : ℕ) (cells : List CellView) : Type 0 where
  pub count : length cells ≡ cell_count plan shards node + shard
  pub each : (k : ℕ) (cell : CellView) → slice_get cells k ≡ Some cell → IsNewCell plan shards clock cell.charter.number cell.charter.shard cell
  pub before : (k : ℕ) (cell : CellView) → slice_get cells k ≡ Some cell → IsBefore node shard cell.charter.number cell.charter.shard
  pub own : HaveOwnShards cells
  pub all : (i s : ℕ) → IsBefore node shard i s → s < shards_of plan shards i → (k : ℕ) × (cell : CellView) × (slice_get cells k ≡ Some cell) × (cell.charter.number ≡ i) × (cell.charter.shard ≡ s)

-- the desk of a client that has done nothing, with its thread's part
pub record IsNewSeat (plan : Plan) (clock : ClockId) (s : Seat ClientDuty) : Type 0 where
  pub pass : Holder
  pub unused : IsUnusedPass clock pass
  pub is : s.desk ≡ first_desk plan.config s.desk.id (has_number plan.liars.clients s.desk.id) pass
  pub part : StandsAt plan 0 s.duty s.desk
