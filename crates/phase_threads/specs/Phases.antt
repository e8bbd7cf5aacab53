-- What a phase is: what it may begin with, and what it leaves.
use Rattle.std.specs.Prelude.{◌≡◌, ◌≤◌, List, length, map, All}
use Rattle.std.specs.declared.option.Option.TheVariants.{None}
use Rattle.std.specs.List.{AllZip}
use Rattle.quorum_rules.specs.Limits.{Numbers}
use Rattle.event_clock.specs.Passes.{ClockId}
use Rattle.locked_nodes.specs.declared.cell_shard.CellShard.{CellShard}
use Rattle.locked_nodes.specs.Cells.{CellView}
use Rattle.locked_nodes.specs.CellShards.{cell_shards_of}
use Rattle.client_desks.specs.Desks.{DeskView}
use Rattle.client_desks.specs.Later.{IsLater}
use Rattle.phase_threads.specs.Standing.{AreCells, IsDeskAt, PairsStand, HasWorked}
use Rattle.phase_threads.specs.declared.duty.Seat.{Seat}
use Rattle.phase_threads.specs.declared.phase.Left.{Left}

-- cells and desks are of one cluster and of this clock, and agree in pairs; each duty is ready; and with the courier's chit a vault has not too many
pub record MayPhase {T : Type 0} (can : T → List CellShard → DeskView → Type 0) (clock : ClockId) (cells : List CellView) (seats : List (Seat T)) : Type 0 where
  pub cluster : (config : Numbers) × AreCells config clock cells × All (λ s. IsDeskAt config clock s.desk) seats
  pub pairs : PairsStand cells (map (λ s. s.desk) seats)
  pub ready : All (λ s. can s.duty (cell_shards_of cells) s.desk) seats
  pub count : length seats ≤ 65535

-- each cell has only entries more, and each desk went on; where no refusal came each duty is done, and cells and desks agree in pairs again
pub record HasPhased {T : Type 0} (did : T → DeskView → T → DeskView → Type 0) (before : ClockId) (old : List CellView) (were : List (Seat T)) (now : ClockId) (left : Left T) : Type 0 where
  pub clock : now ≡ before
  pub cells : AllZip HasWorked old left.cells.items
  pub desks : AllZip (λ s t. IsLater s.desk t.desk) were left.seats.items
  pub duties : left.refused ≡ None → AllZip (λ s t. did s.duty s.desk t.duty t.desk) were left.seats.items
  pub pairs : left.refused ≡ None → PairsStand left.cells.items (map (λ s. s.desk) left.seats.items)
