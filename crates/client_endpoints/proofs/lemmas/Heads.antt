-- Whoever takes a cell out of its vault knows its charter.
use Rattle.std.proofs.Common.{◌≡◌, List, ◌∷◌, ◌++◌, map, ap, ◌∙◌}
use Rattle.quorum_rules.specs.Limits.{Numbers}
use Rattle.event_clock.specs.Passes.{ClockId}
use Rattle.receipt_lock.specs.Tickets.{Begins}
use Rattle.locked_nodes.specs.declared.charter.Charter.{Charter}
use Rattle.locked_nodes.specs.declared.charter.Item.{Item}
use Rattle.locked_nodes.specs.declared.charter.Item.TheVariants.{Head, Entry}
use Rattle.locked_nodes.specs.declared.cell_shard.CellShard.{CellShard}
use Rattle.locked_nodes.specs.Cells.{CellView, items}
use Rattle.locked_nodes.specs.CellShards.{cell_shard_of}
use Rattle.client_endpoints.specs.Endpoint.{IsHead}

module _ (config : Numbers) (clock : ClockId) (cell_shard : CellShard) (begun : List Item) (cell : CellView) (head : IsHead config clock cell_shard begun) (begins : Begins begun (items cell)) where
  charter_of : cell.charter ≡ head.charter
  charter_of =
      let same : Head cell.charter ∷ map (λ e. Entry e) cell.journal ≡ Head head.charter ∷ (head.rest ++ begins.0) = begins.1 ∙ ap (λ l. l ++ begins.0) head.begins in
      cc

  pub clock_is : cell.charter.pass.clock ≡ clock
  clock_is = ap (λ (c : Charter). c.pass.clock) charter_of ∙ head.ticks

  pub shard_is : cell_shard_of cell.charter ≡ cell_shard
  shard_is = ap cell_shard_of charter_of ∙ head.serves
