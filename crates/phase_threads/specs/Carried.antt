-- The courier of a phase, and what it leaves.
use Rattle.std.specs.Prelude.{◌≡◌, ℕ, map, All}
use Rattle.std.specs.declared.option.Option.TheVariants.{None}
use Rattle.std.specs.List.{Contains}
use Rattle.quorum_rules.specs.Limits.{Numbers}
use Rattle.receipt_lock.specs.Chits.{Holder as Chit}
use Rattle.journals.specs.declared.node.NodeEntry.{NodeEntry}
use Rattle.journals.specs.Steps.{side}
use Rattle.locked_nodes.specs.declared.charter.Item.{Item}
use Rattle.locked_nodes.specs.declared.charter.Item.TheVariants.{Entry}
use Rattle.client_endpoints.specs.Endpoint.{SharedCellsView, IsShared, AreItsVaults}
use Rattle.phase_threads.specs.declared.courier.Courier.{Courier}

-- of no entry that the chit left a client has a side
abbrev pub IsAside : Chit Item → Type 0
IsAside c = (at : ℕ) (n : NodeEntry) → Contains c.mine (at, Entry n) → side n.act ≡ None

-- it has a chit for each vault of the shared cells; none holds a cell, or has left what a client has a side of; and no refusal came
pub record CanCarry (of : SharedCellsView) (c : Courier) : Type 0 where
  pub config : Numbers
  pub shared_cells : IsShared config of
  pub own : AreItsVaults (map (λ x. x.vault) c.chits.items) of
  pub rest : All (λ x. x.holds ≡ None) c.chits.items
  pub aside : All IsAside c.chits.items
  pub sound : c.refused ≡ None

-- the chits are for the same vaults, none holds a cell, and no client has a side of what they left
pub record HasCarried (old new : Courier) : Type 0 where
  pub own : map (λ x. x.vault) new.chits.items ≡ map (λ x. x.vault) old.chits.items
  pub rest : All (λ x. x.holds ≡ None) new.chits.items
  pub aside : All IsAside new.chits.items
