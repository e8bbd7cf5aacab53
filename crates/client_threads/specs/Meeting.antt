-- What a run is after one pass met all others.
use Rattle.std.specs.Prelude.{◌≡◌, ◌≤◌, All}
use Rattle.std.specs.List.{AllZip}
use Rattle.client_threads.specs.declared.state.Run.{Run}
use Rattle.client_threads.specs.Met.{IsKeeper, HasMetCell, HasMetSeat}
use Rattle.client_threads.specs.Running.{plan_of, clients_of}

-- but for what the passes have seen it is as it was: each has seen what the one had before, and the one has seen what any has
pub record HasMetAll (old new : Run) : Type 0 where
  pub plan : plan_of new ≡ plan_of old
  pub clock : new.clock ≡ old.clock
  pub begun : new.begun ≡ old.begun
  pub keeper : IsKeeper old.keeper new.keeper
  pub cells : AllZip HasMetCell old.cells.items new.cells.items
  pub seats : AllZip HasMetSeat old.clients.items new.clients.items
  pub cells_seen : All (λ c. (old.keeper.seen ≤ c.pass.seen) × (c.pass.seen ≤ new.keeper.seen)) new.cells.items
  pub desks_seen : All (λ d. (old.keeper.seen ≤ d.pass.seen) × (d.pass.seen ≤ new.keeper.seen)) (clients_of new)
