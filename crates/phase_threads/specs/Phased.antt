-- How cells and desks stand side by side with what a phase makes of them.
use Rattle.std.specs.Prelude.{◌≡◌, ℕ, false, List, [], ◌∷◌, ◌++◌, length, map, reverse, slice_get}
use Rattle.std.specs.declared.option.Option.TheVariants.{None, Some}
use Rattle.thread_work.specs.Pairwise.{Beside}
use Rattle.receipt_lock.specs.Chits.{Holder as Chit, Deposit, new_chit}
use Rattle.receipt_lock.specs.Receipts.{IsSettled, EachHasOneReceipt, EachReceiptStands}
use Rattle.locked_nodes.specs.declared.charter.Item.{Item}
use Rattle.std.specs.Global.{Vec}
use Rattle.client_endpoints.specs.declared.transport.Transport.TheVariants.{Locks}
use Rattle.phase_threads.specs.declared.duty.Seat.{Seat}
use Rattle.phase_threads.specs.declared.thread_state.ThreadState.{ThreadState}
use Rattle.phase_threads.specs.declared.courier.Courier.{Courier}
use Rattle.phase_threads.specs.ThreadStates.{clients_in, couriers_in}
use Rattle.client_endpoints.specs.Endpoint.{EndpointView}
use Rattle.locked_nodes.specs.Cells.{CellView, items, rechartered}

-- the vault of so many chits into which the cell came
pub record IsVaultOf (count i : ℕ) (cell : CellView) (v : Deposit Item) : Type 0 where
  pub begun : v.id.begun ≡ items (rechartered cell false)
  pub chits : v.chits ≡ count
  pub ticks : cell.pass.clock ≡ cell.charter.pass.clock

-- a chit for each vault, none of which took anything
abbrev pub new_portion : List (Deposit Item) → List (Chit Item)
new_portion vaults = map (λ v. new_chit v.id) vaults

-- the endpoint of a seat's desk, with this portion, and the seat's duty
pub record IsClientOf {T : Type 0} (portion : List (Chit Item)) (i : ℕ) (seat : Seat T) (x : EndpointView × T) : Type 0 where
  pub chits : Vec (Chit Item)
  pub list : chits.items ≡ portion
  pub endpoint : x.0 ≡ record { began = seat.desk; desk = seat.desk; transport = Locks chits; refused = None }
  pub duty : x.1 ≡ seat.duty

-- the thread states of seats, and of a courier, each with such a portion
pub record AreStates {T : Type 0} (portion : List (Chit Item)) (seats : List (Seat T)) (states : List (ThreadState T)) : Type 0 where
  pub clients : Beside (IsClientOf portion) seats (clients_in states)
  pub courier : Courier
  pub one : couriers_in states ≡ courier ∷ []
  pub list : courier.chits.items ≡ portion
  pub sound : courier.refused ≡ None

-- from each list the last chit was taken
pub record AreTaken (old new : List (List (Chit Item))) (taken : List (Chit Item)) : Type 0 where
  pub count : length new ≡ length old
  pub all : length taken ≡ length old
  pub each : (i : ℕ) (was now : List (Chit Item)) (x : Chit Item) → slice_get old i ≡ Some was → slice_get new i ≡ Some now → slice_get taken i ≡ Some x → was ≡ now ++ x ∷ []

-- the chits for vault k, of portions in which the chit of the last vault comes first
abbrev pub AreChitsOf : ℕ → List (List (Chit Item)) → List (Chit Item) → Type 0
AreChitsOf k portions chits = Beside (λ i portion chit. slice_get (reverse portion) k ≡ Some chit) portions chits

-- the cell of vault k, which was closed with these portions' chits
pub record IsClosed (portions : List (List (Chit Item))) (k : ℕ) (v : Deposit Item) (cell : CellView) : Type 0 where
  pub chits : List (Chit Item)
  pub of : AreChitsOf k portions chits
  pub settled : IsSettled v.id.begun (items cell) chits
  pub one : EachHasOneReceipt v.id.begun (items cell) chits
  pub stands : EachReceiptStands v.id.begun (items cell) chits
