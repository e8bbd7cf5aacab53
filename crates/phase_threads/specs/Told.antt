-- What nodes told in a phase, and what their cells have more of it.
use Rattle.std.specs.Prelude.{◌≡◌, ◌⊎◌, ℕ, List, slice_get}
use Rattle.std.specs.declared.option.Option.TheVariants.{Some}
use Rattle.std.specs.List.{Contains}
use Rattle.journals.specs.declared.node.NodeEntry.{NodeEntry}
use Rattle.journals.specs.declared.desk.DeskAct.{DeskAct}
use Rattle.journals.specs.declared.desk.DeskEntry.{DeskEntry}
use Rattle.journals.specs.Steps.{side}
use Rattle.locked_nodes.specs.Cells.{CellView}
use Rattle.client_desks.specs.Desks.{DeskView, desk_entry}
use Rattle.client_desks.specs.Later.{IsLater}
use Rattle.client_endpoints.specs.declared.transport.Transport.{Transport}
use Rattle.client_endpoints.specs.Transports.{IsTold}
use Rattle.client_endpoints.specs.Endpoint.{EndpointView, Agree, fixed}
use Rattle.phase_threads.specs.Standing.{HasSideIn}

-- an endpoint whose desk went on, and of which stays what is fixed
pub record GoesOn (old new : EndpointView) : Type 0 where
  pub later : IsLater old.desk new.desk
  pub stays : fixed new ≡ fixed old

-- the call of client c was told through one of the transports
pub record IsToldIn (transports : List Transport) (c : ℕ) (e : DeskEntry) : Type 0 where
  pub seat : ℕ
  pub transport : Transport
  pub there : slice_get transports seat ≡ Some transport
  pub told : IsTold transport c e

-- the entries that cells have more and of which a client has a side are just what was told through the transports
pub record AreJustTold (old new : List CellView) (transports : List Transport) : Type 0 where
  pub told : (k : ℕ) (was cell : CellView) (n : NodeEntry) (c : ℕ) (act : DeskAct) → slice_get old k ≡ Some was → slice_get new k ≡ Some cell → Contains cell.journal n → side n.act ≡ Some (c, act) → Contains was.journal n ⊎ IsToldIn transports c (desk_entry n.number act)
  pub stands : (i : ℕ) (t : Transport) (c : ℕ) (e : DeskEntry) → slice_get transports i ≡ Some t → IsTold t c e → HasSideIn new c e

-- a desk after a phase: it went on from its seat's, and agrees with what was told through its transport
pub record HasHeard (olds : List DeskView) (seat : ℕ) (transport : Transport) (new : DeskView) : Type 0 where
  pub old : DeskView
  pub there : slice_get olds seat ≡ Some old
  pub later : IsLater old new
  pub agree : Agree old new transport
