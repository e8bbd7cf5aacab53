-- A desk with its transport to the nodes, what the two say of each other, and what each call adds.
use Rattle.std.specs.Prelude.{◌≡◌, ◌⊎◌, ℕ, ◌<◌, ◌≤◌, List, [], ◌∷◌, ◌++◌, length, map, All, Option, slice_get}
use Rattle.std.specs.declared.option.Option.TheVariants.{None, Some}
use Rattle.std.specs.declared.result.Result.{Result}
use Rattle.std.specs.declared.result.Result.TheVariants.{Ok, Err}
use Rattle.std.specs.List.{Contains}
use Rattle.quorum_rules.specs.Limits.{Numbers}
use Rattle.protocol.specs.Messages.{Message, Body}
use Rattle.wire_forms.specs.declared.message.Body.TheVariants.{Ask as Asks, Answer as Answers}
use Rattle.protocol.specs.Operations.{Outcome}
use Rattle.inboxes.specs.Sides.{InboxId}
use Rattle.event_clock.specs.Passes.{ClockId}
use Rattle.receipt_lock.specs.Chits.{Deposit, VaultId}
use Rattle.journals.specs.declared.desk.Way.{Way}
use Rattle.journals.specs.declared.desk.Way.TheVariants.{Call as ByCall, Hold}
use Rattle.journals.specs.declared.desk.DeskAct.TheVariants.{Call}
use Rattle.journals.specs.declared.desk.DeskEntry.{DeskEntry}
use Rattle.journals.specs.Steps.{IsOwn}
use Rattle.locked_nodes.specs.declared.answers.CellRefusal.{CellRefusal}
use Rattle.locked_nodes.specs.declared.charter.Charter.{Charter}
use Rattle.locked_nodes.specs.declared.charter.Item.{Item}
use Rattle.locked_nodes.specs.declared.charter.Item.TheVariants.{Head}
use Rattle.locked_nodes.specs.declared.cell_shard.CellShard.{CellShard}
use Rattle.locked_nodes.specs.CellShards.{cell_shard_of, IsFor, Cover}
use Rattle.client_desks.specs.Desks.{DeskView, state_at, asks_of, with_call, ending}
use Rattle.client_endpoints.specs.declared.asked.Asked.{Asked}
use Rattle.client_endpoints.specs.declared.asked.NodePlace.{NodePlace}
use Rattle.client_endpoints.specs.declared.shared_cells.Cells.{Cells}
use Rattle.client_endpoints.specs.declared.shared_cells.Cells.TheVariants.{Vaults, Threads}
use Rattle.client_endpoints.specs.declared.transport.Transport.{Transport}
use Rattle.client_endpoints.specs.Transports.{IsTold, HasTold, Inboxes, Route, route, AtRest}
use Rattle.client_endpoints.specs.Transports.Route.{ToVaults, ToInboxes}

-- how the list of the cell of a shard begins, in a cluster of these numbers, by this clock: with a charter for the shard
pub record IsHead (config : Numbers) (clock : ClockId) (cell_shard : CellShard) (begun : List Item) : Type 0 where
  pub charter : Charter
  pub rest : List Item
  pub begins : begun ≡ Head charter ∷ rest
  pub cluster : charter.config ≡ config
  pub serves : cell_shard_of charter ≡ cell_shard
  pub ticks : charter.pass.clock ≡ clock

-- which clock threads share, the shards of the cells, and where these are
pub record SharedCellsView : Type 0 where
  pub clock : ClockId
  pub cell_shards : List CellShard
  pub cells : Cells

abbrev pub vaults_in : Cells → List (Deposit Item)
vaults_in (Vaults v) = v.items
vaults_in Threads = []

abbrev pub AreInVaults : Cells → Type 0
AreInVaults cells = (vaults : _) × (cells ≡ Vaults vaults)

abbrev pub vaults_of : SharedCellsView → List (Deposit Item)
vaults_of shared_cells = vaults_in shared_cells.cells

-- each block of a node has its place, and each vault has the cell of its shard
pub record IsShared (config : Numbers) (shared_cells : SharedCellsView) : Type 0 where
  pub some : All (λ s. 0 < s.shards) shared_cells.cell_shards
  pub cover : Cover config.n shared_cells.cell_shards
  pub each : (k : ℕ) (s : CellShard) (v : Deposit Item) → slice_get shared_cells.cell_shards k ≡ Some s → slice_get (vaults_of shared_cells) k ≡ Some v → IsHead config shared_cells.clock s v.id.begun

-- a desk as it was before the first ask and as it is, its transport to the nodes, and the refusal that ended its work, if one came
pub record EndpointView : Type 0 where
  pub began : DeskView
  pub desk : DeskView
  pub transport : Transport
  pub refused : Option CellRefusal

-- what stays of an endpoint
pub record Fixed : Type 0 where
  pub began : DeskView
  pub route : Route

abbrev pub fixed : EndpointView → Fixed
fixed endpoint = record { began = endpoint.began; route = route endpoint.transport }

-- each call that a node told stands on the desk; and each entry of the desk is its own, or of before the first ask, or such a call
pub record Agree (began desk : DeskView) (transport : Transport) : Type 0 where
  pub told : (c : ℕ) (e : DeskEntry) → IsTold transport c e → (c ≡ desk.id) × Contains desk.entries e
  pub asked : (e : DeskEntry) → Contains desk.entries e → IsOwn e.act ⊎ (Contains began.entries e ⊎ IsTold transport desk.id e)

-- what an endpoint keeps: no chit holds a cell, and until a refusal came, desk and transport agree
pub record IsEndpoint (began desk : DeskView) (transport : Transport) (refused : Option CellRefusal) : Type 0 where
  pub rest : AtRest transport
  pub agree : refused ≡ None → Agree began desk transport

-- the vaults are the shared cells', one for each shard, in their order
pub record AreItsVaults (vaults : List (VaultId Item)) (of : SharedCellsView) : Type 0 where
  pub count : length of.cell_shards ≡ length (vaults_of of)
  pub own : vaults ≡ map (λ v. v.id) (vaults_of of)

-- the place of the asks to the cell of this shard, at which the client has this seat
pub record IsAskPlace (of : ClockId) (s : CellShard) (seat id : ℕ) (place : NodePlace) : Type 0 where
  pub clock : place.clock.value ≡ of
  pub cell_shard : place.cell_shard ≡ s
  pub client : slice_get place.clients.value seat ≡ Some id

-- the inboxes are for the cells of the shared cells' shards, in their order, and the answers are the client's
pub record AreItsInboxes (id : ℕ) (boxes : Inboxes) (of : SharedCellsView) : Type 0 where
  pub client : boxes.answers.place.client ≡ id
  pub ticks : boxes.answers.place.clock.value ≡ of.clock
  pub count : length boxes.asks ≡ length of.cell_shards
  pub each : (k : ℕ) (i : InboxId Asked NodePlace) (s : CellShard) → slice_get boxes.asks k ≡ Some i → slice_get of.cell_shards k ≡ Some s → IsAskPlace of.clock s boxes.seat id i.place

-- the client reaches the shared cells' cells so
abbrev pub Reaches : ℕ → Route → SharedCellsView → Type 0
Reaches id (ToVaults vaults) of = AreItsVaults vaults of
Reaches id (ToInboxes boxes) of = AreItsInboxes id boxes of

-- the endpoint is for these cells: it is that of the desk's cluster and clock, and it reaches them
pub record Fit (endpoint : EndpointView) (of : SharedCellsView) : Type 0 where
  pub shared_cells : IsShared endpoint.desk.config of
  pub ticks : endpoint.desk.pass.clock ≡ of.clock
  pub own : Reaches endpoint.desk.id (route endpoint.transport) of

-- the refusal in an answer, if there is one
abbrev pub refusal_in : {A : Type 0} → Result A CellRefusal → Option CellRefusal
refusal_in (Ok x) = None
refusal_in (Err e) = Some e

-- the body is an ask on this block
abbrev pub IsAskOn : ℕ → Body → Type 0
IsAskOn block (Asks ask) = ask.block ≡ block
IsAskOn block (Answers reply) = ⊥

-- what the client's phase asks of the node is on this block
abbrev pub AsksOn : DeskView → ℕ → ℕ → Type 0
AsksOn d node block = (ask : Message) → asks_of d node ≡ Some ask → IsAskOn block ask.body

-- a list that begins so is that of a cell which serves the ask, and to which it may come this way
pub record CanMeet (config : Numbers) (clock : ClockId) (way : Way) (ask : Message) (begun : List Item) : Type 0 where
  pub cell_shard : CellShard
  pub head : IsHead config clock cell_shard begun
  pub block : ℕ
  pub is : IsFor cell_shard ask.node block
  pub on : IsAskOn block ask.body
  pub whole : way ≡ Hold → cell_shard.shards ≡ 1

-- the desk asked the node this, in this way, and has the call and its reply, under a number not below any that its pass had seen
pub record HasAsked (old : DeskView) (way : Way) (ask : Message) (reply : Option Message) (new : DeskView) : Type 0 where
  pub number : ℕ
  pub later : old.pass.seen ≤ number
  pub desk : new ≡ with_call old number (Call way ask reply)

-- it asked what the client's phase asks of the node, and the outcome is that of the operation that the reply ended, if it ended one
pub record HasCalled (old : DeskView) (node : ℕ) (way : Way) (outcome : Option Outcome) (new : DeskView) : Type 0 where
  pub ask : Message
  pub asked : asks_of old node ≡ Some ask
  pub reply : Option Message
  pub call : HasAsked old way ask reply new
  pub ended : outcome ≡ ending (state_at old).client reply

-- it sent the node this ask
abbrev pub HasSent : DeskView → Message → DeskView → Type 0
HasSent old ask new = (reply : Option Message) × HasAsked old ByCall ask reply new

-- the desk has one entry more, the call that was told through the transport
pub record AddBoth (old : DeskView) (was : Transport) (new : DeskView) (now : Transport) : Type 0 where
  pub call : DeskEntry
  pub told : HasTold was old.id call now
  pub id : new.id ≡ old.id
  pub entries : new.entries ≡ old.entries ++ call ∷ []
