-- A client's way to nodes: what nodes told through it, and what stays of it.
use Rattle.std.specs.Prelude.{◌≡◌, ◌⊎◌, ℕ, List, [], ◌∷◌, ◌++◌, map, All, slice_get}
use Rattle.std.specs.declared.option.Option.TheVariants.{None, Some}
use Rattle.std.specs.declared.result.Result.TheVariants.{Ok}
use Rattle.std.specs.List.{Contains}
use Rattle.protocol.specs.Messages.{Message}
use Rattle.inboxes.specs.Sides.{InboxId, took}
use Rattle.receipt_lock.specs.Chits.{Holder as Chit, VaultId}
use Rattle.journals.specs.declared.node.NodeAct.{NodeAct}
use Rattle.journals.specs.declared.node.NodeEntry.{NodeEntry}
use Rattle.journals.specs.declared.desk.Way.{Way}
use Rattle.journals.specs.declared.desk.DeskAct.TheVariants.{Call}
use Rattle.journals.specs.declared.desk.DeskEntry.{DeskEntry}
use Rattle.journals.specs.Steps.{side}
use Rattle.locked_nodes.specs.declared.answers.Told.{Told}
use Rattle.locked_nodes.specs.declared.charter.Item.{Item}
use Rattle.locked_nodes.specs.declared.charter.Item.TheVariants.{Entry}
use Rattle.locked_nodes.specs.Cells.{entry, number_of, reply_told}
use Rattle.client_desks.specs.Desks.{desk_entry}
use Rattle.client_endpoints.specs.declared.asked.Asked.{Asked}
use Rattle.client_endpoints.specs.declared.asked.NodePlace.{NodePlace}
use Rattle.client_endpoints.specs.declared.answered.Answered.{Answered}
use Rattle.client_endpoints.specs.declared.answered.ClientPlace.{ClientPlace}
use Rattle.client_endpoints.specs.declared.mail.ByMail.{ByMail}
use Rattle.client_endpoints.specs.declared.transport.Transport.{Transport}
use Rattle.client_endpoints.specs.declared.transport.Transport.TheVariants.{Locks, Mail}
use Rattle.client_endpoints.specs.Asking.{HasEnded}

-- ---- what nodes told

-- the call of an ask that went this way and was told this
abbrev pub call_of : Way → Message → Told → DeskEntry
call_of way ask told = desk_entry (number_of told) (Call way ask (reply_told told))

-- one of the chits has a receipt of an entry of which this is client c's side
pub record HasReceipt (chits : List (Chit Item)) (c : ℕ) (e : DeskEntry) : Type 0 where
  pub place : ℕ
  pub chit : Chit Item
  pub there : slice_get chits place ≡ Some chit
  pub at : ℕ
  pub of : NodeEntry
  pub mine : Contains chit.mine (at, Entry of)
  pub number : of.number ≡ e.number
  pub agree : side of.act ≡ Some (c, e.act)

-- one of the answers tells this call of client c
pub record HasAnswer (answers : List (ℕ × Answered)) (c : ℕ) (e : DeskEntry) : Type 0 where
  pub from : ℕ
  pub answer : Answered
  pub there : Contains answers (from, answer)
  pub told : Told
  pub tells : answer.told ≡ Ok told
  pub client : answer.ask.client ≡ c
  pub is : e ≡ call_of answer.way answer.ask told

-- a node told this call of client c through the transport
abbrev pub IsTold : Transport → ℕ → DeskEntry → Type 0
IsTold (Locks chits) c e = HasReceipt chits.items c e
IsTold (Mail m) c e = HasAnswer (took m.answers) c e

-- through the transport was told what had been, and this call
pub record HasTold (old : Transport) (id : ℕ) (call : DeskEntry) (new : Transport) : Type 0 where
  pub kept : (c : ℕ) (e : DeskEntry) → IsTold old c e → IsTold new c e
  pub one : IsTold new id call
  pub only : (c : ℕ) (e : DeskEntry) → IsTold new c e → IsTold old c e ⊎ ((c ≡ id) × (e ≡ call))

-- a chit has one receipt more, for this entry
pub record HasLeft (was : Chit Item) (number : ℕ) (act : NodeAct) (now : Chit Item) : Type 0 where
  pub place : ℕ
  pub mine : now.mine ≡ was.mine ++ (place, Entry (entry number act)) ∷ []

-- of an entry of which this is client c's side
pub record LeavesSide (was : Chit Item) (c : ℕ) (e : DeskEntry) (now : Chit Item) : Type 0 where
  pub act : NodeAct
  pub left : HasLeft was e.number act now
  pub agree : side act ≡ Some (c, e.act)

-- ---- what stays

-- inboxes: as whom the client asks, those of the cells, that of its answers, and how many put into it
pub record Inboxes : Type 0 where
  pub seat : ℕ
  pub asks : List (InboxId Asked NodePlace)
  pub answers : InboxId Answered ClientPlace
  pub senders : ℕ

-- where a transport goes
pub data Route : Type 0 where
  -- to the cells in these vaults
  ToVaults : List (VaultId Item) → Route
  -- to the cells behind these inboxes
  ToInboxes : Inboxes → Route

abbrev pub inboxes_of : ByMail → Inboxes
inboxes_of m = record { seat = m.seat; asks = map (λ p. p.inbox) m.asks.items; answers = m.answers.inbox; senders = m.answers.senders }

abbrev pub route : Transport → Route
route (Locks chits) = ToVaults (map (λ c. c.vault) chits.items)
route (Mail m) = ToInboxes (inboxes_of m)

-- no chit holds a cell
abbrev pub AtRest : Transport → Type 0
AtRest (Locks chits) = All (λ c. c.holds ≡ None) chits.items
AtRest (Mail m) = Unit {0}

-- nodes have told nothing through it
abbrev pub IsNew : Transport → Type 0
IsNew (Locks chits) = All (λ c. c.mine ≡ []) chits.items
IsNew (Mail m) = took m.answers ≡ []

abbrev pub IsByLocks : Transport → Type 0
IsByLocks t = (chits : _) × (t ≡ Locks chits)

abbrev pub IsByMail : Transport → Type 0
IsByMail t = (m : ByMail) × (t ≡ Mail m)

-- what was told stays; by mail the last word of each node was taken
abbrev pub HaveEnded : Transport → Transport → Type 0
HaveEnded (Locks old) new = new ≡ Locks old
HaveEnded (Mail old) (Locks new) = ⊥
HaveEnded (Mail old) (Mail new) = HasEnded old new
