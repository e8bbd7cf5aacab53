-- A whole connection: a handshake, and then a session.
use Rattle.std.specs.Prelude.{◌≡◌, ◌⊎◌, ℕ, ◌*◌, ◌^◌, ◌<◌, ◌≤◌, List, Option, Result, Ok, Err}
use Rattle.disk_model.specs.Crash.{Pending}
use Rattle.quorum_rules.specs.Limits.{Numbers}
use Rattle.nbd_handshake.specs.declared.export.Export.{Export}
use Rattle.nbd_handshake.specs.declared.ending.Agreement.{Agreement}
use Rattle.nbd_handshake.specs.declared.ending.Agreement.TheVariants.{Transmission, Departure}
use Rattle.nbd_handshake.specs.declared.ending.HandshakeFault.{HandshakeFault}
use Rattle.nbd_handshake.specs.Handshakes.{IsHandshake}
use Rattle.nbd_front.specs.declared.ending.SessionEnd.{SessionEnd}
use Rattle.store_device.specs.Stores.{SeenStore}
use Rattle.store_front.specs.declared.connection.ConnectionEnd.{ConnectionEnd}
use Rattle.store_front.specs.declared.connection.ConnectionEnd.TheVariants.{Handshake, Session}
use Rattle.store_front.specs.Sessions.{IsSession}

-- the least power of two that is at least 512 and at least so many
pub record IsPreferred (size preferred : ℕ) : Type 0 where
  pub power : (k : ℕ) × (preferred ≡ 2 ^ k)
  pub least : 512 ≤ preferred
  pub enough : size ≤ preferred
  pub first : (preferred ≡ 512) ⊎ (preferred < 2 * size)

-- what is told of a store
pub record IsExport (c : Numbers) (e : Export) : Type 0 where
  pub size : e.size ≡ c.size * c.blocks
  pub preferred : IsPreferred c.size e.preferred

module _ {D : Type 0} (pending : D → Pending) (seen : D → List ℕ) (capacity : D → ℕ) (moment : D → ℕ) (left_since : D → ℕ → List ℕ → Type 0)
    (keeps : SeenStore D → SeenStore D → Type 0) (c : Numbers) (old new : SeenStore D) (left left_after taken taken_after : Option (List ℕ)) where
  -- a handshake by which transmission begins, and a session behind it
  pub record IsServed (result : Result Unit SessionEnd) : Type 0 where
    pub export : Export
    pub told : IsExport c export
    pub left_between : Option (List ℕ)
    pub taken_between : Option (List ℕ)
    pub agreed : IsHandshake export (Ok Transmission) left left_between taken taken_between
    pub session : IsSession pending seen capacity moment left_since keeps c old new result left_between left_after taken_between taken_after

  -- a handshake by which none begins: the store is as it was
  abbrev pub IsNotServed : Result Agreement HandshakeFault → Type 0
  IsNotServed end = (export : Export) × IsExport c export × IsHandshake export end left left_after taken taken_after × (new ≡ old)

  -- what became of a connection
  abbrev pub IsConnection : Result Unit ConnectionEnd → Type 0
  IsConnection (Ok done) = IsNotServed (Ok Departure) ⊎ IsServed (Ok done)
  IsConnection (Err (Handshake fault)) = IsNotServed (Err fault)
  IsConnection (Err (Session end)) = IsServed (Err end)
