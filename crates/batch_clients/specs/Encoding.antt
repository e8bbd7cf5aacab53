-- The values that writes are about to encode, and what was made of them.
use Rattle.std.specs.Prelude.{◌≡◌, ℕ, ◌<◌, List, length, slice_index_or, IsSomeAnd}
use Rattle.protocol.specs.Operations.{value_of}
use Rattle.protocol.specs.Operations.Stage.{Times}
use Rattle.frag_check.specs.declared.summed.Summed.{Summed}
use Rattle.write_core.specs.Made.{IsMadeFor}
use Rattle.client_core.specs.Clients.{operation_of}
use Rattle.batch_clients.specs.declared.turn.Turn.{Turn}
use Rattle.batch_clients.specs.declared.turn.Turn.TheVariants.{Hears}

-- the turn is that of a write of this value, which asks for times
abbrev pub WritesValue : Turn → List ℕ → Type 0
WritesValue (Hears id client replies) value = IsSomeAnd client.seen.task (λ t. (t.stage ≡ Times) × (value ≡ value_of t.work))
WritesValue turn value = ⊥

-- it stands at this place
abbrev pub WritesAt : List Turn → ℕ → List ℕ → Type 0
WritesAt turns place value = (place < length turns) × ((d : Turn) → WritesValue (slice_index_or turns place d) value)

-- the fragments and the cross checksum are those of the value that the turn's operation writes
abbrev pub IsMadeBy : Turn → Summed → Type 0
IsMadeBy (Hears id client replies) made = IsMadeFor (operation_of client) made
IsMadeBy turn made = Unit {0}

-- the turn stands at this place
abbrev pub IsMadeAt : List Turn → ℕ → Summed → Type 0
IsMadeAt turns place made = (place < length turns) × ((d : Turn) → IsMadeBy (slice_index_or turns place d) made)
