-- The turns in parts, of which each is one thread's.
use Rattle.std.specs.Prelude.{List, All}
use Rattle.std.specs.List.{AllZip}
use Rattle.batch_clients.specs.declared.part.Part.{Part}
use Rattle.batch_clients.specs.declared.turn.Turn.{Turn}
use Rattle.batch_clients.specs.Turns.{MayTake, Comes}

abbrev pub turns_of : Part → List Turn
turns_of part = part.turns.items

-- the turns of the part may be taken
abbrev pub IsPart : Part → Type 0
IsPart part = All (MayTake part.config) (turns_of part)

-- each of them came to what it comes to
abbrev pub IsTaken : Part → Part → Type 0
IsTaken old new = AllZip Comes (turns_of old) (turns_of new)
