-- What a line makes of the world, and what it asks of it.
use Rattle.std.specs.Prelude.{◌≡◌, ℕ}
use Rattle.std.specs.declared.option.Option.TheVariants.{Some}
use Rattle.wire_forms.specs.declared.message.Body.TheVariants.{Ask as Asks}
use Rattle.protocol.specs.Messages.{Ask, Message}
use Rattle.protocol.specs.Operations.{Task}
use Rattle.protocol.specs.Lines.{Line, plays}
use Rattle.world_state.specs.Worlds.{WorldView, setting_in, world_in}
use Rattle.world_state.specs.Changes.{HasBecome}

-- the world became what a line makes of it
abbrev pub IsPlayedBy : WorldView → WorldView → ℕ → Line → Type 0
IsPlayedBy old new place line = HasBecome old new (plays (setting_in old) (world_in old) place line)

-- the client does something
abbrev pub IsWorking : WorldView → ℕ → Type 0
IsWorking v c = (task : Task) × ((world_in v).task c ≡ Some task)

-- an ask to this node
abbrev pub IsAskOf : ℕ → Message → Type 0
IsAskOf i m = (m.node ≡ i) × (ask : Ask) × (m.body ≡ Asks ask)
