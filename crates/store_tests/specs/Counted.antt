-- How many asks a node has, and how many answers it gave.
use Rattle.std.specs.Prelude.{ℕ, List, length, Option}
use Rattle.std.specs.declared.option.Option.TheVariants.{None, Some}
use Rattle.std.specs.declared.vec.Vec.{Vec}
use Rattle.protocol.specs.Messages.{Ask, Reply}

-- how many answers, if it gave any
abbrev pub counted : Option (List Reply) → Option ℕ
counted None = None
counted (Some replies) = Some (length replies)

-- as many answers as asks
abbrev pub count_of : {Z : Type 0} → Vec Ask Z → Option ℕ
count_of asks = Some (length asks.items)
