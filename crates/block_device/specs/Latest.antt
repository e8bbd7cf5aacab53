-- What a client read last of a block, as the records of operations tell.
use Rattle.std.specs.Prelude.{◌≡◌, ℕ, ◌&&◌, ◌==◌, if◌then◌else◌, List, [], ◌∷◌, length, Option}
use Rattle.std.specs.declared.option.Option.TheVariants.{None, Some}
use Rattle.std.specs.List.{Contains}
use Rattle.run_words.specs.declared.outcome.Outcome.TheVariants.{Gave}
use Rattle.protocol.specs.Operations.{Outcome}
use Rattle.protocol.specs.World.{Record}

-- the value that a read gave
abbrev pub value_given : Option Outcome → Option (List ℕ)
value_given (Some (Gave stamp value how rounds)) = Some value
value_given _ = None

-- the value that the client's read of the block gave, if this is one that has
abbrev pub read_by : ℕ → ℕ → Record → Option (List ℕ)
read_by client block r = if (r.client == client) && (r.block == block) then value_given r.outcome else None

-- what there is, or else the other
abbrev pub or_else : Option (List ℕ) → Option (List ℕ) → Option (List ℕ)
or_else (Some x) other = Some x
or_else None other = other

-- the value that the client's latest ended read of the block gave, if there is one
abbrev pub latest_read : ℕ → ℕ → List Record → Option (List ℕ)
latest_read client block [] = None
latest_read client block (r ∷ rs) = or_else (latest_read client block rs) (read_by client block r)

-- each value that a read gave has this length
abbrev pub AreWhole : ℕ → List Record → Type 0
AreWhole size records = (r : Record) (value : List ℕ) → Contains records r → value_given r.outcome ≡ Some value → length value ≡ size
