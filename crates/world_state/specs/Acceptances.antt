-- What a node accepts, as it is told.
use Rattle.std.specs.Prelude.{ℕ, Option}
use Rattle.std.specs.declared.option.Option.TheVariants.{None, Some}
use Rattle.run_words.specs.declared.record.Accepted.{Accepted}
use Rattle.protocol.specs.Messages.{Version}

-- the acceptance of a version by the node of this number, as it is told
abbrev pub told_of : ℕ → ℕ → Option Version → Option Accepted
told_of i block None = None
told_of i block (Some v) = Some (record { node = i; block = block; stamp = v.stamp })
