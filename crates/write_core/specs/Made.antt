-- What is made of a value before it is stored.
use Rattle.std.specs.Prelude.{◌≡◌, ℕ, List, Option, IfSome}
use Rattle.gf_field.specs.Fragments.{fragments_of}
use Rattle.ida_code.specs.Sums.{sum_of}
use Rattle.quorum_rules.specs.Limits.{Numbers}
use Rattle.protocol.specs.Operations.{value_of}
use Rattle.protocol.specs.Seen.{SeenOperation}
use Rattle.frag_check.specs.declared.summed.Summed.{Summed}
use Rattle.write_core.specs.Writers.{IsWriter}

-- the fragments and the cross checksum are those of this value
pub record IsMadeOf (c : Numbers) (value : List ℕ) (made : Summed) : Type 0 where
  pub shares : made.shares ≡ fragments_of c.n c.m value
  pub sum : made.sum ≡ sum_of c.n c.m value

-- they are those of the value that the operation writes, unless it is over
abbrev pub IsMadeFor : SeenOperation → Summed → Type 0
IsMadeFor o made = IfSome o.task (λ t. IsMadeOf o.config (value_of t.work) made)

-- the operation writes, and what was made ahead was made for it
pub record IsWriting (o : SeenOperation) (ahead : Option Summed) : Type 0 where
  pub writer : IsWriter o
  pub made : IfSome ahead (IsMadeFor o)
