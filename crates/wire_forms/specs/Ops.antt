-- Operations of clients.
use Rattle.std.specs.Prelude.{◌≡◌, ◌<◌, length}
use Rattle.quorum_rules.specs.Limits.{Numbers}
use Rattle.wire_forms.specs.declared.op.Op.{Op}
use Rattle.wire_forms.specs.declared.op.Op.TheVariants.{Read, Write}

-- the configuration has the block, and a value that is written has a block's length
abbrev pub Fits : Numbers → Op → Type 0
Fits c (Read block) = block < c.blocks
Fits c (Write block value) = (block < c.blocks) × (length value ≡ c.size)
