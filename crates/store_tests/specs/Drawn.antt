-- The operations of a batch, as they are drawn block by block.
use Rattle.std.specs.Prelude.{ℕ, ◌≤◌, ◌<◌, List, length}
use Rattle.std.specs.List.{All}
use Rattle.quorum_rules.specs.Limits.{Numbers}
use Rattle.wire_forms.specs.declared.op.Op.{Op}
use Rattle.wire_forms.specs.Ops.{Fits}
use Rattle.protocol.specs.Seen.{block_of}
use Rattle.store_device.specs.Told.{AreApart}

-- each operation is on a block of its own below this one
pub record AreBelow (c : Numbers) (block : ℕ) (ops : List Op) : Type 0 where
  pub few : length ops ≤ block
  pub fits : All (Fits c) ops
  pub below : All (λ op. block_of op < block) ops
  pub apart : AreApart ops
