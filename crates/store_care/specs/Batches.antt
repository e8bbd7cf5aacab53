-- Operations that one batch may have.
use Rattle.std.specs.Prelude.{ℕ, ◌<◌, List}
use Rattle.std.specs.List.{All}
use Rattle.quorum_rules.specs.Limits.{Numbers}
use Rattle.wire_forms.specs.declared.op.Op.{Op}
use Rattle.wire_forms.specs.Ops.{Fits}
use Rattle.protocol.specs.Seen.{block_of}
use Rattle.store_device.specs.Told.{AreApart}

-- the operations are on blocks of their own, all of them below this one, and fit the cluster
pub record AreBelow (c : Numbers) (end : ℕ) (ops : List Op) : Type 0 where
  pub apart : AreApart ops
  pub fits : All (Fits c) ops
  pub below : All (λ op. block_of op < end) ops
