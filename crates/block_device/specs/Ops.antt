-- Steps as operations on blocks.
use Rattle.std.specs.Prelude.{ℕ, List, replicate, unwrap_or, Option}
use Rattle.wire_forms.specs.declared.op.Op.{Op}
use Rattle.wire_forms.specs.declared.op.Op.TheVariants as ops
use Rattle.protocol.specs.World.{Record}
use Rattle.block_device.specs.declared.steps.BlockStep.{BlockStep}
use Rattle.block_device.specs.declared.steps.BlockStep.TheVariants.{Read, Whole, Merge}
use Rattle.block_device.specs.Device.{merged}
use Rattle.block_device.specs.Latest.{latest_read}

-- an operation as a step
abbrev pub step_of : Op → BlockStep
step_of (ops.Read block) = Read block
step_of (ops.Write block value) = Whole block value

-- what was read of a block of this size, or zeros where nothing was
abbrev pub value_of : ℕ → Option (List ℕ) → List ℕ
value_of size seen = unwrap_or seen (replicate size 0)

-- the operation that a client's step on a block of this size is after these records: a merge writes the client's latest read of its block
-- with the step's bytes in their place
abbrev pub op_of : ℕ → ℕ → List Record → BlockStep → Op
op_of size client records (Read k) = ops.Read k
op_of size client records (Whole k value) = ops.Write k value
op_of size client records (Merge k at bytes) = ops.Write k (merged (value_of size (latest_read client k records)) at bytes)
