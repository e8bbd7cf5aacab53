-- The steps of a command.
use Rattle.std.specs.Prelude.{◌≡◌, ℕ, ◌+◌, ◌-◌, ◌*◌, ◌<◌, ◌≤◌, if◌then◌else◌, List, [], ◌∷◌, length}
use Rattle.std.specs.List.{flat_map}
use Rattle.quorum_rules.specs.Limits.{Numbers}
use Rattle.wire_forms.specs.declared.device.DeviceOp.{DeviceOp}
use Rattle.wire_forms.specs.declared.device.DeviceOp.TheVariants.{Get, Put}
use Rattle.block_device.specs.Ranges.{is_covered, bytes_in, touched}
use Rattle.block_device.specs.declared.steps.BlockStep.{BlockStep}
use Rattle.block_device.specs.declared.steps.BlockStep.TheVariants.{Read, Whole, Merge}

-- the steps of a put in block k, where it writes bytes from start on: the whole block where it covers it
unfoldable pub put_steps : ℕ → ℕ → List ℕ → ℕ → List BlockStep
put_steps size start bytes k =
    if is_covered size start (length bytes) k then Whole k (bytes_in size start bytes k) ∷ []
    else Read k ∷ Merge k (start - k * size) (bytes_in size start bytes k) ∷ []

-- the steps of a command in block k
abbrev pub steps_in : ℕ → DeviceOp → ℕ → List BlockStep
steps_in size (Get offset len) k = Read k ∷ []
steps_in size (Put offset bytes) k = put_steps size offset bytes k

-- the steps of a command, block by block
abbrev pub steps_of : Numbers → DeviceOp → List BlockStep
steps_of c op = flat_map (steps_in c.size op) (touched c op)

-- the step's block is one of the cluster's, and what it writes has its place there
abbrev pub Fits : Numbers → BlockStep → Type 0
Fits c (Read k) = k < c.blocks
Fits c (Whole k value) = (k < c.blocks) × (length value ≡ c.size)
Fits c (Merge k at bytes) = (k < c.blocks) × (at + length bytes ≤ c.size)
