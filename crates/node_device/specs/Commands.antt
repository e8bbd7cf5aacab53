-- The operations of a device command in a history.
use Rattle.std.specs.Prelude.{◌≡◌, ◌≤◌, ℕ, ◌+◌, ◌%◌, List, [], ◌∷◌, map, slice_range}
use Rattle.std.specs.declared.option.Option.TheVariants.{Some}
use Rattle.std.specs.List.{Contains, concat}
use Rattle.quorum_rules.specs.Limits.{Numbers}
use Rattle.wire_forms.specs.declared.device.DeviceOp.{DeviceOp}
use Rattle.block_device.specs.declared.steps.BlockStep.{BlockStep}
use Rattle.block_device.specs.declared.steps.BlockStep.TheVariants.{Read as Reads, Whole, Merge}
use Rattle.block_device.specs.Steps.{steps_of}
use Rattle.block_device.specs.Device.{merged}
use Rattle.protocol.specs.Count.{update}
use Rattle.protocol.specs.History.{Entry, Kind}
use Rattle.protocol.specs.History.Kind.{Read, Write}
use Rattle.node_device.specs.Moments.{HasBegunFrom}

-- the operation is that of the step: a read, a write of the whole block, or a write of what was seen of the block with the step's bytes in their place
abbrev pub IsStep : (ℕ → List ℕ) → BlockStep → Entry → Type 0
IsStep seen (Reads block) e = (e.kind ≡ Read) × (e.block ≡ block)
IsStep seen (Whole block value) e = (e.kind ≡ Write) × (e.block ≡ block) × (e.value ≡ value)
IsStep seen (Merge block at bytes) e = (e.kind ≡ Write) × (e.block ≡ block) × (e.value ≡ merged (seen block) at bytes)

-- what was seen of blocks after an operation: a read sees the value that it gives
abbrev pub seen_after : Kind → Entry → (ℕ → List ℕ) → ℕ → List ℕ
seen_after Read e seen = update seen e.block e.value
seen_after _ e seen = seen

-- the operations are those of the steps: the first begins at the first place or later, each further one after the one before it has ended, and the last ends before the last place
abbrev pub AreSteps : (ℕ → List ℕ) → ℕ → List BlockStep → List Entry → ℕ → Type 0
AreSteps seen from [] [] until = from ≤ until
AreSteps seen from (step ∷ steps) (e ∷ es) until =
    IsStep seen step e × HasBegunFrom from e × ((end : ℕ) × (e.end ≡ Some end) × AreSteps (seen_after e.kind e seen) (end + 1) steps es until)
AreSteps seen from [] (e ∷ es) until = ⊥
AreSteps seen from (step ∷ steps) [] until = ⊥

-- these operations of the history are the steps of the command, one after the other, from the one place up to the other
pub record IsDone (c : Numbers) (history : List Entry) (op : DeviceOp) (own : List Entry) (from until : ℕ) : Type 0 where
  pub there : (e : Entry) → Contains own e → Contains history e
  -- what had been seen of blocks before the command
  pub seen : ℕ → List ℕ
  pub steps : AreSteps seen from (steps_of c op) own until

-- the bytes that a get gives whose reads are these: their values one after the other, cut to the range
abbrev pub bytes_given : ℕ → List Entry → ℕ → ℕ → List ℕ
bytes_given size own start len = slice_range (concat (map (λ e. e.value) own)) (start % size) (start % size + len)
