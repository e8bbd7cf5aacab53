-- A device's bytes as one array.
use Rattle.std.specs.Prelude.{◌≡◌, ℕ, ◌+◌, ◌<◌, ◌≤◌, Bool, if◌then◌else◌, List, length, slice_set}
use Rattle.std.specs.List.{flat_map}
use Rattle.quorum_rules.specs.Limits.{IsValid}
use Rattle.protocol.specs.Setting.{zeros, IsBlock}
use Rattle.protocol.specs.Instance.{setting}
use Rattle.node_device.specs.Held.{Held, held_at, rewritten}
use Rattle.node_device.specs.Devices.{SeenDevice}

-- the bytes of a block
abbrev pub value_of : Held → List ℕ
value_of h = h.value

-- the bytes of all blocks, one after the other
abbrev pub array_of : List Held → List ℕ
array_of held = flat_map value_of held

-- the time of the latest write of block k, 0 where there was none
abbrev pub time_at : SeenDevice → ℕ → ℕ
time_at d k = (held_at d.config d.held k).time

-- a device in order: each of its blocks is one, of zeros where it was never written, and there are at most 65,536
pub record IsInOrder (d : SeenDevice) : Type 0 where
  pub valid : IsValid d.config
  pub few : d.config.blocks ≤ 65536
  pub count : length d.held ≡ d.config.blocks
  pub blocks : (k : ℕ) → k < d.config.blocks → IsBlock (setting d.config) (held_at d.config d.held k).value
  pub unwritten : (k : ℕ) → k < d.config.blocks → time_at d k ≡ 0 → (held_at d.config d.held k).value ≡ zeros (setting d.config)

-- no block was written more often
abbrev pub IsWrittenUpTo : ℕ → SeenDevice → Type 0
IsWrittenUpTo most d = (k : ℕ) → k < d.config.blocks → time_at d k ≤ most

-- reads change the count of operations alone, by at most so many
pub record HasRead (most : ℕ) (old new : SeenDevice) : Type 0 where
  pub same : new ≡ record old { started = new.started }
  pub steps : new.started ≤ old.started + most

-- one where it is so
abbrev pub once : Bool → ℕ
once written = if written then 1 else 0

-- these blocks were written once more, and no other
abbrev pub HaveTimes : (ℕ → Bool) → SeenDevice → SeenDevice → Type 0
HaveTimes wrote old new = (k : ℕ) → k < old.config.blocks → time_at new k ≡ time_at old k + once (wrote k)

-- the array is this one now, and these blocks were written once more
pub record HasWritten (most : ℕ) (array : List ℕ) (wrote : ℕ → Bool) (old new : SeenDevice) : Type 0 where
  pub order : IsInOrder new
  pub config : new.config ≡ old.config
  pub life : new.life ≡ old.life
  pub bytes : array_of new.held ≡ array
  pub times : HaveTimes wrote old new
  pub steps : new.started ≤ old.started + most

-- this block was written once more, and has this value now; nothing else changed but the count of operations, by two at most
pub record HasWrittenOne (old : SeenDevice) (k : ℕ) (value : List ℕ) (new : SeenDevice) : Type 0 where
  pub same : new ≡ record old { held = slice_set old.held k (rewritten (held_at old.config old.held k) value); started = new.started }
  pub block : IsBlock (setting old.config) value
  pub steps : new.started ≤ old.started + 2
