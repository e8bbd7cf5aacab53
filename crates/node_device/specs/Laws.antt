-- What puts and gets do in each run.
use Rattle.std.specs.Prelude.{◌≡◌, ◌<◌, ◌≤◌, ℕ, ◌+◌, ◌*◌, Bool, List, ◌++◌, length, slice_range}
use Rattle.std.specs.declared.option.Option.TheVariants.{None}
use Rattle.std.specs.List.{Contains}
use Rattle.quorum_rules.specs.Limits.{Numbers}
use Rattle.wire_forms.specs.declared.device.DeviceOp.TheVariants.{Get, Put}
use Rattle.block_device.specs.Ranges.{fault_of, touched}
use Rattle.block_device.specs.Device.{merged}
use Rattle.protocol.specs.Setting.{Setting}
use Rattle.protocol.specs.World.{World}
use Rattle.protocol.specs.Lines.{Line, IsRun}
use Rattle.protocol.specs.Instance.{setting_of, IsCluster}
use Rattle.protocol.specs.History.{Entry, IsHistory, NoClash}
use Rattle.node_device.specs.Moments.{values_at, array_of, IsQuiet}
use Rattle.node_device.specs.Commands.{IsDone, bytes_given}

-- the law holds of each cluster and of the history of each of its runs in which no two different strings that were seen share a digest
abbrev pub InEachHistory : (Numbers → Setting → List Entry → Type 0) → Type 0
InEachHistory law =
    (c : Numbers) (lying_node lying_client : ℕ → Bool) → IsCluster c lying_node
    → (lines : List (ℕ × Line)) (w : World) → IsRun (setting_of c lying_node lying_client) lines w
    → (history : List Entry) → IsHistory (setting_of c lying_node lying_client) w history
    → NoClash (setting_of c lying_node lying_client) w
    → law c (setting_of c lying_node lying_client) history

-- the device's bytes at a place of the run
abbrev pub array_at : Numbers → Setting → List Entry → ℕ → List ℕ
array_at c s history place = array_of c.blocks (values_at s history place)

-- while a put is done, each block that is left to it goes from its part of the array to its part of the array with the put's bytes in their place
abbrev pub PutsGoIn : Numbers → Setting → List Entry → Type 0
PutsGoIn c s history =
    (start : ℕ) (bytes : List ℕ) (own : List Entry) (from until : ℕ)
    → fault_of c (Put start bytes) ≡ None
    → IsDone c history (Put start bytes) own from until
    → (block : ℕ) → block < c.blocks → IsQuiet history own from until block
    → values_at s history until block ≡ slice_range (merged (array_at c s history from) start bytes) (block * c.size) ((block + 1) * c.size)

-- where each block is left to the put, the array is then the one before with the put's bytes in their place
abbrev pub PutsAreMerged : Numbers → Setting → List Entry → Type 0
PutsAreMerged c s history =
    (start : ℕ) (bytes : List ℕ) (own : List Entry) (from until : ℕ)
    → fault_of c (Put start bytes) ≡ None
    → IsDone c history (Put start bytes) own from until
    → ((block : ℕ) → block < c.blocks → IsQuiet history own from until block)
    → array_at c s history until ≡ merged (array_at c s history from) start bytes

-- a get whose blocks are left to it gives its range of the array
abbrev pub GetsGiveTheirRange : Numbers → Setting → List Entry → Type 0
GetsGiveTheirRange c s history =
    (start len : ℕ) (own : List Entry) (from until : ℕ)
    → fault_of c (Get start len) ≡ None
    → IsDone c history (Get start len) own from until
    → ((block : ℕ) → Contains (touched c (Get start len)) block → IsQuiet history own from until block)
    → bytes_given c.size own start len ≡ slice_range (array_at c s history from) start (start + len)

-- a get after a put of its range gives what was put, where nobody else works on its blocks from the put's beginning to the get's end
abbrev pub GetsGiveWhatWasPut : Numbers → Setting → List Entry → Type 0
GetsGiveWhatWasPut c s history =
    (start : ℕ) (bytes : List ℕ) (own later : List Entry) (from until again end : ℕ)
    → fault_of c (Put start bytes) ≡ None
    → IsDone c history (Put start bytes) own from until
    → IsDone c history (Get start (length bytes)) later again end
    → until ≤ again
    → ((block : ℕ) → Contains (touched c (Get start (length bytes))) block → IsQuiet history (own ++ later) from end block)
    → bytes_given c.size later start (length bytes) ≡ bytes
