-- Ranges of a device's bytes. Block k has `size` bytes, at the places from k * size on.
use Rattle.std.specs.Prelude.{ℕ, ◌+◌, ◌-◌, ◌*◌, ◌<◌, ◌≤◌, min, max, Bool, ◌&&◌, ◌==◌, nat_lt, nat_le, if◌then◌else◌, List, length, Option}
use Rattle.std.specs.declared.option.Option.TheVariants.{None, Some}
use Rattle.std.specs.List.{slice_range, filter, range_with_len}
use Rattle.quorum_rules.specs.Limits.{Numbers}
use Rattle.wire_forms.specs.declared.device.DeviceOp.{DeviceOp}
use Rattle.wire_forms.specs.declared.device.DeviceOp.TheVariants.{Get, Put}
use Rattle.line_forms.specs.declared.cause.DeviceFault.{DeviceFault}
use Rattle.line_forms.specs.declared.cause.DeviceFault.TheVariants.{PastEnd, EmptyRange}

-- the place of a command's first byte
abbrev pub start_of : DeviceOp → ℕ
start_of (Get offset len) = offset
start_of (Put offset bytes) = offset

-- how many bytes its range has
abbrev pub len_of : DeviceOp → ℕ
len_of (Get offset len) = len
len_of (Put offset bytes) = length bytes

-- why a command is refused, if it is: its range goes past the device's end, or has no byte
abbrev pub fault_of : Numbers → DeviceOp → Option DeviceFault
fault_of c op =
    if nat_lt (c.size * c.blocks) (start_of op + len_of op) then Some PastEnd
    else (if len_of op == 0 then Some EmptyRange
    else None)

-- the range of len bytes from start on has a byte of block k
unfoldable pub is_touched : ℕ → ℕ → ℕ → ℕ → Bool
is_touched size start len k = nat_lt (max start (k * size)) (min (start + len) ((k + 1) * size))

-- it has every byte of block k
unfoldable pub is_covered : ℕ → ℕ → ℕ → ℕ → Bool
is_covered size start len k = nat_le start (k * size) && nat_le ((k + 1) * size) (start + len)

-- the range ends within the device, and has a byte of block k
pub record Reaches (c : Numbers) (start len k : ℕ) : Type 0 where
  pub some : 0 < len
  pub below : k * c.size < start + len
  pub above : start < (k + 1) * c.size
  pub within : start + len ≤ c.size * c.blocks
  pub there : k < c.blocks

-- the blocks of which a range has a byte, ascending
abbrev pub touched_by : Numbers → ℕ → ℕ → List ℕ
touched_by c start len = filter (is_touched c.size start len) (range_with_len 0 c.blocks)

-- those of a command's range
unfoldable pub touched : Numbers → DeviceOp → List ℕ
touched c op = touched_by c (start_of op) (len_of op)

-- those of the bytes from start on that are bytes of block k
unfoldable pub bytes_in : ℕ → ℕ → List ℕ → ℕ → List ℕ
bytes_in size start bytes k = slice_range bytes (k * size - start) ((k + 1) * size - start)
