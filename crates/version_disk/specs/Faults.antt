-- What the faults of opening a disk say.
use Rattle.std.specs.Prelude.{ℕ, ⊤}
use Rattle.version_disk.specs.declared.fault.OpenFault.{OpenFault}
use Rattle.version_disk.specs.declared.fault.OpenFault.TheVariants.{DiskFault, Damaged}

-- what is said of the slot, where one is damaged
abbrev pub IfSlot : (ℕ → Type 0) → OpenFault → Type 0
IfSlot P (Damaged slot) = P slot
IfSlot P _ = ⊤

-- what is said where the disk failed
abbrev pub IfFault : Type 0 → OpenFault → Type 0
IfFault P DiskFault = P
IfFault P _ = ⊤
