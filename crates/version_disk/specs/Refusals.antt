-- What the refusals of a node on a disk say.
use Rattle.std.specs.Prelude.{⊤}
use Rattle.version_disk.specs.declared.refusal.StoreRefusal.{StoreRefusal}
use Rattle.version_disk.specs.declared.refusal.StoreRefusal.TheVariants.{NoMemory, DiskFault}

-- what is said where the disk failed
abbrev pub IfFailed : Type 0 → StoreRefusal → Type 0
IfFailed P DiskFault = P
IfFailed P _ = ⊤

-- what is said where it didn't
abbrev pub IfCalm : Type 0 → StoreRefusal → Type 0
IfCalm P DiskFault = ⊤
IfCalm P _ = P

-- memory or the disk
abbrev pub IsMemoryOrFault : StoreRefusal → Type 0
IsMemoryOrFault NoMemory = ⊤
IsMemoryOrFault DiskFault = ⊤
IsMemoryOrFault _ = ⊥
