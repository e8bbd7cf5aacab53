-- What the refusals of a compaction say.
use Rattle.std.specs.Prelude.{⊤, Result, Ok, Err}
use Rattle.version_disk.specs.declared.compact_fault.CompactFault.{CompactFault}
use Rattle.version_disk.specs.declared.compact_fault.CompactFault.TheVariants.{NoMemory, DiskFault}
use Rattle.version_disk.specs.declared.compact_fault.CompactRefusal.{CompactRefusal}

-- what is said where the disk failed
abbrev pub IfDiskFailed : Type 0 → CompactFault → Type 0
IfDiskFailed P DiskFault = P
IfDiskFailed P _ = ⊤

-- memory or the disk
abbrev pub IsWant : CompactFault → Type 0
IsWant NoMemory = ⊤
IsWant DiskFault = ⊤
IsWant _ = ⊥

-- the disk, which has the journal or is given back
abbrev pub given_back : {E : Type 0} → Result E (CompactRefusal E) → E
given_back (Ok disk) = disk
given_back (Err refusal) = refusal.disk
