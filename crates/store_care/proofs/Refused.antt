-- What a node is that refused.
use Rattle.std.proofs.Common.{◌⊎◌, inl, inr}
use Rattle.version_disk.specs.Refusals.{IfCalm, IfFailed}
use Rattle.version_disk.specs.declared.refusal.StoreRefusal.{StoreRefusal}
use Rattle.version_disk.specs.declared.refusal.StoreRefusal.TheVariants.{NoMemory, DiskFault, Broken, Full}

-- as it was, or its disk failed
pub refused : (P Q : Type 0) (e : StoreRefusal) → IfCalm P e → IfFailed Q e → P ⊎ Q
refused P Q NoMemory calm failed = inl calm
refused P Q DiskFault calm failed = inr failed
refused P Q Broken calm failed = inl calm
refused P Q Full calm failed = inl calm
