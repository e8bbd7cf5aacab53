-- Why a batch was not written.
use Rattle.slab_node.specs.declared.batch_fault.BatchFault.{BatchFault}
use Rattle.slab_node.specs.declared.batch_fault.BatchFault.TheVariants.{Unwritten, Broken}

-- where nothing but heads and data was written, this holds
abbrev pub IfUnwritten : Type 0 → BatchFault → Type 0
IfUnwritten P (Unwritten fault) = P
IfUnwritten P Broken = Unit {0}
