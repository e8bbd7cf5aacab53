-- What the refusals of a node on a slab say.
use Rattle.slab_engine.specs.declared.refusal.SlabRefusal.{SlabRefusal}
use Rattle.slab_engine.specs.declared.refusal.SlabRefusal.TheVariants.{NoSpace, DiskFault}

-- where nothing was written
abbrev pub IfCalm : Type 0 → SlabRefusal → Type 0
IfCalm P NoSpace = Unit {0}
IfCalm P DiskFault = Unit {0}
IfCalm P _ = P

-- where no version was added, and the node goes on
abbrev pub IfNoSpace : Type 0 → SlabRefusal → Type 0
IfNoSpace P NoSpace = P
IfNoSpace P _ = Unit {0}

-- where the node is broken from then on
abbrev pub IfFailed : Type 0 → SlabRefusal → Type 0
IfFailed P DiskFault = P
IfFailed P _ = Unit {0}
