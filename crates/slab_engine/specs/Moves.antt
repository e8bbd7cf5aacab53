-- How what a node remembers changes when versions are added.
use Rattle.std.specs.Prelude.{false, Bool, List, [], ◌∷◌, slice_set}
use Rattle.slab_index.specs.declared.kept.Kept.{Kept}
use Rattle.slab_index.specs.Kept.{with_kept}
use Rattle.slab_engine.specs.declared.batch.NewSlots.{NewSlots}

-- the index with these slots of blocks
abbrev pub with_new : List NewSlots → List (List Kept) → List (List Kept)
with_new [] index = index
with_new (n ∷ ns) index = with_new ns (with_kept index n.block n.list)

-- the free slots without these
abbrev pub without_new : List NewSlots → List Bool → List Bool
without_new [] free = free
without_new (n ∷ ns) free = without_new ns (slice_set free n.slot false)
