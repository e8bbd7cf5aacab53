-- Sets that are asked for, and given, what a line names, if it names something.
use Rattle.std.specs.Prelude.{◌≡◌, ◌+◌, Bool, false, true, if◌then◌else◌, Option, Some, None}
use Rattle.std.specs.declared.cmp.Ordering.{Ordering}
use Rattle.std.specs.BTreeSet.{BTreeSet, contains, btree_set_len, Updates, IsOrdered}

-- the set has what is there
abbrev pub has : {K : Type 0} → (K → K → Ordering) → BTreeSet K → Option K → Bool
has cmp set None = false
has cmp set (Some key) = contains cmp set key

-- what is there was added
abbrev pub IsAdded : {K : Type 0} → (K → K → Ordering) → BTreeSet K → BTreeSet K → Option K → Type 0
IsAdded cmp old new None = new ≡ old
IsAdded cmp old new (Some key) = Updates cmp old new key true × IsOrdered cmp new × (btree_set_len new ≡ btree_set_len old + (if contains cmp old key then 0 else 1))
