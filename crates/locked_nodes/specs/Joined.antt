-- Two journals in one, by number.
use Rattle.std.specs.Prelude.{◌≡◌, ◌≢◌, ◌⊎◌, ◌↔◌, ℕ, ◌+◌, ◌<◌, ◌≤◌, Bool, nat_lt, if◌then◌else◌, List, [], ◌∷◌, ◌++◌, All, filter, sum_by}
use Rattle.std.specs.List.{Contains}
use Rattle.protocol.specs.Report.{Ascend}
use Rattle.journals.specs.declared.node.NodeEntry.{NodeEntry}
use Rattle.locked_nodes.specs.Cells.{numbers}

-- the entries from the front on whose numbers are below this one, and those from there on
abbrev pub lower : ℕ → List NodeEntry → List NodeEntry
lower n [] = []
lower n (e ∷ es) = if nat_lt e.number n then e ∷ lower n es else []

abbrev pub upper : ℕ → List NodeEntry → List NodeEntry
upper n [] = []
upper n (e ∷ es) = if nat_lt e.number n then upper n es else e ∷ es

-- the entries of two journals by number
abbrev pub join : List NodeEntry → List NodeEntry → List NodeEntry
join [] ys = ys
join (x ∷ xs) ys = lower x.number ys ++ x ∷ join xs (upper x.number ys)

-- a joined journal has the entries of both
abbrev pub JoinHas : Type 0
JoinHas = (xs ys : List NodeEntry) (e : NodeEntry) → Contains (join xs ys) e ↔ (Contains xs e ⊎ Contains ys e)

-- each as often as both have it
abbrev pub JoinCounts : Type 0
JoinCounts = (f : NodeEntry → ℕ) (xs ys : List NodeEntry) → sum_by f (join xs ys) ≡ sum_by f xs + sum_by f ys

-- where both ascend, and have no number in common, it ascends
abbrev pub JoinAscends : Type 0
JoinAscends =
    (xs ys : List NodeEntry) → Ascend (numbers xs) → Ascend (numbers ys)
    → ((x y : NodeEntry) → Contains xs x → Contains ys y → x.number ≢ y.number) → Ascend (numbers (join xs ys))

-- what a test keeps of it, where the test keeps nothing of the other journal, is what it keeps of the one
abbrev pub JoinKeeps : Type 0
JoinKeeps =
    (p : NodeEntry → Bool) (xs ys : List NodeEntry)
    → (filter p ys ≡ [] → filter p (join xs ys) ≡ filter p xs) × (filter p xs ≡ [] → filter p (join xs ys) ≡ filter p ys)

-- where both have only entries more, with numbers from one on that is above all that they had, so has the joined journal
abbrev pub JoinGrows : Type 0
JoinGrows =
    (n : ℕ) (xs ys more other : List NodeEntry)
    → All (λ e. e.number < n) xs → All (λ e. e.number < n) ys → All (λ e. n ≤ e.number) more → All (λ e. n ≤ e.number) other
    → join (xs ++ more) (ys ++ other) ≡ join xs ys ++ join more other
