-- What a node's plans tell, and what a crash leaves of versions that leave.
use Rattle.std.specs.Prelude.{◌≡◌, ◌<◌, ◌++◌, ℕ, Bool, true, false, List}
use Rattle.std.specs.List.{AllByRecursion}
use Rattle.quorum_rules.specs.Limits.{Numbers}
use Rattle.protocol.specs.Messages.{Version, Request}
use Rattle.protocol.specs.Setting.{Setting}
use Rattle.slab_layout.specs.Shapes.{is_marked, shape_of, part, head_at, data_at, data_len}
use Rattle.slab_node.specs.Held.{held_by, held_with}
use Rattle.slab_index.specs.declared.kept.Kept.{Kept}
use Rattle.slab_index.specs.Kept.{stamp_of}
use Rattle.slab_engine.specs.Seen.{Leaving, has_slot, IsLessLeaving}
use Rattle.slab_engine.specs.Whole.{IsItsHead}
use Rattle.slab_engine.specs.Plans.{plan_in, IsPlan}

-- a plan is what the versions of the slots make a node reply and add
abbrev pub PlansTell : Type 0
PlansTell =
    (s : Setting) (number : ℕ) (first : Version) (version : Kept → Version) (kept : List Kept) (q : Request)
    → ((k : Kept) → (version k).stamp ≡ stamp_of k) → first.stamp.time ≡ 0 → IsPlan s number first version kept q (plan_in s number first.stamp kept q)

-- Slots of versions that leave count or don't, and those of cleared versions too; the others count where they are marked, and heads and data of those that count
-- are as they were: the node has dropped some of these versions, and kept all others.
abbrev pub LeavingMayGo : Type 0
LeavingMayGo =
    (c : Numbers) (number : ℕ) (old left : List ℕ) (leaving cleared : List Leaving) (now : ℕ → Bool)
    → AllByRecursion (λ l. IsItsHead c old l × (is_marked (shape_of c) old l.slot ≡ true)) leaving
    → AllByRecursion (λ l. IsItsHead c old l × (is_marked (shape_of c) old l.slot ≡ false)) cleared
    → ((k : ℕ) → k < (shape_of c).count → has_slot leaving k ≡ false → has_slot cleared k ≡ false → now k ≡ is_marked (shape_of c) old k)
    → ((k : ℕ) → k < (shape_of c).count → now k ≡ true → part left (head_at (shape_of c) k) 72 ≡ part old (head_at (shape_of c) k) 72)
    → ((k : ℕ) → k < (shape_of c).count → now k ≡ true → part left (data_at (shape_of c) k) (data_len (shape_of c)) ≡ part old (data_at (shape_of c) k) (data_len (shape_of c)))
    → IsLessLeaving (leaving ++ cleared) (held_with c number (has_slot cleared) old) (held_by (shape_of c) now c number left)
