-- What a node is once a batch of versions is written.
use Rattle.std.specs.Prelude.{◌≡◌, ◌≤◌, ◌<◌, ◌+◌, ◌++◌, [], ℕ, Bool, true, false, List, length, map, All}
use Rattle.std.specs.List.{AllByRecursion}
use Rattle.quorum_rules.specs.Limits.{Numbers}
use Rattle.protocol.specs.Messages.{Ask}
use Rattle.protocol.specs.Instance.{setting}
use Rattle.protocol.specs.Nodes.{first_version}
use Rattle.slab_layout.specs.declared.shape.Shape.{Shape}
use Rattle.slab_layout.specs.Shapes.{is_marked, shape_of, slab_len, part, head_at, data_at, data_len}
use Rattle.slab_node.specs.declared.batch.Fresh.{Fresh}
use Rattle.slab_node.specs.Held.{held_by, held_with}
use Rattle.slab_node.specs.Batches.{IsThere as HasFresh, is_in, IsWritten, IsMidwayOver}
use Rattle.slab_node.specs.Answers.{AreAnswered}
use Rattle.slab_index.specs.declared.kept.Kept.{Kept}
use Rattle.slab_engine.specs.declared.batch.NewSlots.{NewSlots}
use Rattle.slab_engine.specs.declared.batch.Batch.{Batch}
use Rattle.slab_engine.specs.declared.plan.Plan.{Plan}
use Rattle.slab_engine.specs.Seen.{Leaving, listed, counted, has_slot, answered, AreApart, IsPartly}
use Rattle.slab_engine.specs.Plans.{plan_at}
use Rattle.slab_engine.specs.Whole.{Tells, IsThere}
use Rattle.slab_engine.specs.Moves.{with_new, without_new}
use Rattle.slab_engine.specs.Batches.{ArePicked, IsBatchOf, AreAdding}

-- Of slots that stay, marks, heads and data are the same; others that didn't count may come to count.
pub record IsStep (s : Shape) (old new : List ℕ) (m m' fresh : ℕ → Bool) : Type 0 where
  pub firm : (k : ℕ) → k < s.count → fresh k ≡ false → m' k ≡ m k
  pub free : (k : ℕ) → k < s.count → fresh k ≡ true → m k ≡ false
  pub heads : (k : ℕ) → k < s.count → m k ≡ true → part new (head_at s k) 72 ≡ part old (head_at s k) 72
  pub bodies : (k : ℕ) → k < s.count → m k ≡ true → part new (data_at s k) (data_len s) ≡ part old (data_at s k) (data_len s)

-- What is known before a batch is written: what the node remembers, and how the batch was made of asks.
pub record IsPlannedBatch (c : Numbers) (number key : ℕ) (old : List ℕ) (index : List (List Kept)) (free : List Bool) (next : ℕ) (leaving cleared : List Leaving)
    (answers : List Bool) (asks : List Ask) (plans : List Plan) (added slots : List ℕ) (batch : Batch) : Type 0 where
  pub tells : Tells c old index free next leaving cleared
  pub blocks : length answers ≡ c.blocks
  pub apart : AreApart asks
  pub planned : plans ≡ map (plan_at (setting c) number (first_version (setting c) number).stamp (listed answers) index) asks
  pub adding : AreAdding plans added
  pub picked : ArePicked free slots (length added)
  pub made : IsBatchOf c key index asks added slots next batch

-- Where a batch that was made of asks is there and counts, and nothing else changed, the asks are answered.
abbrev pub BatchesAreAnswers : Type 0
BatchesAreAnswers =
    (c : Numbers) (number key : ℕ) (old : List ℕ) (index : List (List Kept)) (free : List Bool) (next : ℕ) (leaving cleared : List Leaving)
    (answers : List Bool) (asks : List Ask) (plans : List Plan) (added slots : List ℕ) (batch : Batch)
    → IsPlannedBatch c number key old index free next leaving cleared answers asks plans added slots batch
    → (a : Ask) (f : Fresh) (n : NewSlots) (new : List ℕ) (now : ℕ → Bool)
    → All (λ x. HasFresh (shape_of c) new x) batch.fresh.items
    → IsStep (shape_of c) old new (counted c cleared old) now (is_in batch.fresh.items)
    → ((j : ℕ) → j < (shape_of c).count → is_in batch.fresh.items j ≡ true → now j ≡ true)
    → AreAnswered (answered (listed answers) asks) (held_with c number (has_slot cleared) old) (held_by (shape_of c) now c number new)

-- What the node remembers then, where the marks of what left are taken away too: the batch's slots are in the index and free no longer, and what left is cleared.
abbrev pub BatchesAreRemembered : Type 0
BatchesAreRemembered =
    (c : Numbers) (number key : ℕ) (old : List ℕ) (index : List (List Kept)) (free : List Bool) (next : ℕ) (leaving cleared : List Leaving)
    (answers : List Bool) (asks : List Ask) (plans : List Plan) (added slots : List ℕ) (batch : Batch)
    → IsPlannedBatch c number key old index free next leaving cleared answers asks plans added slots batch
    → (a : Ask) (f : Fresh) (n : NewSlots) (new : List ℕ)
    → All (λ x. HasFresh (shape_of c) new x) batch.fresh.items
    → IsStep (shape_of c) old new (counted c cleared old) (counted c (cleared ++ leaving) new) (is_in batch.fresh.items)
    → ((j : ℕ) → j < (shape_of c).count → is_in batch.fresh.items j ≡ true → counted c (cleared ++ leaving) new j ≡ true)
    → slab_len (shape_of c) ≤ length new
    → ((j : ℕ) → j < (shape_of c).count → has_slot (cleared ++ leaving) j ≡ true → is_marked (shape_of c) new j ≡ false)
    → AllByRecursion (IsThere c) leaving → AllByRecursion (IsThere c) cleared
    → Tells c new (with_new batch.new.items index) (without_new batch.new.items free) (next + length added) [] (cleared ++ leaving)

-- the asks are answered, and the node remembers what its slab tells
pub record IsDone (c : Numbers) (number : ℕ) (old : List ℕ) (index : List (List Kept)) (free : List Bool) (next : ℕ) (leaving cleared : List Leaving)
    (answers : List Bool) (asks : List Ask) (added : List ℕ) (batch : Batch) (new : List ℕ) : Type 0 where
  pub state : AreAnswered (answered (listed answers) asks) (held_with c number (has_slot cleared) old) (held_with c number (has_slot (cleared ++ leaving)) new)
  pub tells : Tells c new (with_new batch.new.items index) (without_new batch.new.items free) (next + length added) [] (cleared ++ leaving)

-- A batch that was made of asks and is written while the marks of what leaves are taken away answers the asks.
abbrev pub WrittenBatchesAreDone : Type 0
WrittenBatchesAreDone =
    (c : Numbers) (number key : ℕ) (old : List ℕ) (index : List (List Kept)) (free : List Bool) (next : ℕ) (leaving cleared : List Leaving)
    (answers : List Bool) (asks : List Ask) (plans : List Plan) (added slots : List ℕ) (batch : Batch)
    → IsPlannedBatch c number key old index free next leaving cleared answers asks plans added slots batch
    → (a : Ask) (f : Fresh) (n : NewSlots) (new : List ℕ)
    → IsWritten (shape_of c) (has_slot leaving) batch.fresh.items old new
    → AllByRecursion (IsThere c) leaving → AllByRecursion (IsThere c) cleared
    → IsDone c number old index free next leaving cleared answers asks added batch new

-- A crash while it is written leaves a node that has dropped some of what was leaving, and then answered some of the asks.
abbrev pub CrashesLeavePart : Type 0
CrashesLeavePart =
    (c : Numbers) (number key : ℕ) (old : List ℕ) (index : List (List Kept)) (free : List Bool) (next : ℕ) (leaving cleared : List Leaving)
    (answers : List Bool) (asks : List Ask) (plans : List Plan) (added slots : List ℕ) (batch : Batch)
    → IsPlannedBatch c number key old index free next leaving cleared answers asks plans added slots batch
    → (a : Ask) (f : Fresh) (n : NewSlots) (left : List ℕ)
    → IsMidwayOver (shape_of c) (has_slot leaving) batch.fresh.items old left
    → IsPartly (leaving ++ cleared) (answered (listed answers) asks) (held_with c number (has_slot cleared) old) old left
