-- Calls of a store, and what they are in its life.
use Rattle.std.specs.Prelude.{◌≡◌, ◌≢◌, ◌⊎◌, ◌==◌, ℕ, ◌+◌, ◌<◌, ⊤, true, false, nat_le, if◌then◌else◌, is_some, map, List, [], ◌∷◌, ◌++◌, length, Option}
use Rattle.std.specs.declared.option.Option.TheVariants.{None, Some}
use Rattle.std.specs.List.{AllByRecursion, Contains}
use Rattle.quorum_rules.specs.Limits.{Numbers}
use Rattle.stamp_order.specs.declared.Stamp.{Stamp}
use Rattle.wire_forms.specs.declared.op.Op.{Op}
use Rattle.protocol.specs.Instance.{setting}
use Rattle.protocol.specs.Nodes.{pruned}
use Rattle.protocol.specs.Operations.{Outcome}
use Rattle.protocol.specs.Seen.{block_of, work_of}
use Rattle.node_core.specs.Seen.{versions_in}
use Rattle.disk_model.specs.Crash.{Pending}
use Rattle.version_disk.specs.declared.prune.Prune.{Prune}
use Rattle.batch_clients.specs.Batches.{Running, begun, end_of}
use Rattle.block_phases.specs.Executions.{StampedValue}
use Rattle.block_turns.specs.Turns.{with_one, stamped_by}
use Rattle.store_device.specs.Stores.{SeenStore, Nodes, IsStore, IsFound, IsLeft, kept_in, seat_at, down_in, is_up}
use Rattle.store_device.specs.Told.{IsTold, untold, kept_of}
use Rattle.store_device.specs.Answered.{AreFew, IsEnough}
use Rattle.store_device.specs.Phased.{GoThrough}
use Rattle.store_device.specs.Lives.{Turn, Moment, IsBatch}
use Rattle.store_device.specs.Lives.Turn.{Performed, Pruned}

-- what was asked of the store in a call, and what was told of it: None if nothing was, as for want of memory
pub data Deed : Type 0 where
  Performs : List Op → Option (List (Option Outcome)) → Deed
  Prunes : List Prune → Deed

-- a call, and the store after it
pub record Call (D : Type 0) : Type 0 where
  pub deed : Deed
  pub store : SeenStore D

-- what was told of each operation: if nothing was told, of none
abbrev pub told_each : List Op → Option (List (Option Outcome)) → List (Option Outcome)
told_each ops None = untold ops
told_each ops (Some outcomes) = outcomes

-- ---- what operations acknowledged

-- what acknowledged operations read or wrote on each block, the latest first
abbrev pub Acknowledged : Type 0
Acknowledged = ℕ → List StampedValue

-- what an operation read or wrote, if its outcome was told
abbrev pub given_by : Op → Option Outcome → Option StampedValue
given_by op None = None
given_by op (Some outcome) = stamped_by (work_of op) outcome

-- the prune of a block that this allows, if it is anything
abbrev pub prune_of : ℕ → Option StampedValue → List Prune
prune_of block None = []
prune_of block (Some x) = record { block = block; stamp = x.stamp } ∷ []

-- and those that operations allow with these outcomes, in order
abbrev pub prunes_of : List Op → List (Option Outcome) → List Prune
prunes_of (op ∷ ops) (outcome ∷ outcomes) = prune_of (block_of op) (given_by op outcome) ++ prunes_of ops outcomes
prunes_of _ _ = []

-- how many a store remembers at most
abbrev pub most_remembered : ℕ
most_remembered = 131_072

-- those that it remembers still where so many more come: all of them, or none where these would be too many
abbrev pub with_room : ℕ → List Prune → List Prune
with_room more old = if nat_le (length old + more) most_remembered then old else []

-- ---- what a call does

module _ (c : Numbers) where
  -- of the block each node keeps what it kept, or what a prune leaves of that
  abbrev pub IsPruned : Prune → Nodes → Nodes → Type 0
  IsPruned p old new =
      (i : ℕ) → i < c.n
      → (kept_of new p.block i ≡ kept_of old p.block i) ⊎ (kept_of new p.block i ≡ pruned (setting c) p.stamp (kept_of old p.block i))

  -- nodes pruned the blocks, or did not, and nothing else changed
  pub record ArePruned (prunes : List Prune) (old new : Nodes) : Type 0 where
    pub there : AllByRecursion (λ p. IsPruned p old new) prunes
    pub others : (block i : ℕ) → AllByRecursion (λ p. p.block ≢ block) prunes → i < c.n → versions_in (new i) block ≡ versions_in (old i) block

module _ {D : Type 0} (pending : D → Pending) (seen : D → List ℕ) where
  -- the store is still one of its cluster, and a node that wasn't up stays as it is
  pub record StaysStore (old new : SeenStore D) : Type 0 where
    pub store : IsStore pending seen new
    pub config : new.config ≡ old.config
    pub down : (i : ℕ) → is_up (seat_at old i) ≡ false → seat_at new i ≡ seat_at old i

  module _ (most : D → ℕ) (moment : D → ℕ) (left_since : D → ℕ → List ℕ → Type 0) where
    -- Operations were told to have ended so. Phase by phase each node was handed what they ask. All of them have an outcome if at least
    -- n-t nodes are up in the end and have room for a slot for each operation, and nodes keep few versions.
    pub record HaveEnded (ops : List Op) (outcomes : List (Option Outcome)) (old new : SeenStore D) : Type 0 where
      pub runs : List Running
      pub phases : GoThrough pending seen most moment left_since old (begun (setting old.config) 1 ops) (record new { acknowledged = old.acknowledged }) runs
      pub ends : outcomes ≡ map (λ r. end_of r.stand) runs
      pub answered : AreFew old ops → IsEnough seen most (length ops) new → AllByRecursion (λ outcome. is_some outcome ≡ true) outcomes

    abbrev pub HaveEndedIf : List Op → Option (List (Option Outcome)) → SeenStore D → SeenStore D → Type 0
    HaveEndedIf ops None old new = ⊤
    HaveEndedIf ops (Some outcomes) old new = HaveEnded ops outcomes old new

    -- The store was asked to perform these operations, and told this. Each was completed or given up between what nodes kept and what
    -- they are found to keep; nodes that weren't up answered nothing. A crash at any moment leaves operations that weren't told of. The store
    -- remembers by which stamp each operation that was acknowledged lets its block be pruned.
    pub record HasPerformed (ops : List Op) (outcomes : Option (List (Option Outcome))) (old new : SeenStore D) : Type 0 where
      pub batch : IsBatch old.config ops
      pub stored : List (Option StampedValue)
      pub told : (gone kept : Nodes) → IsFound pending old new gone kept
          → IsTold old.config (down_in old) ops (told_each ops outcomes) stored (kept_in old gone) kept
      pub any_moment : (gone kept : Nodes) → IsLeft moment left_since old new gone kept
          → IsTold old.config (down_in old) ops (untold ops) stored (kept_in old gone) kept
      pub ended : HaveEndedIf ops outcomes old new
      pub stays : StaysStore old new
      pub acknowledged : new.acknowledged ≡ with_room (length ops) old.acknowledged ++ prunes_of ops (told_each ops outcomes)

    -- The store was asked to prune blocks. Each node keeps of each block what it kept, or what the block's prune leaves of that, after the
    -- call and at any moment of it.
    pub record HasPruned (prunes : List Prune) (old new : SeenStore D) : Type 0 where
      pub done : (gone kept : Nodes) → IsFound pending old new gone kept → ArePruned old.config prunes (kept_in old gone) kept
      pub any_moment : (gone kept : Nodes) → IsLeft moment left_since old new gone kept → ArePruned old.config prunes (kept_in old gone) kept
      pub stays : StaysStore old new
      pub acknowledged : new.acknowledged ≡ old.acknowledged

    -- the store did this
    abbrev pub HasDone : Deed → SeenStore D → SeenStore D → Type 0
    HasDone (Performs ops told) old new = HasPerformed ops told old new
    HasDone (Prunes prunes) old new = HasPruned prunes old new

    -- from the old store on, this is a call
    abbrev pub IsCall : SeenStore D → Call D → Type 0
    IsCall old call = HasDone call.deed old call.store

    -- calls, one after the other, lead from the one store to the other
    abbrev pub Leads : SeenStore D → List (Call D) → SeenStore D → Type 0
    Leads old [] new = new ≡ old
    Leads old (call ∷ calls) new = IsCall old call × Leads call.store calls new

    -- calls after calls
    abbrev pub CallsGoOn : Type 0
    CallsGoOn = (calls more : List (Call D)) (old mid new : SeenStore D) → Leads old calls mid → Leads mid more new → Leads old (calls ++ more) new

    -- calls leave a store of the same cluster, and a node that wasn't up as it was
    abbrev pub CallsKeepStores : Type 0
    CallsKeepStores = (calls : List (Call D)) (old new : SeenStore D) → IsStore pending seen old → Leads old calls new → StaysStore old new

-- ---- what calls are in a life

-- the turn is what this call is
abbrev pub IsTurnBy : Deed → Turn → Type 0
IsTurnBy (Performs ops told) turn = (stored : List (Option StampedValue)) × (turn ≡ Performed ops (told_each ops told) stored)
IsTurnBy (Prunes prunes) turn = turn ≡ Pruned prunes

-- the turn is what this call is where a crash cuts it off
abbrev pub IsTurnCut : Deed → Turn → Type 0
IsTurnCut (Performs ops told) turn = (stored : List (Option StampedValue)) × (turn ≡ Performed ops (untold ops) stored)
IsTurnCut (Prunes prunes) turn = turn ≡ Pruned prunes

-- these moments are the calls, in order
abbrev pub AreTurnsBy : {D : Type 0} → List (Call D) → List Moment → Type 0
AreTurnsBy [] [] = ⊤
AreTurnsBy (call ∷ calls) (m ∷ more) = IsTurnBy call.deed m.turn × AreTurnsBy calls more
AreTurnsBy _ _ = ⊥

-- ---- by which stamps blocks may be pruned

-- what is acknowledged on the block after a batch with these outcomes
abbrev pub given_on : ℕ → List Op → List (Option Outcome) → List StampedValue → List StampedValue
given_on block (op ∷ ops) (outcome ∷ outcomes) xs =
    if block_of op == block then with_one (given_by op outcome) xs else given_on block ops outcomes xs
given_on block _ _ xs = xs

-- and after a call
abbrev pub given_after : Acknowledged → Deed → Acknowledged
given_after given (Performs ops told) block = given_on block ops (told_each ops told) (given block)
given_after given (Prunes prunes) block = given block

-- and after calls, one after the other
abbrev pub given_through : {D : Type 0} → Acknowledged → List (Call D) → Acknowledged
given_through given [] = given
given_through given (call ∷ calls) = given_through (given_after given call.deed) calls

-- the stamp is that of one of these
abbrev pub IsStampOf : List StampedValue → Stamp → Type 0
IsStampOf xs stamp = (x : StampedValue) × Contains xs x × (x.stamp ≡ stamp)

-- by these stamps blocks may be pruned: each is that of an acknowledged operation on its block
abbrev pub MayPrune : Acknowledged → List Prune → Type 0
MayPrune given prunes = AllByRecursion (λ p. IsStampOf (given p.block) p.stamp) prunes

-- blocks are pruned by no other stamps than those of acknowledged operations
abbrev pub MayDo : Acknowledged → Deed → Type 0
MayDo given (Performs ops told) = ⊤
MayDo given (Prunes prunes) = MayPrune given prunes

-- so it is in each of the calls
abbrev pub MayDoAll : {D : Type 0} → Acknowledged → List (Call D) → Type 0
MayDoAll given [] = ⊤
MayDoAll given (call ∷ calls) = MayDo given call.deed × MayDoAll (given_after given call.deed) calls

-- what a store remembers are stamps of acknowledged operations
abbrev pub RemembersOnly : {D : Type 0} → Acknowledged → SeenStore D → Type 0
RemembersOnly given store = MayPrune given store.acknowledged
