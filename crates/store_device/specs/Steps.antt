-- What is done with a store in a session: calls, and between them nodes that go on on other disks, or are taken out.
use Rattle.std.specs.Prelude.{◌≡◌, ⊤, List, [], ◌∷◌, ◌++◌, ℕ}
use Rattle.std.specs.List.{AllByRecursion}
use Rattle.wire_forms.specs.declared.op.Op.{Op}
use Rattle.wire_forms.specs.declared.op.Op.TheVariants.{Read, Write}
use Rattle.disk_model.specs.Crash.{Pending}
use Rattle.store_device.specs.Stores.{SeenStore, Nodes, IsFound, kept_in}
use Rattle.store_device.specs.Calls.{Deed, Call, Acknowledged, IsCall, MayDoAll, RemembersOnly, given_through}
use Rattle.store_device.specs.Calls.Deed.{Performs, Prunes}
use Rattle.store_device.specs.Seating.{IsReseated}

-- a call, or others sit on the seats, and the store is this then
pub data Step (D : Type 0) : Type 0 where
  Called : Call D → Step D
  Reseated : SeenStore D → Step D

-- a block is read
abbrev pub IsRead : Op → Type 0
IsRead (Read block) = ⊤
IsRead (Write block value) = ⊥

-- blocks are read, or pruned
abbrev pub WritesNone : Deed → Type 0
WritesNone (Performs ops told) = AllByRecursion IsRead ops
WritesNone (Prunes prunes) = ⊤

module _ {D : Type 0} where
  -- the calls, in order
  abbrev pub calls_among : List (Step D) → List (Call D)
  calls_among [] = []
  calls_among (Called call ∷ steps) = call ∷ calls_among steps
  calls_among (Reseated store ∷ steps) = calls_among steps

  -- calls as steps
  abbrev pub called : List (Call D) → List (Step D)
  called [] = []
  called (call ∷ calls) = Called call ∷ called calls

  -- What nodes that aren't up keep behind the steps, where they kept this before: one that is taken out what it told then.
  abbrev pub gone_after : SeenStore D → Nodes → List (Step D) → List Nodes → Nodes
  gone_after old gone [] found = gone
  gone_after old gone (Called call ∷ steps) [] = gone
  gone_after old gone (Called call ∷ steps) (kept ∷ found) = gone_after call.store kept steps found
  gone_after old gone (Reseated store ∷ steps) found = gone_after store (kept_in old gone) steps found

  module _ (pending : D → Pending) where
    -- What nodes are found to keep after each of the calls, where those that aren't up at first keep this.
    abbrev pub AreFound : SeenStore D → Nodes → List (Step D) → List Nodes → Type 0
    AreFound old gone [] [] = ⊤
    AreFound old gone [] (kept ∷ found) = ⊥
    AreFound old gone (Called call ∷ steps) [] = ⊥
    AreFound old gone (Called call ∷ steps) (kept ∷ found) = IsFound pending old call.store gone kept × AreFound call.store kept steps found
    AreFound old gone (Reseated store ∷ steps) found = AreFound store (kept_in old gone) steps found

  module _ (pending : D → Pending) (seen : D → List ℕ) (most : D → ℕ) (moment : D → ℕ) (left_since : D → ℕ → List ℕ → Type 0) where
    -- steps, one after the other, lead from the one store to the other
    abbrev pub StepsLead : SeenStore D → List (Step D) → SeenStore D → Type 0
    StepsLead old [] new = new ≡ old
    StepsLead old (Called call ∷ steps) new = IsCall pending seen most moment left_since old call × StepsLead call.store steps new
    StepsLead old (Reseated store ∷ steps) new = IsReseated pending seen old store × StepsLead store steps new

    -- steps after steps
    abbrev pub StepsGoOn : Type 0
    StepsGoOn =
        (steps more : List (Step D)) (old mid new : SeenStore D)
        → StepsLead old steps mid
        → StepsLead mid more new
        → StepsLead old (steps ++ more) new

    -- what a store remembers behind steps are stamps of acknowledged operations, if it was so before them
    abbrev pub StepsRemember : Type 0
    StepsRemember =
        (given : Acknowledged) (steps : List (Step D)) (old new : SeenStore D)
        → StepsLead old steps new
        → RemembersOnly given old
        → RemembersOnly (given_through given (calls_among steps)) new

    -- The one store became the other by steps that may be taken at any time: whatever was acknowledged before, each block is pruned by the
    -- stamp of an operation that was acknowledged among them, or by one that the store remembered.
    pub record TakesSteps (old new : SeenStore D) : Type 0 where
      pub steps : List (Step D)
      pub lead : StepsLead old steps new
      pub may : (given : Acknowledged) → RemembersOnly given old → MayDoAll given (calls_among steps)

    -- The store was looked after: blocks were read and pruned, and nodes went on on other disks, or were taken out. Nothing was written to
    -- blocks.
    pub record IsTended (old new : SeenStore D) : Type 0 where
      pub taken : TakesSteps old new
      pub none : AllByRecursion (λ (call : Call D). WritesNone call.deed) (calls_among taken.steps)
