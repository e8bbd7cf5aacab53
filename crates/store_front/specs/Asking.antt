-- What calls of a store asked, and what was told of it.
use Rattle.std.specs.Prelude.{◌≡◌, ⊤, List, [], ◌++◌, Option}
use Rattle.std.specs.declared.option.Option.TheVariants.{Some}
use Rattle.std.specs.List.{AllByRecursion, flat_map, zip}
use Rattle.wire_forms.specs.declared.op.Op.{Op}
use Rattle.protocol.specs.Operations.{Outcome}
use Rattle.store_device.specs.Calls.{Deed, Call}
use Rattle.store_device.specs.Calls.Deed.{Performs}

-- the operations that the store was asked to perform in a call
abbrev pub asked_by : Deed → List Op
asked_by (Performs ops told) = ops
asked_by deed = []

-- each of them that was told of, with what was told of it
abbrev pub told_by : Deed → List (Op × Option Outcome)
told_by (Performs ops (Some outcomes)) = zip ops outcomes
told_by deed = []

-- these are the first of those
abbrev pub IsFront : {X : Type 0} → List X → List X → Type 0
IsFront {X} front all = (rest : List X) × (all ≡ front ++ rest)

-- operations were asked for, and something was told of them
abbrev pub IsPerformed : Deed → Type 0
IsPerformed (Performs ops told) = ⊤
IsPerformed deed = ⊥

abbrev pub IsHeard : Deed → Type 0
IsHeard (Performs ops (Some outcomes)) = ⊤
IsHeard deed = ⊥

module _ {D : Type 0} where
  -- the same of calls, one after the other
  abbrev pub asked_in : List (Call D) → List Op
  asked_in calls = flat_map (λ (call : Call D). asked_by call.deed) calls

  abbrev pub told_in : List (Call D) → List (Op × Option Outcome)
  told_in calls = flat_map (λ (call : Call D). told_by call.deed) calls

  -- nothing else was asked for than the first of these operations, in order
  pub record AreAsked (ops : List Op) (calls : List (Call D)) : Type 0 where
    pub front : IsFront (asked_in calls) ops
    pub only : AllByRecursion (λ (call : Call D). IsPerformed call.deed) calls

  -- nothing else was asked for than all of these operations, in order, and something was told in each call
  pub record AreHeard (ops : List Op) (calls : List (Call D)) : Type 0 where
    pub all : asked_in calls ≡ ops
    pub heard : AllByRecursion (λ (call : Call D). IsHeard call.deed) calls
