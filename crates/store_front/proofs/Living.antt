-- What is done in a session, in the life of its store.
use Rattle.std.proofs.Common.{inl, inr, ℕ, List, [], ◌∷◌, ◌++◌, Option, Result, Ok, Err, sym, subst}
use Rattle.std.specs.List.{AllByRecursion}
use Rattle.quorum_rules.specs.Limits.{Numbers}
use Rattle.disk_model.specs.Crash.{Pending}
use Rattle.nbd_front.specs.declared.ending.SessionEnd.{SessionEnd}
use Rattle.nbd_front.specs.declared.ending.SessionEnd.TheVariants.{NoMemory, ReadFault, WriteFault, BadMagic, CutRequest, TooManyRequests}
use Rattle.store_device.specs.Stores.{SeenStore}
use Rattle.store_device.specs.Calls.{Acknowledged, Deed, Call, Leads, MayDo, MayDoAll, given_after}
use Rattle.store_device.specs.Calls.Deed.{Performs}
use Rattle.store_device.specs.Steps.{Step, called, StepsLead, IsTended}
use Rattle.store_device.proofs.lemmas.Steps.{May as MayFrom, among_called, calls_lead, lead_then, may_both}
use Rattle.store_front.specs.Asking.{IsPerformed}
use Rattle.store_front.specs.Rounds.{Exchange, IsExchange, IsBegun, calls_of}
use Rattle.store_front.specs.Sessions.{RoundsLead, LeavesStore, steps_in, steps_left, IsTendedSession, steps_of}
use Rattle.store_front.proofs.Asking.{Performed, all_then, heard_only}

may_do : (given : Acknowledged) (deed : Deed) → IsPerformed deed → MayDo given deed
may_do given (Performs ops told) h = tt
may_do given deed h = absurd h

module _ {D : Type 0} where
  -- operations may be performed at any time
  may_do_all : (given : Acknowledged) (calls : List (Call D)) → AllByRecursion Performed calls → MayDoAll given calls
  may_do_all given [] h = tt
  may_do_all given (call ∷ calls) h = (may_do given call.deed h.0, may_do_all (given_after given call.deed) calls h.1)

  -- those of a round, and of one that was cut off
  performed : (c : Numbers) (e : Exchange D) → IsExchange c e → AllByRecursion Performed (calls_of e)
  performed c e h = all_then Performed e.reads e.writes (heard_only e.reads h.reads.heard) (heard_only e.writes h.writes.heard)

  begun : (c : Numbers) (e : Exchange D) → IsBegun c e → AllByRecursion Performed (calls_of e)
  begun c e h = all_then Performed e.reads e.writes h.reads.only h.writes.only

  module _ (pending : D → Pending) (seen : D → List ℕ) (capacity : D → ℕ) (moment : D → ℕ) (left_since : D → ℕ → List ℕ → Type 0) where
    abbrev Tends : SeenStore D → SeenStore D → Type 0
    Tends old new = IsTended pending seen capacity moment left_since old new

    abbrev Lead : SeenStore D → List (Step D) → SeenStore D → Type 0
    Lead old steps new = StepsLead pending seen capacity moment left_since old steps new

    abbrev May : SeenStore D → List (Step D) → Type 0
    May old steps = MayFrom pending seen capacity moment left_since old steps

    may_called : (old : SeenStore D) (calls : List (Call D)) → AllByRecursion Performed calls → May old (called calls)
    may_called old calls all given knows = subst (MayDoAll given) (sym (among_called calls)) (may_do_all given calls all)

    -- the store is looked after, calls are made, and more is done
    may_three : (steps : List (Step D)) (calls : List (Call D)) (more : List (Step D)) (old kept mid : SeenStore D) → Lead old steps kept
        → Leads pending seen capacity moment left_since kept calls mid → May old steps → AllByRecursion Performed calls → May mid more
        → May old (steps ++ (called calls ++ more))
    may_three steps calls more old kept mid tended led may all then =
        may_both pending seen capacity moment left_since steps (called calls ++ more) old kept tended may
        (may_both pending seen capacity moment left_since (called calls) more kept mid
        (calls_lead pending seen capacity moment left_since calls kept mid led) (may_called kept calls all) then)

    -- ---- rounds

    rounds_lead : (rounds : List (Exchange D)) (old new : SeenStore D) (led : RoundsLead pending seen capacity moment left_since Tends old rounds new)
        → Lead old (steps_in pending seen capacity moment left_since rounds old new led) new
    rounds_lead [] old new led = led
    rounds_lead (round ∷ rounds) old new led =
        let rest : List (Step D) = steps_in pending seen capacity moment left_since rounds led.1 new led.4 in
        lead_then pending seen capacity moment left_since led.2.taken.steps (called (calls_of round) ++ rest) old led.0 new led.2.taken.lead
        (lead_then pending seen capacity moment left_since (called (calls_of round)) rest led.0 led.1 new
        (calls_lead pending seen capacity moment left_since (calls_of round) led.0 led.1 led.3)
        (rounds_lead rounds led.1 new led.4))

    rounds_may : (c : Numbers) (rounds : List (Exchange D)) → AllByRecursion (IsExchange c) rounds → (old new : SeenStore D) (led : RoundsLead pending seen capacity moment left_since Tends old rounds new)
        → May old (steps_in pending seen capacity moment left_since rounds old new led)
    rounds_may c [] done old new led = λ given knows. tt
    rounds_may c (round ∷ rounds) done old new led =
        let rest : List (Step D) = steps_in pending seen capacity moment left_since rounds led.1 new led.4 in
        may_three led.2.taken.steps (calls_of round) rest old led.0 led.1 led.2.taken.lead led.3 led.2.taken.may (performed c round done.0)
        (rounds_may c rounds done.1 led.1 new led.4)

    -- ---- what is behind them

    left_lead : (result : Result Unit SessionEnd) (c : Numbers) (rest : List ℕ) (old new : SeenStore D) (left : LeavesStore pending seen capacity moment left_since Tends result c rest old new)
        → Lead old (steps_left pending seen capacity moment left_since result c rest old new left) new
    left_lead (Err NoMemory) c rest old new (inl same) = same
    left_lead (Err NoMemory) c rest old new (inr cut) =
        lead_then pending seen capacity moment left_since cut.2.taken.steps (called (calls_of cut.1)) old cut.0 new cut.2.taken.lead
        (calls_lead pending seen capacity moment left_since (calls_of cut.1) cut.0 new cut.3.calls)
    left_lead (Err WriteFault) c rest old new left = left
    left_lead (Err TooManyRequests) c rest old new left = left
    left_lead (Err ReadFault) c rest old new left = left.taken.lead
    left_lead (Err (BadMagic at)) c rest old new left = left.taken.lead
    left_lead (Err (CutRequest at)) c rest old new left = left.taken.lead
    left_lead (Ok done) c rest old new left = left.taken.lead

    left_may : (result : Result Unit SessionEnd) (c : Numbers) (rest : List ℕ) (old new : SeenStore D) (left : LeavesStore pending seen capacity moment left_since Tends result c rest old new)
        → May old (steps_left pending seen capacity moment left_since result c rest old new left)
    left_may (Err NoMemory) c rest old new (inl same) = λ given knows. tt
    left_may (Err NoMemory) c rest old new (inr cut) =
        may_both pending seen capacity moment left_since cut.2.taken.steps (called (calls_of cut.1)) old cut.0 cut.2.taken.lead cut.2.taken.may
        (may_called cut.0 (calls_of cut.1) (begun c cut.1 cut.3.is))
    left_may (Err WriteFault) c rest old new left = λ given knows. tt
    left_may (Err TooManyRequests) c rest old new left = λ given knows. tt
    left_may (Err ReadFault) c rest old new left = left.taken.may
    left_may (Err (BadMagic at)) c rest old new left = left.taken.may
    left_may (Err (CutRequest at)) c rest old new left = left.taken.may
    left_may (Ok done) c rest old new left = left.taken.may

    -- ---- the session

    module _ (c : Numbers) (old new : SeenStore D) (result : Result Unit SessionEnd) (left left_after taken taken_after : Option (List ℕ))
        (session : IsTendedSession pending seen capacity moment left_since c old new result left left_after taken taken_after) where
      abbrev steps : List (Step D)
      steps = steps_of pending seen capacity moment left_since c old new result left left_after taken taken_after session

      pub session_leads : Lead old steps new
      session_leads =
          lead_then pending seen capacity moment left_since (steps_in pending seen capacity moment left_since session.rounds old session.store session.calls)
          (steps_left pending seen capacity moment left_since result c session.rest session.store new session.left_store) old session.store new
          (rounds_lead session.rounds old session.store session.calls)
          (left_lead result c session.rest session.store new session.left_store)

      pub session_may : May old steps
      session_may =
          may_both pending seen capacity moment left_since (steps_in pending seen capacity moment left_since session.rounds old session.store session.calls)
          (steps_left pending seen capacity moment left_since result c session.rest session.store new session.left_store) old session.store
          (rounds_lead session.rounds old session.store session.calls)
          (rounds_may c session.rounds session.done old session.store session.calls)
          (left_may result c session.rest session.store new session.left_store)
