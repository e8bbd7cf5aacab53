-- Steps that are taken one after the other.
use Rattle.std.proofs.Common.{◌≡◌, inl, inr, ℕ, List, [], ◌∷◌, ◌++◌, length, Option, None, refl, sym, ◌∙◌, ap, subst}
use Rattle.std.specs.Prelude.{slice_index_or}
use Rattle.std.specs.List.{AllByRecursion}
use Rattle.std.proofs.lemmas.Bool.{cases_lt, cases_eq}
use Rattle.std.proofs.lemmas.List.{length-set, get_or-set_same, get_or-set_other, set_past}
use Rattle.disk_model.specs.Crash.{Pending}
use Rattle.version_disk.specs.Stored.{Stored}
use Rattle.store_device.specs.Stores.{SeenStore, seat_at}
use Rattle.store_device.specs.Calls.{Acknowledged, Call, Leads, MayDoAll, RemembersOnly, given_after, given_through}
use Rattle.store_device.specs.Seating.{with_seat, forgetting, IsReseatedAt, IsReseated}
use Rattle.store_device.specs.Steps.{Step, WritesNone, called, calls_among, StepsLead, TakesSteps, IsTended}
use Rattle.store_device.specs.Steps.Step.{Called, Reseated}
use Rattle.store_device.proofs.Stamps.{steps_remember}

all_then : {X : Type 0} (P : X → Type 0) (xs ys : List X) → AllByRecursion P xs → AllByRecursion P ys → AllByRecursion P (xs ++ ys)
all_then P [] ys h k = k
all_then P (x ∷ xs) ys h k = (h.0, all_then P xs ys h.1 k)

module _ {D : Type 0} where
  pub calls_then : (steps more : List (Step D)) → calls_among (steps ++ more) ≡ calls_among steps ++ calls_among more
  calls_then [] more = refl
  calls_then (Called call ∷ steps) more = ap (λ (calls : List (Call D)). call ∷ calls) (calls_then steps more)
  calls_then (Reseated store ∷ steps) more = calls_then steps more

  pub among_called : (calls : List (Call D)) → calls_among (called calls) ≡ calls
  among_called [] = refl
  among_called (call ∷ calls) = ap (λ (more : List (Call D)). call ∷ more) (among_called calls)

  -- what may be done, and then what may be done behind that
  pub may_then : (given : Acknowledged) (calls more : List (Call D)) → MayDoAll given calls → MayDoAll (given_through given calls) more → MayDoAll given (calls ++ more)
  may_then given [] more may then = then
  may_then given (call ∷ calls) more may then = (may.0, may_then (given_after given call.deed) calls more may.1 then)

  abbrev WritesNot : Call D → Type 0
  WritesNot call = WritesNone call.deed

  module _ (pending : D → Pending) (seen : D → List ℕ) (most : D → ℕ) (moment : D → ℕ) (left_since : D → ℕ → List ℕ → Type 0) where
    abbrev Lead : SeenStore D → List (Step D) → SeenStore D → Type 0
    Lead old steps new = StepsLead pending seen most moment left_since old steps new

    abbrev Takes : SeenStore D → SeenStore D → Type 0
    Takes old new = TakesSteps pending seen most moment left_since old new

    abbrev Tends : SeenStore D → SeenStore D → Type 0
    Tends old new = IsTended pending seen most moment left_since old new

    pub lead_then : (steps more : List (Step D)) (old mid new : SeenStore D) → Lead old steps mid → Lead mid more new → Lead old (steps ++ more) new
    lead_then [] more old mid new first then = subst (λ (s : SeenStore D). Lead s more new) first then
    lead_then (Called call ∷ steps) more old mid new first then = (first.0, lead_then steps more call.store mid new first.1 then)
    lead_then (Reseated store ∷ steps) more old mid new first then = (first.0, lead_then steps more store mid new first.1 then)

    pub calls_lead : (calls : List (Call D)) (old new : SeenStore D) → Leads pending seen most moment left_since old calls new → Lead old (called calls) new
    calls_lead [] old new led = led
    calls_lead (call ∷ calls) old new led = (led.0, calls_lead calls call.store new led.1)

    -- steps that may be taken from this store on
    abbrev pub May : SeenStore D → List (Step D) → Type 0
    May old steps = (given : Acknowledged) → RemembersOnly given old → MayDoAll given (calls_among steps)

    pub may_both : (steps more : List (Step D)) (old mid : SeenStore D) → Lead old steps mid → May old steps → May mid more → May old (steps ++ more)
    may_both steps more old mid led may then given knows =
        subst (MayDoAll given) (sym (calls_then steps more))
        (may_then given (calls_among steps) (calls_among more) (may given knows)
        (then (given_through given (calls_among steps)) (steps_remember pending seen most moment left_since given steps old mid led knows)))

    -- none
    pub none_taken : (old new : SeenStore D) → new ≡ old → Takes old new
    none_taken old new same = record { steps = []; lead = same; may = λ given knows. tt }

    -- some, and then others
    pub taken_then : (old mid new : SeenStore D) → Takes old mid → Takes mid new → Takes old new
    taken_then old mid new first then = record {
      steps = first.steps ++ then.steps;
      lead = lead_then first.steps then.steps old mid new first.lead then.lead;
      may = may_both first.steps then.steps old mid first.lead first.may then.may;
    }

    -- calls that may be made at any time
    pub calls_taken : (old new : SeenStore D) (calls : List (Call D)) → Leads pending seen most moment left_since old calls new
        → ((given : Acknowledged) → RemembersOnly given old → MayDoAll given calls) → Takes old new
    calls_taken old new calls led may = record {
      steps = called calls;
      lead = calls_lead calls old new led;
      may = λ given knows. subst (MayDoAll given) (sym (among_called calls)) (may given knows);
    }

    -- others sit on the seats
    pub seats_taken : (old new : SeenStore D) → IsReseated pending seen old new → Takes old new
    seats_taken old new is = record { steps = Reseated new ∷ []; lead = (is, refl); may = λ given knows. tt }

    -- ---- what a store's upkeep is

    pub none_tended : (old new : SeenStore D) → new ≡ old → Tends old new
    unfolding none_taken
    none_tended old new same = record { taken = none_taken old new same; none = tt }

    pub tended_then : (old mid new : SeenStore D) → Tends old mid → Tends mid new → Tends old new
    unfolding taken_then
    tended_then old mid new first then = record {
      taken = taken_then old mid new first.taken then.taken;
      none = subst (AllByRecursion WritesNot) (sym (calls_then first.taken.steps then.taken.steps))
          (all_then WritesNot (calls_among first.taken.steps) (calls_among then.taken.steps) first.none then.none);
    }

    pub calls_tend : (old new : SeenStore D) (calls : List (Call D)) → Leads pending seen most moment left_since old calls new
        → ((given : Acknowledged) → RemembersOnly given old → MayDoAll given calls) → AllByRecursion WritesNot calls → Tends old new
    unfolding calls_taken
    calls_tend old new calls led may none = record {
      taken = calls_taken old new calls led may;
      none = subst (AllByRecursion WritesNot) (sym (among_called calls)) none;
    }

    pub seats_tended : (old new : SeenStore D) → IsReseated pending seen old new → Tends old new
    unfolding seats_taken
    seats_tended old new is = record { taken = seats_taken old new is; none = tt }

  -- ---- seats

  module _ (pending : D → Pending) (seen : D → List ℕ) where
    -- nothing was done with the seats
    pub same_seats : (old new : SeenStore D) → new ≡ old → IsReseated pending seen old new
    same_seats old new same = record {
      config = ap (λ (s : SeenStore D). s.config) same;
      count = ap (λ (s : SeenStore D). length s.seats) same;
      each = λ i. inl (ap (λ (s : SeenStore D). seat_at s i) same);
      acknowledged = inl (ap (λ (s : SeenStore D). s.acknowledged) same);
    }

    -- nothing but that the store remembers no stamps any more
    pub stamps_forgotten : (old new : SeenStore D) → new ≡ forgetting old → IsReseated pending seen old new
    stamps_forgotten old new is = record {
      config = ap (λ (s : SeenStore D). s.config) is;
      count = ap (λ (s : SeenStore D). length s.seats) is;
      each = λ i. inl (ap (λ (s : SeenStore D). seat_at s i) is);
      acknowledged = inr (ap (λ (s : SeenStore D). s.acknowledged) is);
    }

    -- another sits on one of them
    pub one_seat : (old new : SeenStore D) (i : ℕ) (seat : Option (Stored D)) → new ≡ with_seat old i seat → IsReseatedAt pending seen old.config i (seat_at old i) seat
        → IsReseated pending seen old new
    one_seat old new i seat is here = record {
      config = ap (λ (s : SeenStore D). s.config) is;
      count = ap (λ (s : SeenStore D). length s.seats) is ∙ length-set old.seats i seat;
      each = λ j. subst (λ (s : SeenStore D). IsReseatedAt pending seen old.config j (seat_at old j) (seat_at s j)) (sym is) (elim (cases_eq j i) [
        | inr other ↦ inl (get_or-set_other old.seats i j seat None other)
        | inl same ↦ subst (λ (k : ℕ). IsReseatedAt pending seen old.config k (seat_at old k) (seat_at (with_seat old i seat) k)) (sym same) (elim (cases_lt i (length old.seats)) [
          | inl l ↦ subst (IsReseatedAt pending seen old.config i (seat_at old i)) (sym (get_or-set_same old.seats i seat None l)) here
          | inr l ↦ inl (ap (λ (s : List (Option (Stored D))). slice_index_or s i None) (set_past old.seats i seat l))
        ])
      ]);
      acknowledged = inl (ap (λ (s : SeenStore D). s.acknowledged) is);
    }
