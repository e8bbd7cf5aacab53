-- What the turns of the parts come to is what all turns come to.
use Rattle.std.proofs.Common.{◌≡◌, ℕ, suc, ◌+◌, ◌<◌, ◌≤◌, List, [], ◌∷◌, ◌++◌, length, sym, subst, ◌∙◌, arith}
use Rattle.std.specs.Prelude.{slice_index_or, slice_set}
use Rattle.std.specs.List.{AllZip, flat_map}
use Rattle.std.proofs.lemmas.Bool.{cases_lt}
use Rattle.std.proofs.lemmas.List.{get_or_default, get_or-set_same, get_or-set_other}
use mathlib.Core.Logic.{⊎_elim}
use Rattle.batch_clients.specs.declared.part.Part.{Part}
use Rattle.batch_clients.specs.Turns.{Comes}
use Rattle.batch_clients.specs.Sharing.{turns_of, IsTaken}

module _ {X : Type 0} (R : X → X → Type 0) where
  pub zipped : (xs ys : List X) → length ys ≡ length xs → ((i : ℕ) (d : X) → i < length xs → R (slice_index_or xs i d) (slice_index_or ys i d)) → AllZip R xs ys
  zipped [] [] long each = tt
  zipped [] (y ∷ ys) long each = absurd (omega (arith, long))
  zipped (x ∷ xs) [] long each = absurd (omega (arith, long))
  zipped (x ∷ xs) (y ∷ ys) long each = (each 0 x (omega arith), zipped xs ys (omega (arith, long)) (λ i d lt. each (suc i) d (omega (arith, lt))))

  pub zip_append : (xs ys more after : List X) → AllZip R xs ys → AllZip R more after → AllZip R (xs ++ more) (ys ++ after)
  zip_append [] [] more after h k = k
  zip_append [] (y ∷ ys) more after h k = absurd h
  zip_append (x ∷ xs) [] more after h k = absurd h
  zip_append (x ∷ xs) (y ∷ ys) more after h k = (h.0, zip_append xs ys more after h.1 k)

  -- where it holds below a place, and what is put there was made of the element as it says, it holds below the next place
  pub one_more : (k : ℕ) (xs ys : List X) (y e : X) → k < length ys → ((j : ℕ) (d : X) → k ≤ j → slice_index_or ys j d ≡ slice_index_or xs j d)
      → ((j : ℕ) (d : X) → j < k → R (slice_index_or xs j d) (slice_index_or ys j d)) → R (slice_index_or ys k e) y
      → (j : ℕ) (d : X) → j < k + 1 → R (slice_index_or xs j d) (slice_index_or (slice_set ys k y) j d)
  one_more k xs ys y e inside ahead done now j d lt =
      ⊎_elim
      (λ h. subst (R (slice_index_or xs j d)) (sym (get_or-set_other ys k j y d (λ same. omega (arith, same, h)))) (done j d h))
      (λ h.
      let same : k ≡ j = omega (arith, h, lt) in
      subst (λ i. R (slice_index_or xs i d) (slice_index_or (slice_set ys k y) i d)) same
      (subst (R (slice_index_or xs k d)) (sym (get_or-set_same ys k y d inside))
      (subst (λ x. R x y) (get_or_default ys k e d inside ∙ ahead k d (omega arith)) now)))
      (cases_lt j k)

-- what isn't put at a place stays
pub stays_ahead : {X : Type 0} (k : ℕ) (xs ys : List X) (y : X) → ((j : ℕ) (d : X) → k ≤ j → slice_index_or ys j d ≡ slice_index_or xs j d)
    → (j : ℕ) (d : X) → k + 1 ≤ j → slice_index_or (slice_set ys k y) j d ≡ slice_index_or xs j d
stays_ahead k xs ys y ahead j d le = get_or-set_other ys k j y d (λ same. omega (arith, same, le)) ∙ ahead j d (omega (arith, le))

pub all_taken : (old new : List Part) → AllZip IsTaken old new → AllZip Comes (flat_map turns_of old) (flat_map turns_of new)
all_taken [] [] h = tt
all_taken [] (y ∷ ys) h = absurd h
all_taken (x ∷ xs) [] h = absurd h
all_taken (x ∷ xs) (y ∷ ys) h = zip_append Comes (turns_of x) (turns_of y) (flat_map turns_of xs) (flat_map turns_of ys) h.0 (all_taken xs ys h.1)
