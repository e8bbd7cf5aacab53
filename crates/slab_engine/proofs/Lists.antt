-- Versions by their slots.
use Rattle.std.proofs.Common.{◌≡◌, inl, inr, ℕ, suc, ◌==◌, ◌||◌, Bool, true, false, List, [], ◌∷◌, ◌++◌, refl, ◌∙◌, ap, arith, eqb-true}
use Rattle.std.specs.Prelude.{Contains}
use Rattle.std.specs.List.{AllByRecursion}
use Rattle.std.proofs.lemmas.Bool.{cases_Bool, false≢true}
use Rattle.slab_engine.specs.Seen.{Leaving, has_slot}

pub behind : {A : Type 0} (x : A) (xs : List A) (k : A) → Contains xs k → Contains (x ∷ xs) k
behind x xs k there = (suc there.0, omega (arith, there.1), there.2)

or_assoc : (a b c : Bool) → (a || (b || c)) ≡ ((a || b) || c)
or_assoc true b c = refl
or_assoc false b c = refl

pub has_append : (xs ys : List Leaving) (k : ℕ) → has_slot (xs ++ ys) k ≡ (has_slot xs k || has_slot ys k)
has_append [] ys k = refl
has_append (x ∷ xs) ys k = ap (λ b. x.slot == k || b) (has_append xs ys k) ∙ or_assoc (x.slot == k) (has_slot xs k) (has_slot ys k)

-- a version that has the slot
pub slot_of : (P : Leaving → Type 0) (ls : List Leaving) (k : ℕ) → AllByRecursion P ls → has_slot ls k ≡ true → (l : Leaving) × Contains ls l × (l.slot ≡ k) × P l
slot_of P [] k all has = absurd (false≢true has)
slot_of P (x ∷ xs) k all has = elim (cases_Bool (x.slot == k)) [
  | inl it ↦ (x, (0, omega arith, refl), eqb-true _ _ it, all.0)
  | inr other ↦
      let rest : has_slot xs k ≡ true = rw other at has in
      let found = slot_of P xs k all.1 rest in
      (found.0, behind x xs found.0 found.1, found.2, found.3)
]

pub all_append : (P : Leaving → Type 0) (xs ys : List Leaving) → AllByRecursion P xs → AllByRecursion P ys → AllByRecursion P (xs ++ ys)
all_append P [] ys all more = more
all_append P (x ∷ xs) ys all more = (all.0, all_append P xs ys all.1 more)

pub all_weaker : (P Q : Leaving → Type 0) → ((l : Leaving) → P l → Q l) → (ls : List Leaving) → AllByRecursion P ls → AllByRecursion Q ls
all_weaker P Q weaker [] all = tt
all_weaker P Q weaker (l ∷ ls) all = (weaker l all.0, all_weaker P Q weaker ls all.1)
