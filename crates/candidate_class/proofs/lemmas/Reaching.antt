-- Steps of counts and of the greatest, and when there is no k-th highest.
use Rattle.std.proofs.Common.{◌≡◌, ◌⊎◌, ◌↔◌, ℕ, zero, suc, ◌+◌, ◌<◌, ◌≤◌, Bool, true, false, cond, Option, refl, inl, inr, arith, add-one}
use Rattle.std.specs.declared.option.Option.TheVariants.{None, Some}
use Rattle.std.proofs.lemmas.Bool.{cases_lt}
use Rattle.stamp_order.specs.declared.Stamp.{Stamp}
use Rattle.stamp_order.specs.Stamps.{up_to, ◌≼◌}
use Rattle.protocol.specs.Count.{count}
use Rattle.protocol.specs.Reach.{reaches, greater, greatest, highest}
use Rattle.protocol.specs.Operations.{is_there}
use Rattle.protocol.proofs.lemmas.Counting.{count_within, some_passes}
use Rattle.protocol.proofs.lemmas.Order.{≼-refl, ≼-trans, not_up_to, stamps_order}
use Rattle.protocol.proofs.lemmas.Highest.{highest_reaches, highest_is, upto_last}

pub count-next : (k : ℕ) (p : ℕ → Bool) → count (k + 1) p ≡ count k p + cond (p k) 1 0
count-next k p = rw add-one refl

pub greatest-next : (k : ℕ) (f : ℕ → Option Stamp) → greatest up_to (k + 1) f ≡ greater up_to (greatest up_to k f) (f k)
greatest-next k f = rw add-one refl

-- none is there, or one is least
abbrev NoneIs : ℕ → (ℕ → Option Stamp) → Type 0
NoneIs n f = (i : ℕ) → i < n → is_there (f i) ≡ true → ⊥

abbrev AllReach : ℕ → (ℕ → Option Stamp) → Stamp → Type 0
AllReach n f x = (i : ℕ) → i < n → is_there (f i) ≡ true → reaches up_to x (f i) ≡ true

lower : (x y : Stamp) (o : Option Stamp) → y ≼ x → reaches up_to x o ≡ true → reaches up_to y o ≡ true
lower x y None h k = k
lower x y (Some v) h k = ≼-trans y x v h k

least_with : (n : ℕ) (f : ℕ → Option Stamp) (v : Stamp) → f n ≡ Some v → NoneIs n f ⊎ ((x : Stamp) × AllReach n f x) → (x : Stamp) × AllReach (suc n) f x
least_with n f v e (inl none) = (v, upto_last n (λ i. is_there (f i) ≡ true → reaches up_to v (f i) ≡ true) (λ i l t. absurd (none i l t)) (λ t. rw e (≼-refl v)))
least_with n f v e (inr (x, all)) = at (up_to v x) refl
  where
    at : (b : Bool) → up_to v x ≡ b → (y : Stamp) × AllReach (suc n) f y
    at true h = (v, upto_last n (λ i. is_there (f i) ≡ true → reaches up_to v (f i) ≡ true) (λ i l t. lower x v (f i) h (all i l t)) (λ t. rw e (≼-refl v)))
    at false h = (x, upto_last n (λ i. is_there (f i) ≡ true → reaches up_to x (f i) ≡ true) all (λ t. rw e (not_up_to v x h)))

least_past : (n : ℕ) (f : ℕ → Option Stamp) → f n ≡ None → NoneIs n f ⊎ ((x : Stamp) × AllReach n f x) → NoneIs (suc n) f ⊎ ((x : Stamp) × AllReach (suc n) f x)
least_past n f e (inl none) = inl (upto_last n (λ i. is_there (f i) ≡ true → ⊥) none (λ t. let g : is_there None ≡ true = rw e at t in cc))
least_past n f e (inr (x, all)) = inr (x, upto_last n (λ i. is_there (f i) ≡ true → reaches up_to x (f i) ≡ true) all (λ t. absurd (let g : is_there None ≡ true = rw e at t in cc)))

least : (n : ℕ) (f : ℕ → Option Stamp) → NoneIs n f ⊎ ((x : Stamp) × AllReach n f x)
least zero f = inl (λ i l t. omega arith)
least (suc n) f = at (f n) refl (least n f)
  where
    at : (o : Option Stamp) → f n ≡ o → NoneIs n f ⊎ ((x : Stamp) × AllReach n f x) → NoneIs (suc n) f ⊎ ((x : Stamp) × AllReach (suc n) f x)
    at None e h = least_past n f e h
    at (Some v) e h = inr (least_with n f v e h)

module _ (n k : ℕ) (f : ℕ → Option Stamp) (pos : 0 < k) where
  -- what reaches a stamp is there
  reached_is : (x : Stamp) (o : Option Stamp) → reaches up_to x o ≡ true → is_there o ≡ true
  reached_is x None h = absurd (cc)
  reached_is x (Some v) h = refl

  has_highest : k ≤ count n (λ i. is_there (f i)) → highest up_to n f k ≡ None → ⊥
  has_highest many none =
      elim (least n f) [
        | inl none_is ↦ (let some = some_passes n (λ i. is_there (f i)) (omega arith) in none_is some.0 some.1 some.2)
        | inr (x, all) ↦ (
            let more = count_within n (λ i. is_there (f i)) (λ i. reaches up_to x (f i)) all in
            let top = highest_reaches up_to stamps_order n k f x pos (omega arith) in
            let e = top.1 in
            cc)
      ]

  lacks_highest : count n (λ i. is_there (f i)) < k → (o : Option Stamp) → highest up_to n f k ≡ o → o ≡ None
  lacks_highest few None e = refl
  lacks_highest few (Some x) e =
      let is = highest_is up_to stamps_order n k f x e in
      let within = count_within n (λ i. reaches up_to x (f i)) (λ i. is_there (f i)) (λ i l h. reached_is x (f i) h) in
      absurd (omega (arith, within, is.3))

  -- there is no k-th highest exactly where fewer than k are there
  pub highest_none : (highest up_to n f k ≡ None) ↔ (count n (λ i. is_there (f i)) < k)
  highest_none = (
    λ e. elim (cases_lt (count n (λ i. is_there (f i))) k) [ inl l ↦ l | inr m ↦ absurd (has_highest m e) ],
    λ few. lacks_highest few (highest up_to n f k) refl,
  )
