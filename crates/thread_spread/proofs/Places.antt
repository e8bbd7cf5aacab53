-- What holds at the places of lists, put together and changed at one place.
use Rattle.std.proofs.Common.{◌≡◌, ℕ, ◌+◌, ◌-◌, ◌<◌, ◌≤◌, List, ◌++◌, length, sym, subst, ap, ◌∙◌, arith}
use Rattle.std.specs.Prelude.{slice_index_or, slice_set}
use Rattle.std.proofs.lemmas.Bool.{cases_lt}
use Rattle.std.proofs.lemmas.List.{get_or_default, length-append, get_or_append_left, get_or-append_right, get_or-set_same, get_or-set_other}
use mathlib.Core.Logic.{⊎_elim}

module _ {X : Type 0} (R : ℕ → X → X → Type 0) where
  -- R holds at each place of two lists, of which the first stands at base
  abbrev pub Each : ℕ → List X → List X → Type 0
  Each base xs ys = (k : ℕ) (d : X) → k < length xs → R (base + k) (slice_index_or xs k d) (slice_index_or ys k d)

  -- where it holds of two parts it holds of the whole
  pub each_of_parts : (base n : ℕ) (xs more ys after : List X) → length xs ≡ n → length ys ≡ n → Each base xs ys → Each (base + n) more after → Each base (xs ++ more) (ys ++ after)
  each_of_parts base n xs more ys after long same front back k d lt =
      ⊎_elim
      (λ h. subst (λ x. R (base + k) x (slice_index_or (ys ++ after) k d)) (sym (get_or_append_left xs more d k (omega (arith, h, long))))
      (subst (R (base + k) (slice_index_or xs k d)) (sym (get_or_append_left ys after d k (omega (arith, h, same)))) (front k d (omega (arith, h, long)))))
      (λ h.
      let e : base + n + (k - n) ≡ base + k = omega (arith, h) in
      let l : k - n < length more = (let a = length-append xs more in omega (arith, h, lt, a, long)) in
      subst (λ i. R i (slice_index_or (xs ++ more) k d) (slice_index_or (ys ++ after) k d)) e
      (subst (λ x. R (base + n + (k - n)) x (slice_index_or (ys ++ after) k d)) (sym (get_or-append_right xs more n k d long h))
      (subst (R (base + n + (k - n)) (slice_index_or more (k - n) d)) (sym (get_or-append_right ys after n k d same h)) (back (k - n) d l))))
      (cases_lt k n)

  -- where it holds below a place, and what is put there was made of the element as it says, it holds below the next place
  pub one_more : (base k : ℕ) (xs ys : List X) (y e : X) → k < length ys
      → ((j : ℕ) (d : X) → k ≤ j → slice_index_or ys j d ≡ slice_index_or xs j d)
      → ((j : ℕ) (d : X) → j < k → R (base + j) (slice_index_or xs j d) (slice_index_or ys j d))
      → R (base + k) (slice_index_or ys k e) y
      → (j : ℕ) (d : X) → j < k + 1 → R (base + j) (slice_index_or xs j d) (slice_index_or (slice_set ys k y) j d)
  one_more base k xs ys y e inside ahead done now j d lt =
      ⊎_elim
      (λ h. subst (R (base + j) (slice_index_or xs j d)) (sym (get_or-set_other ys k j y d (λ same. omega (arith, same, h)))) (done j d h))
      (λ h.
      let same : k ≡ j = omega (arith, h, lt) in
      subst (λ i. R (base + i) (slice_index_or xs i d) (slice_index_or (slice_set ys k y) i d)) same
      (subst (R (base + k) (slice_index_or xs k d)) (sym (get_or-set_same ys k y d inside))
      (subst (λ x. R (base + k) x y) (get_or_default ys k e d inside ∙ ahead k d (omega arith)) now)))
      (cases_lt j k)

-- what isn't put at a place stays
pub stays_ahead : {X : Type 0} (k : ℕ) (xs ys : List X) (y : X) → ((j : ℕ) (d : X) → k ≤ j → slice_index_or ys j d ≡ slice_index_or xs j d)
    → (j : ℕ) (d : X) → k + 1 ≤ j → slice_index_or (slice_set ys k y) j d ≡ slice_index_or xs j d
stays_ahead k xs ys y ahead j d le = get_or-set_other ys k j y d (λ same. omega (arith, same, le)) ∙ ahead j d (omega (arith, le))

-- what holds at each place of the whole holds at each place of the second part
pub of_the_rest : {X : Type 0} (P : ℕ → X → Type 0) (base n : ℕ) (xs part rest : List X) → xs ≡ part ++ rest → length part ≡ n
    → ((k : ℕ) (d : X) → k < length xs → P (base + k) (slice_index_or xs k d))
    → (k : ℕ) (d : X) → k < length rest → P (base + n + k) (slice_index_or rest k d)
of_the_rest P base n xs part rest parts long each k d lt =
    let all = ap length parts in
    let add = length-append part rest in
    let there : slice_index_or xs (n + k) d ≡ slice_index_or rest k d =
    ap (λ l. slice_index_or l (n + k) d) parts ∙ get_or-append_right part rest n (n + k) d long (omega arith) ∙ ap (λ i. slice_index_or rest i d) (omega arith) in
    let e : base + (n + k) ≡ base + n + k = omega arith in
    subst (λ i. P i (slice_index_or rest k d)) e (subst (P (base + (n + k))) there (each (n + k) d (omega (arith, all, add, long, lt))))
