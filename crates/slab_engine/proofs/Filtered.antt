-- Elements that pass a test, and lists that are set from lists.
use Rattle.std.proofs.Common.{◌≡◌, ◌⊎◌, inl, inr, ℕ, zero, suc, ◌<◌, ◌==◌, Bool, true, false, List, [], ◌∷◌, ◌++◌, length, refl, sym, ◌∙◌, ap, subst, arith, eqb-true}
use Rattle.std.specs.Prelude.{Contains, filter, slice_set}
use Rattle.std.proofs.lemmas.Bool.{cases_Bool, false≢true, eqb-false}
use Rattle.std.proofs.lemmas.List.{get_or-set_same, get_or-set_other, length-set}
use Rattle.slab_index.specs.declared.kept.Kept.{Kept}
use Rattle.slab_index.specs.Kept.{kept_in, with_kept}
use Rattle.slab_engine.specs.declared.batch.NewSlots.{NewSlots}
use Rattle.slab_engine.specs.Moves.{with_new, without_new}
use Rattle.slab_engine.specs.Seen.{listed}
use Rattle.slab_engine.proofs.Lists.{behind}

module _ {A : Type 0} (p : A → Bool) where
  pub filter_has : (xs : List A) (x : A) → Contains xs x → p x ≡ true → Contains (filter p xs) x
  filter_has [] x there passes = absurd (omega (arith, there.1))
  filter_has (y ∷ ys) x (zero, lt, e) passes =
      let here : p y ≡ true = ap p e ∙ passes in
      rw here (0, omega arith, e)
  filter_has (y ∷ ys) x (suc k, lt, e) passes =
      let rest = filter_has ys x (k, omega (arith, lt), e) passes in
      elim (cases_Bool (p y)) [ inl stays ↦ rw stays (behind y (filter p ys) x rest) | inr goes ↦ rw goes rest ]

  first_or_rest : (y : A) (ys : List A) (x : A) → p y ≡ true → (Contains (filter p ys) x → Contains ys x × (p x ≡ true)) → Contains (y ∷ filter p ys) x → Contains (y ∷ ys) x × (p x ≡ true)
  first_or_rest y ys x stays rest (zero, lt, e) = ((0, omega arith, e), sym (ap p e) ∙ stays)
  first_or_rest y ys x stays rest (suc k, lt, e) = (let found = rest (k, omega (arith, lt), e) in (behind y ys x found.0, found.1))

  pub has_filter : (xs : List A) (x : A) → Contains (filter p xs) x → Contains xs x × (p x ≡ true)
  has_filter [] x there = absurd (omega (arith, there.1))
  has_filter (y ∷ ys) x there = elim (cases_Bool (p y)) [
    | inl stays ↦ (let at : Contains (y ∷ filter p ys) x = rw stays at there in first_or_rest y ys x stays (has_filter ys x) at)
    | inr goes ↦ (let at : Contains (filter p ys) x = rw goes at there in let rest = has_filter ys x at in (behind y ys x rest.0, rest.1))
  ]

-- what a list tells of a place that it has
pub listed_below : (xs : List Bool) (i : ℕ) → listed xs i ≡ true → i < length xs
listed_below [] i h = absurd (false≢true h)
listed_below (x ∷ xs) zero h = omega arith
listed_below (x ∷ xs) (suc i) h = (let rest = listed_below xs i h in omega (arith, rest))

pub listed_set : (xs : List Bool) (i : ℕ) → listed (slice_set xs i false) i ≡ false
listed_set [] i = refl
listed_set (x ∷ xs) zero = refl
listed_set (x ∷ xs) (suc i) = listed_set xs i

pub listed_other : (xs : List Bool) (i k : ℕ) → (k ≡ i → ⊥) → listed (slice_set xs i false) k ≡ listed xs k
listed_other xs i k differs = get_or-set_other xs i k false false differs

length_kept : (index : List (List Kept)) (block : ℕ) (ks : List Kept) → length (with_kept index block ks) ≡ length index
length_kept index block ks = length-set index block ks

pub length_new : (ns : List NewSlots) (index : List (List Kept)) → length (with_new ns index) ≡ length index
length_new [] index = refl
length_new (n ∷ ns) index = length_new ns (with_kept index n.block n.list) ∙ length_kept index n.block n.list

-- a block has the slots of one of the new ones, or none is of the block
pub new_in : (ns : List NewSlots) (index : List (List Kept)) (block : ℕ) → block < length index
    → ((kept_in (with_new ns index) block ≡ kept_in index block) × ((n : NewSlots) → Contains ns n → n.block ≡ block → ⊥))
    ⊎ ((n : NewSlots) × Contains ns n × (n.block ≡ block) × (kept_in (with_new ns index) block ≡ n.list))
new_in [] index block lt = inl (refl, λ n there is. omega (arith, there.1))
new_in (x ∷ xs) index block lt =
    let longer : block < length (with_kept index x.block x.list) = omega (arith, lt, length_kept index x.block x.list) in
    elim (new_in xs (with_kept index x.block x.list) block longer) [
      | inr found ↦ inr (found.0, behind x xs found.0 found.1, found.2, found.3)
      | inl rest ↦ elim (cases_Bool (x.block == block)) [
        | inl it ↦
            let is : x.block ≡ block = eqb-true _ _ it in
            let set : kept_in (with_kept index x.block x.list) block ≡ x.list = subst (λ (b : ℕ). kept_in (with_kept index x.block x.list) b ≡ x.list) is (get_or-set_same index x.block x.list [] (omega (arith, lt, is))) in
            inr (x, (0, omega arith, refl), is, rest.0 ∙ set)
        | inr other ↦
            let differs : block ≡ x.block → ⊥ = λ e. eqb-false _ _ other (sym e) in
            inl (rest.0 ∙ get_or-set_other index x.block block x.list [] differs, λ n there is. none x xs n there is other rest.1)
      ]
    ]
  where
    none : (x : NewSlots) (xs : List NewSlots) (n : NewSlots) → Contains (x ∷ xs) n → n.block ≡ block → (x.block == block) ≡ false → ((n : NewSlots) → Contains xs n → n.block ≡ block → ⊥) → ⊥
    none x xs n (zero, below, e) is other rest = eqb-false _ _ other (ap (λ y. y.block) e ∙ is)
    none x xs n (suc k, below, e) is other rest = rest n (k, omega (arith, below), e) is

-- a slot is one of the new ones, and is free no longer, or it is none of them
pub free_in : (ns : List NewSlots) (free : List Bool) (i : ℕ)
    → ((listed (without_new ns free) i ≡ listed free i) × ((n : NewSlots) → Contains ns n → n.slot ≡ i → ⊥))
    ⊎ ((n : NewSlots) × Contains ns n × (n.slot ≡ i) × (listed (without_new ns free) i ≡ false))
free_in [] free i = inl (refl, λ n there is. omega (arith, there.1))
free_in (x ∷ xs) free i = elim (free_in xs (slice_set free x.slot false) i) [
  | inr found ↦ inr (found.0, behind x xs found.0 found.1, found.2, found.3)
  | inl rest ↦ elim (cases_Bool (x.slot == i)) [
    | inl it ↦
        let is : x.slot ≡ i = eqb-true _ _ it in
        let set : listed (slice_set free x.slot false) i ≡ false = subst (λ (k : ℕ). listed (slice_set free x.slot false) k ≡ false) is (listed_set free x.slot) in
        inr (x, (0, omega arith, refl), is, rest.0 ∙ set)
    | inr other ↦
        let differs : i ≡ x.slot → ⊥ = λ e. eqb-false _ _ other (sym e) in
        inl (rest.0 ∙ listed_other free x.slot i differs, λ n there is. none x xs n there is other rest.1)
  ]
]
  where
    none : (x : NewSlots) (xs : List NewSlots) (n : NewSlots) → Contains (x ∷ xs) n → n.slot ≡ i → (x.slot == i) ≡ false → ((n : NewSlots) → Contains xs n → n.slot ≡ i → ⊥) → ⊥
    none x xs n (zero, below, e) is other rest = eqb-false _ _ other (ap (λ y. y.slot) e ∙ is)
    none x xs n (suc k, below, e) is other rest = rest n (k, omega (arith, below), e) is

-- one more at the end
pub new_push : (ns : List NewSlots) (n : NewSlots) (index : List (List Kept)) → with_new (ns ++ n ∷ []) index ≡ with_kept (with_new ns index) n.block n.list
new_push [] n index = refl
new_push (x ∷ xs) n index = new_push xs n (with_kept index x.block x.list)

pub free_push : (ns : List NewSlots) (n : NewSlots) (free : List Bool) → without_new (ns ++ n ∷ []) free ≡ slice_set (without_new ns free) n.slot false
free_push [] n free = refl
free_push (x ∷ xs) n free = free_push xs n (slice_set free x.slot false)
