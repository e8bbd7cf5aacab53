-- Numbers that are picked one by one.
use Rattle.std.proofs.Common.{◌≡◌, inl, inr, ℕ, suc, ◌+◌, ◌<◌, ◌≤◌, Bool, true, false, cond, List, [], ◌∷◌, ◌++◌, length, get_or, sym, ◌∙◌, ap, subst, arith}
use Rattle.std.specs.Prelude.{All, Contains}
use Rattle.std.specs.List.{AllPairs}
use Rattle.std.proofs.lemmas.Bool.{cases_lt}
use Rattle.std.proofs.lemmas.List.{get_or_append_left, get_or_push, length_push}
use Rattle.std.proofs.lemmas.List.Elements.{All-push, All-weaker, Contains-push, Contains-append_left}
use Rattle.protocol.specs.Count.{count}
use Rattle.slab_engine.specs.Seen.{listed}
use Rattle.slab_engine.specs.declared.plan.Plan.{Plan}
use Rattle.slab_engine.specs.declared.plan.Plan.TheVariants.{Adds}
use Rattle.slab_engine.specs.Batches.{AreAddingBelow, AreFreeBelow, ArePicked}

-- one more, greater than all
pub pairs_push : (xs : List ℕ) (n : ℕ) → AllPairs (λ i j. i < j) xs → All (λ i. i < n) xs → AllPairs (λ i j. i < j) (xs ++ n ∷ [])
pairs_push xs n pairs below i j d lt low = elim (cases_lt j (length xs)) [
  | inl inside ↦
      let a : get_or (xs ++ n ∷ []) i d ≡ get_or xs i d = get_or_append_left xs (n ∷ []) d i (omega (arith, lt, inside)) in
      let b : get_or (xs ++ n ∷ []) j d ≡ get_or xs j d = get_or_append_left xs (n ∷ []) d j inside in
      let up = pairs i j d lt inside in
      omega (arith, a, b, up)
  | inr at ↦
      let last : j ≡ length xs = omega (arith, at, low, length_push xs n) in
      let a : get_or (xs ++ n ∷ []) i d ≡ get_or xs i d = get_or_append_left xs (n ∷ []) d i (omega (arith, lt, last)) in
      let b : get_or (xs ++ n ∷ []) j d ≡ n = get_or_push xs n d j (sym last) in
      let up = below i d (omega (arith, lt, last)) in
      omega (arith, a, b, up)
]

-- ---- plans

pub adding_none : (plans : List Plan) → AreAddingBelow plans 0 []
adding_none plans = record { each = λ k d lt. absurd (omega (arith, lt)); all = λ i d lt is. absurd (omega (arith, lt)); ascend = λ i j d lt low. absurd (omega (arith, low)) }

module _ (plans : List Plan) (n : ℕ) (added : List ℕ) (so_far : AreAddingBelow plans n added) where
  abbrev Adding : ℕ → Type 0
  Adding i = (i < n) × ((d : Plan) → get_or plans i d ≡ Adds)

  abbrev AddingMore : ℕ → Type 0
  AddingMore i = (i < n + 1) × ((d : Plan) → get_or plans i d ≡ Adds)

  more : All AddingMore added
  more = All-weaker Adding AddingMore (λ i is. (omega (arith, is.0), is.1)) added so_far.each

  pub adding_other : ((d : Plan) → get_or plans n d ≡ Adds → ⊥) → AreAddingBelow plans (n + 1) added
  adding_other none = record {
    each = more;
    all = λ i d lt is. elim (cases_lt i n) [ inl below ↦ so_far.all i d below is | inr at ↦ (let top : i ≡ n = omega (arith, at, lt) in absurd (none d (subst (λ (k : ℕ). get_or plans k d ≡ Adds) top is))) ];
    ascend = so_far.ascend;
  }

  pub adding_more : ((d : Plan) → get_or plans n d ≡ Adds) → AreAddingBelow plans (n + 1) (added ++ n ∷ [])
  adding_more it = record {
    each = All-push AddingMore added n more (omega arith, it);
    all = λ i d lt is. elim (cases_lt i n) [
      | inl below ↦ Contains-append_left added (n ∷ []) i (so_far.all i d below is)
      | inr at ↦ (let top : n ≡ i = omega (arith, at, lt) in subst (λ (k : ℕ). Contains (added ++ n ∷ []) k) top (Contains-push added n))
    ];
    ascend = pairs_push added n so_far.ascend (All-weaker Adding (λ i. i < n) (λ i is. is.0) added so_far.each);
  }

-- ---- free slots

pub free_none : (fs : List Bool) (n : ℕ) → AreFreeBelow fs n []
free_none fs n = record { each = λ k d lt. absurd (omega (arith, lt)); ascend = λ i j d lt low. absurd (omega (arith, low)) }

module _ (fs : List Bool) (n : ℕ) (slots : List ℕ) (so_far : AreFreeBelow fs n slots) where
  abbrev Free : ℕ → Type 0
  Free i = (i < n) × (listed fs i ≡ true)

  abbrev FreeMore : ℕ → Type 0
  FreeMore i = (i < n + 1) × (listed fs i ≡ true)

  pub free_other : AreFreeBelow fs (n + 1) slots
  free_other = record { each = All-weaker Free FreeMore (λ i is. (omega (arith, is.0), is.1)) slots so_far.each; ascend = so_far.ascend }

  pub free_more : listed fs n ≡ true → AreFreeBelow fs (n + 1) (slots ++ n ∷ [])
  free_more it = record {
    each = All-push FreeMore slots n free_other.each (omega arith, it);
    ascend = pairs_push slots n so_far.ascend (All-weaker Free (λ i. i < n) (λ i is. is.0) slots so_far.each);
  }

  pub picked_of : (wanted : ℕ) → length slots ≡ wanted → n ≤ length fs → ArePicked fs slots wanted
  picked_of wanted long le = record {
    count = long;
    each = All-weaker Free (λ i. (i < length fs) × (listed fs i ≡ true)) (λ i is. (omega (arith, is.0, le), is.1)) slots so_far.each;
    ascend = so_far.ascend;
  }

pub count_true : (n : ℕ) (p : ℕ → Bool) → p n ≡ true → count (n + 1) p ≡ count n p + 1
count_true n p is = (let e : n + 1 ≡ suc n = omega arith in ap (λ k. count k p) e ∙ ap (λ b. count n p + cond b 1 0) is)

pub count_false : (n : ℕ) (p : ℕ → Bool) → p n ≡ false → count (n + 1) p ≡ count n p
count_false n p is = (let e : n + 1 ≡ suc n = omega arith in let z : count n p + 0 ≡ count n p = omega arith in ap (λ k. count k p) e ∙ ap (λ b. count n p + cond b 1 0) is ∙ z)
