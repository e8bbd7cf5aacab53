-- Orders of the operations on each block come together in one order of all.
--
-- Each operation is pinned to a moment between its start and its end, in each block's order none to an earlier one than
-- those before it. All pins are sorted by their moments, which leaves those of one block as they stand.
use Rattle.std.proofs.Common.{◌≡◌, ◌⊎◌, ℕ, zero, suc, ◌<◌, ◌≤◌, ◌++◌, ◌&&◌, Bool, true, false, cond, not, eqb, ltb, leb, filter, map, List, [], ◌∷◌, get_or, Option, refl, sym, ap, subst, ◌∙◌, inl, inr, arith}
use Rattle.std.specs.declared.option.Option.TheVariants.{None, Some}
use Rattle.std.specs.List.{Contains, AllPairs, sum_by}
use Rattle.std.specs.List.Sorted.{IsPermutation}
use Rattle.std.proofs.lemmas.Bool.{eqb-true, eq-eqb, leb-true, leb-false, le-leb, lt-ltb, ltb-true, cases_lt, cases_eq}
use Rattle.std.proofs.lemmas.Bool.Decides.{nat_tests}
use Rattle.std.proofs.lemmas.List.{append_assoc, append-nil, map-append}
use Rattle.std.proofs.lemmas.List.Elements.{Contains-get_or, Contains-append_cases, filter-append}
use Rattle.std.proofs.lemmas.List.Sums.{get_or-le-sum_by}
use Rattle.std.proofs.lemmas.List.Sorted.{IsPermutation-refl, IsPermutation-cons, IsPermutation-trans, IsPermutation-sym, IsPermutation-middle, IsPermutation-map, IsPermutation-append, IsPermutation-append_left, IsPermutation-append_right, IsPermutation-append_comm, IsPermutation-filter_both, Contains-permutation}
use Rattle.lists.proofs.lemmas.Members.{Contains-head, Contains-none, Contains-rest, Contains-cons_cases, Contains-map, filter_is}
use Rattle.linear_runs.specs.Linear.{Operation, IsBefore, IsInTime, Linearizable, IsLinearAsOne, ReadsLast, on_block}
use Rattle.linear_runs.specs.Meaning.{EachTakesTime}
use Rattle.linear_runs.proofs.lemmas.Matching.{filter_map_of, filter_none}
use Rattle.linear_runs.proofs.Meaning.{first_late, rest_late, comes}
use Rattle.linear_runs.proofs.lemmas.Orders.{pairs_map}

-- an operation and its moment
record Pin : Type 0 where
  at : ℕ
  op : Operation

-- ---- sorting pins

abbrev Rise : List Pin → Type 0
Rise [] = Unit {0}
Rise (x ∷ xs) = ((y : Pin) → Contains xs y → x.at ≤ y.at) × Rise xs

abbrev put : Pin → List Pin → List Pin
put x [] = x ∷ []
put x (y ∷ ys) = cond (leb x.at y.at) (x ∷ y ∷ ys) (y ∷ put x ys)

abbrev sort : List Pin → List Pin
sort [] = []
sort (x ∷ xs) = put x (sort xs)

put_moves : (x : Pin) (ys : List Pin) → IsPermutation (x ∷ ys) (put x ys)
put_moves x [] = IsPermutation-refl (x ∷ [])
put_moves x (y ∷ ys) = at (leb x.at y.at) (put_moves x ys)
  where
    at : (b : Bool) → IsPermutation (x ∷ ys) (put x ys) → IsPermutation (x ∷ y ∷ ys) (cond b (x ∷ y ∷ ys) (y ∷ put x ys))
    at true k = IsPermutation-refl (x ∷ y ∷ ys)
    at false k = IsPermutation-trans _ _ _ (IsPermutation-middle (x ∷ []) y ys) (IsPermutation-cons y (x ∷ ys) (put x ys) k)

sort_moves : (xs : List Pin) → IsPermutation xs (sort xs)
sort_moves [] = IsPermutation-refl []
sort_moves (x ∷ xs) = IsPermutation-trans _ _ _ (IsPermutation-cons x xs (sort xs) (sort_moves xs)) (put_moves x (sort xs))

put_is : (x : Pin) (ys : List Pin) (z : Pin) → Contains (put x ys) z → (z ≡ x) ⊎ Contains ys z
put_is x ys z k = Contains-cons_cases z x ys (Contains-permutation (put x ys) (x ∷ ys) z (IsPermutation-sym _ _ (put_moves x ys)) k)

put_rises : (x : Pin) (ys : List Pin) → Rise ys → Rise (put x ys)
put_rises x [] r = (λ y k. absurd (Contains-none y k), tt)
put_rises x (y ∷ ys) r = at (leb x.at y.at) refl (put_rises x ys r.1)
  where
    at : (b : Bool) → leb x.at y.at ≡ b → Rise (put x ys) → Rise (cond b (x ∷ y ∷ ys) (y ∷ put x ys))
    at true e k =
        let l = leb-true x.at y.at e in
        (λ z m. elim (Contains-cons_cases z y ys m) [ inl q ↦ rw q l | inr n ↦ (let g = r.0 z n in omega (arith, l, g)) ], r)
    at false e k =
        let l = leb-false x.at y.at e in
        (λ z m. elim (put_is x ys z m) [ inl q ↦ rw q (omega (arith, l)) | inr n ↦ r.0 z n ], k)

sort_rises : (xs : List Pin) → Rise (sort xs)
sort_rises [] = tt
sort_rises (x ∷ xs) = put_rises x (sort xs) (sort_rises xs)

put_low : (x : Pin) (zs : List Pin) → ((z : Pin) → Contains zs z → x.at ≤ z.at) → put x zs ≡ x ∷ zs
put_low x [] h = refl
put_low x (z ∷ zs) h = rw (le-leb x.at z.at (h z (Contains-head z zs))) refl

sort_same : (xs : List Pin) → Rise xs → sort xs ≡ xs
sort_same [] r = refl
sort_same (x ∷ xs) r = rw (sort_same xs r.1) (put_low x xs r.0)

module _ (p : Pin → Bool) where
  passed_over : (x : Pin) (ys : List Pin) → p x ≡ false → filter p (put x ys) ≡ filter p ys
  passed_over x [] e = rw e refl
  passed_over x (y ∷ ys) e = at (leb x.at y.at) (passed_over x ys e)
    where
      at : (b : Bool) → filter p (put x ys) ≡ filter p ys → filter p (cond b (x ∷ y ∷ ys) (y ∷ put x ys)) ≡ filter p (y ∷ ys)
      at true k = rw e refl
      at false k = rw k refl

  put_among : (x : Pin) (ys : List Pin) → Rise ys → p x ≡ true → filter p (put x ys) ≡ put x (filter p ys)
  put_among x [] r e = rw e refl
  put_among x (y ∷ ys) r e = at (leb x.at y.at) refl (put_among x ys r.1 e)
    where
      low : x.at ≤ y.at → (z : Pin) → Contains (filter p (y ∷ ys)) z → x.at ≤ z.at
      low l z k = elim (Contains-cons_cases z y ys (filter_is p (y ∷ ys) z k).0) [ inl q ↦ rw q l | inr m ↦ (let g = r.0 z m in omega (arith, l, g)) ]

      step : (b : Bool) → leb x.at y.at ≡ false → filter p (put x ys) ≡ put x (filter p ys) → cond b (y ∷ filter p (put x ys)) (filter p (put x ys)) ≡ put x (cond b (y ∷ filter p ys) (filter p ys))
      step true f k = rw (f, k) refl
      step false f k = k

      at : (b : Bool) → leb x.at y.at ≡ b → filter p (put x ys) ≡ put x (filter p ys) → filter p (cond b (x ∷ y ∷ ys) (y ∷ put x ys)) ≡ put x (filter p (y ∷ ys))
      at true f k = rw e (sym (put_low x (filter p (y ∷ ys)) (low (leb-true x.at y.at f))))
      at false f k = step (p y) f k

  filter_sort : (xs : List Pin) → filter p (sort xs) ≡ sort (filter p xs)
  filter_sort [] = refl
  filter_sort (x ∷ xs) = at (p x) refl (filter_sort xs)
    where
      at : (b : Bool) → p x ≡ b → filter p (sort xs) ≡ sort (filter p xs) → filter p (put x (sort xs)) ≡ sort (cond b (x ∷ filter p xs) (filter p xs))
      at true e k = put_among x (sort xs) (sort_rises xs) e ∙ ap (put x) k
      at false e k = passed_over x (sort xs) e ∙ k

-- ---- pinning an order

later : ℕ → Option ℕ → ℕ
later m None = m
later m (Some n) = cond (leb m n) n m

later_up : (m : ℕ) (z : Option ℕ) → m ≤ later m z
unfolding later
later_up m None = omega arith
later_up m (Some n) = at (leb m n) refl
  where
    at : (b : Bool) → leb m n ≡ b → m ≤ cond b n m
    at true e = leb-true m n e
    at false e = omega arith

later_start : (m : ℕ) (z : Option ℕ) (n : ℕ) → z ≡ Some n → n ≤ later m z
unfolding later
later_start m z n e = rw e (at (leb m n) refl)
  where
    at : (b : Bool) → leb m n ≡ b → n ≤ cond b n m
    at true f = omega arith
    at false f = (let l = leb-false m n f in omega (arith, l))

later_below : (m : ℕ) (z : Option ℕ) (end : ℕ) → m ≤ end → ((n : ℕ) → z ≡ Some n → n ≤ end) → later m z ≤ end
unfolding later
later_below m None end l h = l
later_below m (Some n) end l h = at (leb m n)
  where
    at : (b : Bool) → cond b n m ≤ end
    at true = h n refl
    at false = l

abbrev pins : ℕ → List Operation → List Pin
pins m [] = []
pins m (o ∷ os) = record { at = later m o.start; op = o } ∷ pins (later m o.start) os

abbrev op_of : Pin → Operation
op_of p = p.op

map_pins : (m : ℕ) (os : List Operation) → map op_of (pins m os) ≡ os
map_pins m [] = refl
map_pins m (o ∷ os) = ap (λ (ps : List Operation). o ∷ ps) (map_pins (later m o.start) os)

pinned : (m : ℕ) (os : List Operation) (p : Pin) → Contains (pins m os) p → Contains os p.op
pinned m os p k = subst (λ (xs : List Operation). Contains xs p.op) (map_pins m os) (Contains-map op_of (pins m os) p k)

pins_low : (m : ℕ) (os : List Operation) (p : Pin) → Contains (pins m os) p → m ≤ p.at
pins_low m [] p k = absurd (Contains-none p k)
pins_low m (o ∷ os) p k =
    let rest = pins_low (later m o.start) os p in
    let l = later_up m o.start in
    elim (Contains-cons_cases p (record { at = later m o.start; op = o }) (pins (later m o.start) os) k) [
      | inl q ↦ rw q l
      | inr n ↦ (let g = rest n in omega (arith, l, g))
    ]

pins_rise : (m : ℕ) (os : List Operation) → Rise (pins m os)
pins_rise m [] = tt
pins_rise m (o ∷ os) = (λ y k. pins_low (later m o.start) os y k, pins_rise (later m o.start) os)

-- its moment is between its start and its end
record IsFit (p : Pin) : Type 0 where
  begun : (start : ℕ) → p.op.start ≡ Some start → start ≤ p.at
  ended : (end : ℕ) → p.op.end ≡ Some end → p.at ≤ end

abbrev Takes : Operation → Type 0
Takes o = (start end : ℕ) → o.start ≡ Some start → o.end ≡ Some end → start ≤ end

pins_fit : (m : ℕ) (os : List Operation) → IsInTime os → ((o : Operation) → Contains os o → Takes o) → ((o : Operation) (end : ℕ) → Contains os o → o.end ≡ Some end → m ≤ end) → (p : Pin) → Contains (pins m os) p → IsFit p
pins_fit m [] time takes low p k = absurd (Contains-none p k)
pins_fit m (o ∷ os) time takes low p k =
    let rest = pins_fit (later m o.start) os (rest_late o os time) (λ x l. takes x (Contains-rest x o os l)) above p in
    elim (Contains-cons_cases p (record { at = later m o.start; op = o }) (pins (later m o.start) os) k) [ inl q ↦ rw q here | inr n ↦ rest n ]
  where
    here : IsFit (record { at = later m o.start; op = o })
    here = record {
      begun = λ start e. later_start m o.start start e;
      ended = λ end e. later_below m o.start end (low o end (Contains-head o os) e) (λ n f. takes o (Contains-head o os) n end f e);
    }

    above : (x : Operation) (end : ℕ) → Contains os x → x.end ≡ Some end → later m o.start ≤ end
    above x end l e = later_below m o.start end (low x end (Contains-rest x o os l) e) (λ n f.
        elim (cases_lt end n) [
          | inl b ↦ absurd (first_late o os time x l (record { end = end; ended = e; start = n; began = f; earlier = b }))
          | inr b ↦ b
        ])

-- ---- lists

filter_all : {X : Type 0} (p : X → Bool) (xs : List X) → ((x : X) → Contains xs x → p x ≡ true) → filter p xs ≡ xs
filter_all p [] h = refl
filter_all p (x ∷ xs) h = rw (h x (Contains-head x xs), filter_all p xs (λ y k. h y (Contains-rest y x xs k))) refl

filter_both : {X : Type 0} (p q r : X → Bool) → ((x : X) → q x && p x ≡ r x) → (xs : List X) → filter p (filter q xs) ≡ filter r xs
filter_both p q r same [] = refl
filter_both {X} p q r same (x ∷ xs) = rw (← same x) (at (q x) (filter_both p q r same xs))
  where
    at : (b : Bool) → filter p (filter q xs) ≡ filter r xs → filter p (cond b (x ∷ filter q xs) (filter q xs)) ≡ cond (b && p x) (x ∷ filter r xs) (filter r xs)
    at true k = rw k refl
    at false k = k

shuffle : {X : Type 0} (a b c d : List X) → IsPermutation ((a ++ b) ++ (c ++ d)) ((a ++ c) ++ (b ++ d))
shuffle a b c d =
    rw (append_assoc a b (c ++ d), append_assoc a c (b ++ d))
    (IsPermutation-append_right a (b ++ (c ++ d)) (c ++ (b ++ d))
    (rw (← append_assoc b c d, ← append_assoc c b d) (IsPermutation-append_left d (b ++ c) (c ++ b) (IsPermutation-append_comm b c))))

rise_pairs : (xs : List Pin) → Rise xs → AllPairs (λ x y. x.at ≤ y.at) xs
rise_pairs [] r i j d l m = absurd (omega (arith, m))
rise_pairs (x ∷ xs) r zero zero d l m = absurd (omega (arith, l))
rise_pairs (x ∷ xs) r zero (suc j) d l m = r.0 (get_or xs j d) (Contains-get_or xs j d (omega (arith, m)))
rise_pairs (x ∷ xs) r (suc i) zero d l m = absurd (omega (arith, l))
rise_pairs (x ∷ xs) r (suc i) (suc j) d l m = rise_pairs xs r.1 i j d (omega (arith, l)) (omega (arith, m))

-- ---- all blocks

on : ℕ → Pin → Bool
on b p = eqb p.op.block b

module _ (zeros : List ℕ) (ops : List Operation) (takes : EachTakesTime zeros ops) (lin : Linearizable zeros ops) where
  below : ℕ → List Operation
  below k = filter (λ o. ltb o.block k) ops

  -- the operations on the blocks below k are pinned
  record Pinned (k : ℕ) : Type 0 where
    all : List Pin
    left : List Operation
    moved : IsPermutation (below k) (map op_of all ++ left)
    unended : (o : Operation) → Contains left o → o.end ≡ None
    fit : (p : Pin) → Contains all p → IsFit p
    low : (p : Pin) → Contains all p → p.op.block < k
    rise : (b : ℕ) → Rise (filter (on b) all)
    reads : (b : ℕ) → ReadsLast zeros (map op_of (filter (on b) all))

  none_below : below 0 ≡ []
  unfolding below
  none_below = filter_none (λ o. ltb o.block 0) ops (λ x k e. let l = ltb-true x.block 0 e in omega (arith, l))

  one_more : (k : ℕ) → IsPermutation (below (suc k)) (below k ++ on_block k ops)
  unfolding below
  one_more k =
      let h = IsPermutation-filter_both (λ (o : Operation). ltb o.block k) (λ o. not (ltb o.block k)) (λ o. refl) (below (suc k)) in
      let a = filter_both (λ (o : Operation). ltb o.block k) (λ o. ltb o.block (suc k)) (λ o. ltb o.block k) (λ o. first o.block) ops in
      let b = filter_both (λ (o : Operation). not (ltb o.block k)) (λ o. ltb o.block (suc k)) (λ o. eqb o.block k) (λ o. second o.block) ops in
      subst (λ (xs : List Operation). IsPermutation (below (suc k)) (xs ++ on_block k ops)) a (subst (λ (xs : List Operation). IsPermutation (below (suc k)) (filter (λ o. ltb o.block k) (below (suc k)) ++ xs)) b h)
    where
      first : (n : ℕ) → ltb n (suc k) && ltb n k ≡ ltb n k
      first n = grind (arith, nat_tests)

      second : (n : ℕ) → ltb n (suc k) && not (ltb n k) ≡ eqb n k
      second n = grind (arith, nat_tests)

  new : ℕ → List Pin
  new k = pins 0 (lin k).order

  new_on : (k : ℕ) (p : Pin) → Contains (new k) p → Contains ops p.op × (p.op.block ≡ k)
  unfolding new
  new_on k p h = comes zeros ops k (lin k) p.op (pinned 0 (lin k).order p h)

  new_fit : (k : ℕ) (p : Pin) → Contains (new k) p → IsFit p
  unfolding new
  new_fit k p h = pins_fit 0 (lin k).order (lin k).in_time (λ o l start end e f. takes o start end (comes zeros ops k (lin k) o l).0 e f) (λ o end l e. omega arith) p h

  with_new : (k : ℕ) → Pinned k → Pinned (suc k)
  unfolding new on
  with_new k h = record {
    all = h.all ++ new k;
    left = h.left ++ (lin k).of_these.left_out;
    moved =
        rw (map-append, map_pins)
        (IsPermutation-trans _ _ _ (one_more k)
        (IsPermutation-trans _ _ _ (IsPermutation-append (below k) (map op_of h.all ++ h.left) (on_block k ops) ((lin k).order ++ (lin k).of_these.left_out) h.moved (lin k).of_these.all)
        (shuffle (map op_of h.all) h.left (lin k).order (lin k).of_these.left_out)));
    unended = λ o l. elim (Contains-append_cases h.left (lin k).of_these.left_out o l) [
      | inl m ↦ h.unended o m
      | inr m ↦ subst (λ (z : Operation). z.end ≡ None) m.2 ((lin k).of_these.unended m.0 o m.1)
    ];
    fit = λ p l. elim (Contains-append_cases h.all (new k) p l) [ inl m ↦ h.fit p m | inr m ↦ new_fit k p m ];
    low = λ p l. elim (Contains-append_cases h.all (new k) p l) [ inl m ↦ (let g = h.low p m in omega (arith, g)) | inr m ↦ (let g = (new_on k p m).1 in omega (arith, g)) ];
    rise = λ b. elim (cases_eq b k) [
      | inl e ↦ subst Rise (sym (here b e)) (pins_rise 0 (lin k).order)
      | inr n ↦ subst Rise (sym (aside b n)) (h.rise b)
    ];
    reads = λ b. elim (cases_eq b k) [
      | inl e ↦ subst (λ (ps : List Pin). ReadsLast zeros (map op_of ps)) (sym (here b e)) (subst (λ (os : List Operation). ReadsLast zeros os) (sym (map_pins 0 (lin k).order)) (lin k).reads_last)
      | inr n ↦ subst (λ (ps : List Pin). ReadsLast zeros (map op_of ps)) (sym (aside b n)) (h.reads b)
    ];
  }
    where
      here : (b : ℕ) → b ≡ k → filter (on b) (h.all ++ new k) ≡ new k
      here b e =
          filter-append (on b) h.all (new k)
          ∙ ap (λ (ps : List Pin). ps ++ filter (on b) (new k)) (filter_none (on b) h.all (λ p l t. let g = h.low p l in let f = eqb-true p.op.block b t in omega (arith, g, f, e)))
          ∙ filter_all (on b) (new k) (λ p l. eq-eqb p.op.block b ((new_on k p l).1 ∙ sym e))

      aside : (b : ℕ) → (b ≡ k → ⊥) → filter (on b) (h.all ++ new k) ≡ filter (on b) h.all
      aside b n =
          filter-append (on b) h.all (new k)
          ∙ ap (λ (ps : List Pin). filter (on b) h.all ++ ps) (filter_none (on b) (new k) (λ p l t. n (sym (eqb-true p.op.block b t) ∙ (new_on k p l).1)))
          ∙ append-nil (filter (on b) h.all)

  pinned_below : (k : ℕ) → Pinned k
  pinned_below zero = record {
    all = [];
    left = [];
    moved = rw none_below (IsPermutation-refl []);
    unended = λ o l. absurd (Contains-none o l);
    fit = λ p l. absurd (Contains-none p l);
    low = λ p l. absurd (Contains-none p l);
    rise = λ b. tt;
    reads = λ b. tt;
  }
  pinned_below (suc k) = with_new k (pinned_below k)

  -- all blocks are below this
  top : ℕ
  top = suc (sum_by (λ o. o.block) ops)

  all_below : below top ≡ ops
  unfolding below top
  all_below = filter_all (λ o. ltb o.block top) ops (λ o l.
      let g = get_or-le-sum_by (λ (x : Operation). x.block) ops l.0 o l.1 in
      let e = ap (λ (x : Operation). x.block) l.2 in
      lt-ltb o.block top (omega (arith, g, e)))

  pub one_order : IsLinearAsOne zeros ops
  unfolding on
  one_order = record {
    order = map op_of (sort whole.all);
    of_these = record {
      left_out = whole.left;
      all = IsPermutation-trans _ _ _ (subst (λ (xs : List Operation). IsPermutation xs (map op_of whole.all ++ whole.left)) all_below whole.moved)
          (IsPermutation-append_left whole.left (map op_of whole.all) (map op_of (sort whole.all)) (IsPermutation-map op_of whole.all (sort whole.all) (sort_moves whole.all)));
      unended = λ k d l. whole.unended (get_or whole.left k d) (Contains-get_or whole.left k d l);
    };
    in_time = pairs_map op_of (λ earlier later. IsBefore later earlier → ⊥) (sort whole.all) (λ i j d l m b.
        let up = rise_pairs (sort whole.all) (sort_rises whole.all) i j d l m in
        let x = fits (get_or (sort whole.all) i d) (Contains-get_or (sort whole.all) i d (omega (arith, l, m))) in
        let y = fits (get_or (sort whole.all) j d) (Contains-get_or (sort whole.all) j d m) in
        let s = x.begun b.start b.began in
        let e = y.ended b.end b.ended in
        let z = b.earlier in
        absurd (omega (arith, up, s, e, z)));
    reads_last = λ b.
        subst (λ (os : List Operation). ReadsLast zeros os)
        (sym (filter_map_of op_of (λ (o : Operation). eqb o.block b) (on b) (λ p. refl) (sort whole.all) ∙ ap (map op_of) (filter_sort (on b) whole.all ∙ sort_same (filter (on b) whole.all) (whole.rise b))))
        (whole.reads b);
  }
    where
      whole : Pinned top
      whole = pinned_below top

      fits : (p : Pin) → Contains (sort whole.all) p → IsFit p
      fits p l = whole.fit p (Contains-permutation (sort whole.all) whole.all p (IsPermutation-sym _ _ (sort_moves whole.all)) l)
