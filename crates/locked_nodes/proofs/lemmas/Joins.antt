-- Journals joined by number: which entries they have, in which order, and how they grow.
use Rattle.std.proofs.Common.{◌≡◌, ◌≢◌, ◌⊎◌, ℕ, ◌+◌, ◌<◌, ◌≤◌, Bool, true, false, cond, List, [], ◌∷◌, ◌++◌, refl, sym, ◌∙◌, ap, subst, inl, inr, arith, append_assoc}
use Rattle.std.specs.Prelude.{nat_lt, filter, sum_by, All}
use Rattle.std.specs.List.{Contains, AllByRecursion}
use Rattle.std.proofs.lemmas.Bool.Decides.{nat_tests}
use Rattle.std.proofs.lemmas.List.Sums.{sum_by-cons, sum_by-append}
use Rattle.std.proofs.lemmas.List.Elements.{filter-append, recursion_from_All, Contains-append_cases, Contains-append_left, Contains-append_right}
use Rattle.protocol.specs.Report.{Ascend}
use Rattle.journals.specs.declared.node.NodeEntry.{NodeEntry}
use Rattle.locked_nodes.specs.Cells.{numbers}
use Rattle.locked_nodes.specs.Joined.{lower, upper, join, JoinHas, JoinGrows}
use Rattle.lists.proofs.lemmas.Members.{Contains-head, Contains-none, Contains-rest, Contains-cons_cases, member_of_all}

pub below_tells : (a b : ℕ) → ((nat_lt a b ≡ true) × (a < b)) ⊎ ((nat_lt a b ≡ false) × (b ≤ a))
below_tells a b = at (nat_lt a b) refl
  where
    at : (t : Bool) → nat_lt a b ≡ t → ((nat_lt a b ≡ true) × (a < b)) ⊎ ((nat_lt a b ≡ false) × (b ≤ a))
    at true e = inl (e, grind (arith, nat_tests))
    at false e = inr (e, grind (arith, nat_tests))

-- ---- two parts of a journal

pub lower_upper : (n : ℕ) (es : List NodeEntry) → lower n es ++ upper n es ≡ es
lower_upper n [] = refl
lower_upper n (e ∷ es) = at (nat_lt e.number n) (lower_upper n es)
  where
    at : (t : Bool) → lower n es ++ upper n es ≡ es → cond t (e ∷ lower n es) [] ++ cond t (upper n es) (e ∷ es) ≡ e ∷ es
    at true next = ap (λ (l : List NodeEntry). e ∷ l) next
    at false next = refl

-- all entries have numbers below this one, or from it on
abbrev pub AreUnder : ℕ → List NodeEntry → Type 0
AreUnder n es = AllByRecursion (λ e. e.number < n) es

abbrev pub AreFrom : ℕ → List NodeEntry → Type 0
AreFrom n es = AllByRecursion (λ e. n ≤ e.number) es

under_upper : (n m : ℕ) (es : List NodeEntry) → AreUnder n es → AreUnder n (upper m es)
under_upper n m [] h = tt
under_upper n m (e ∷ es) h = at (nat_lt e.number m) (under_upper n m es h.1)
  where
    at : (t : Bool) → AreUnder n (upper m es) → AreUnder n (cond t (upper m es) (e ∷ es))
    at true next = next
    at false next = h

-- where all of the first are lower
lower_past : (n : ℕ) (bs ds : List NodeEntry) → AreUnder n bs → lower n (bs ++ ds) ≡ bs ++ lower n ds
lower_past n [] ds h = refl
lower_past n (b ∷ bs) ds h = elim (below_tells b.number n) [
  | inl less ↦ (let e : lower n (b ∷ bs ++ ds) ≡ b ∷ lower n (bs ++ ds) = rw less.0 refl in e ∙ ap (λ (l : List NodeEntry). b ∷ l) (lower_past n bs ds h.1))
  | inr more ↦ absurd (let l = h.0 in omega (arith, l, more.1))
]

upper_past : (n : ℕ) (bs ds : List NodeEntry) → AreUnder n bs → upper n (bs ++ ds) ≡ upper n ds
upper_past n [] ds h = refl
upper_past n (b ∷ bs) ds h = elim (below_tells b.number n) [
  | inl less ↦ (let e : upper n (b ∷ bs ++ ds) ≡ upper n (bs ++ ds) = rw less.0 refl in e ∙ upper_past n bs ds h.1)
  | inr more ↦ absurd (let l = h.0 in omega (arith, l, more.1))
]

-- where none of the last is
lower_none : (n : ℕ) (ds : List NodeEntry) → AreFrom n ds → lower n ds ≡ []
lower_none n [] h = refl
lower_none n (d ∷ ds) h = elim (below_tells d.number n) [ inl less ↦ absurd (let l = h.0 in omega (arith, l, less.1)) | inr more ↦ rw more.0 refl ]

upper_all : (n : ℕ) (ds : List NodeEntry) → AreFrom n ds → upper n ds ≡ ds
upper_all n [] h = refl
upper_all n (d ∷ ds) h = elim (below_tells d.number n) [ inl less ↦ absurd (let l = h.0 in omega (arith, l, less.1)) | inr more ↦ rw more.0 refl ]

lower_before : (n : ℕ) (bs ds : List NodeEntry) → AreFrom n ds → lower n (bs ++ ds) ≡ lower n bs
lower_before n [] ds h = lower_none n ds h
lower_before n (b ∷ bs) ds h = at (nat_lt b.number n) (lower_before n bs ds h)
  where
    at : (t : Bool) → lower n (bs ++ ds) ≡ lower n bs → cond t (b ∷ lower n (bs ++ ds)) [] ≡ cond t (b ∷ lower n bs) []
    at true next = ap (λ (l : List NodeEntry). b ∷ l) next
    at false next = refl

upper_before : (n : ℕ) (bs ds : List NodeEntry) → AreFrom n ds → upper n (bs ++ ds) ≡ upper n bs ++ ds
upper_before n [] ds h = upper_all n ds h
upper_before n (b ∷ bs) ds h = at (nat_lt b.number n) (upper_before n bs ds h)
  where
    at : (t : Bool) → upper n (bs ++ ds) ≡ upper n bs ++ ds → cond t (upper n (bs ++ ds)) (b ∷ bs ++ ds) ≡ cond t (upper n bs) (b ∷ bs) ++ ds
    at true next = next
    at false next = refl

-- ---- which entries a joined journal has

pub join_cases : (xs ys : List NodeEntry) (e : NodeEntry) → Contains (join xs ys) e → Contains xs e ⊎ Contains ys e
join_cases [] ys e h = inr h
join_cases (x ∷ xs) ys e h =
    let n = x.number in
    let in_ys : (l : List NodeEntry) → Contains (lower n ys ++ l) e → lower n ys ++ l ≡ ys → Contains ys e = λ l c q. subst (λ (k : List NodeEntry). Contains k e) q c in
    elim (Contains-append_cases (lower n ys) (x ∷ join xs (upper n ys)) e h) [
      | inl low ↦ inr (in_ys (upper n ys) (Contains-append_left (lower n ys) (upper n ys) e low) (lower_upper n ys))
      | inr on ↦ elim (Contains-cons_cases e x (join xs (upper n ys)) on) [
        | inl is ↦ inl (subst (λ (k : NodeEntry). Contains (x ∷ xs) k) (sym is) (Contains-head x xs))
        | inr then ↦ elim (join_cases xs (upper n ys) e then) [
          | inl mine ↦ inl (Contains-rest e x xs mine)
          | inr other ↦ inr (in_ys (upper n ys) (Contains-append_right (lower n ys) (upper n ys) e other) (lower_upper n ys))
        ]
      ]
    ]

pub join_left : (xs ys : List NodeEntry) (e : NodeEntry) → Contains xs e → Contains (join xs ys) e
join_left [] ys e h = absurd (Contains-none e h)
join_left (x ∷ xs) ys e h =
    let n = x.number in
    let rest = join xs (upper n ys) in
    Contains-append_right (lower n ys) (x ∷ rest) e (elim (Contains-cons_cases e x xs h) [
      | inl is ↦ subst (λ (k : NodeEntry). Contains (x ∷ rest) k) (sym is) (Contains-head x rest)
      | inr then ↦ Contains-rest e x rest (join_left xs (upper n ys) e then)
    ])

pub join_right : (xs ys : List NodeEntry) (e : NodeEntry) → Contains ys e → Contains (join xs ys) e
join_right [] ys e h = h
join_right (x ∷ xs) ys e h =
    let n = x.number in
    let rest = join xs (upper n ys) in
    elim (Contains-append_cases (lower n ys) (upper n ys) e (subst (λ (k : List NodeEntry). Contains k e) (sym (lower_upper n ys)) h)) [
      | inl low ↦ Contains-append_left (lower n ys) (x ∷ rest) e low
      | inr on ↦ Contains-append_right (lower n ys) (x ∷ rest) e (Contains-rest e x rest (join_right xs (upper n ys) e on))
    ]

-- each as often as in both
pub join_sum : (f : NodeEntry → ℕ) (xs ys : List NodeEntry) → sum_by f (join xs ys) ≡ sum_by f xs + sum_by f ys
join_sum f [] ys = let none : sum_by f [] ≡ 0 = refl in omega (arith, none)
join_sum f (x ∷ xs) ys =
    let n = x.number in
    let a = sum_by-append f (lower n ys) (x ∷ join xs (upper n ys)) in
    let b = sum_by-cons f x (join xs (upper n ys)) in
    let c = join_sum f xs (upper n ys) in
    let d = sum_by-append f (lower n ys) (upper n ys) in
    let e = ap (sum_by f) (lower_upper n ys) in
    let g = sum_by-cons f x xs in
    omega (arith, a, b, c, d, e, g)

-- ---- those that a test keeps

none_head : (p : NodeEntry → Bool) (x : NodeEntry) (xs : List NodeEntry) → filter p (x ∷ xs) ≡ [] → (p x ≡ false) × (filter p xs ≡ [])
none_head p x xs = at (p x) refl
  where
    at : (t : Bool) → p x ≡ t → cond t (x ∷ filter p xs) (filter p xs) ≡ [] → (p x ≡ false) × (filter p xs ≡ [])
    at true e none = absurd (cc)
    at false e none = (e, none)

none_both : {X : Type 0} (xs ys : List X) → xs ++ ys ≡ [] → (xs ≡ []) × (ys ≡ [])
none_both [] ys h = (refl, h)
none_both (x ∷ xs) ys h = absurd (cc)

-- none of the others
pub join_own : (p : NodeEntry → Bool) (xs ys : List NodeEntry) → filter p ys ≡ [] → filter p (join xs ys) ≡ filter p xs
join_own p [] ys none = none
join_own p (x ∷ xs) ys none =
    let n = x.number in
    let parts = none_both (filter p (lower n ys)) (filter p (upper n ys)) (sym (filter-append p (lower n ys) (upper n ys)) ∙ ap (filter p) (lower_upper n ys) ∙ none) in
    filter-append p (lower n ys) (x ∷ join xs (upper n ys)) ∙ ap (λ (l : List NodeEntry). l ++ filter p (x ∷ join xs (upper n ys))) parts.0
    ∙ ap (λ (l : List NodeEntry). cond (p x) (x ∷ l) l) (join_own p xs (upper n ys) parts.1)

-- and none of the first
pub join_other : (p : NodeEntry → Bool) (xs ys : List NodeEntry) → filter p xs ≡ [] → filter p (join xs ys) ≡ filter p ys
join_other p [] ys none = refl
join_other p (x ∷ xs) ys none =
    let n = x.number in
    let h = none_head p x xs none in
    let cut : filter p (x ∷ join xs (upper n ys)) ≡ filter p (join xs (upper n ys)) = rw h.0 refl in
    filter-append p (lower n ys) (x ∷ join xs (upper n ys)) ∙ ap (λ (l : List NodeEntry). filter p (lower n ys) ++ l) (cut ∙ join_other p xs (upper n ys) h.1)
    ∙ sym (filter-append p (lower n ys) (upper n ys)) ∙ ap (filter p) (lower_upper n ys)

-- ---- how it grows

-- what is lower comes first
join_past : (n : ℕ) (bs cs ds : List NodeEntry) → AreUnder n bs → AreFrom n cs → join cs (bs ++ ds) ≡ bs ++ join cs ds
join_past n bs [] ds low high = refl
join_past n bs (c ∷ cs) ds low high =
    let m = c.number in
    let h = high.0 in
    let under = under_more n m bs (h) low in
    (λ i. lower_past m bs ds under i ++ c ∷ join cs (upper_past m bs ds under i)) ∙ append_assoc bs (lower m ds) (c ∷ join cs (upper m ds))
  where
    under_more : (n m : ℕ) (es : List NodeEntry) → n ≤ m → AreUnder n es → AreUnder m es
    under_more n m [] le h = tt
    under_more n m (e ∷ es) le h = (let l = h.0 in omega (arith, l, le), under_more n m es le h.1)

-- where both have only entries more, from a number on that none had, so has the joined journal
pub join_more : (n : ℕ) (ps bs cs ds : List NodeEntry) → AreUnder n ps → AreUnder n bs → AreFrom n cs → AreFrom n ds → join (ps ++ cs) (bs ++ ds) ≡ join ps bs ++ join cs ds
join_more n [] bs cs ds a b c d = join_past n bs cs ds b c
join_more n (x ∷ ps) bs cs ds a b c d =
    let m = x.number in
    let l = a.0 in
    let from = from_less n m ds (omega (arith, l)) d in
    (λ i. lower_before m bs ds from i ++ x ∷ join (ps ++ cs) (upper_before m bs ds from i))
    ∙ ap (λ (k : List NodeEntry). lower m bs ++ x ∷ k) (join_more n ps (upper m bs) cs ds a.1 (under_upper n m bs b) c d)
    ∙ sym (append_assoc (lower m bs) (x ∷ join ps (upper m bs)) (join cs ds))
  where
    from_less : (n m : ℕ) (es : List NodeEntry) → m ≤ n → AreFrom n es → AreFrom m es
    from_less n m [] le h = tt
    from_less n m (e ∷ es) le h = (let l = h.0 in omega (arith, l, le), from_less n m es le h.1)

-- ---- in which order they stand

-- the entries of an ascending journal after its first one
pub above_head : (x : NodeEntry) (xs : List NodeEntry) → Ascend (numbers (x ∷ xs)) → (e : NodeEntry) → Contains xs e → x.number < e.number
above_head x xs h e there = at xs h.0 there
  where
    at : (es : List NodeEntry) → AllByRecursion (λ y. x.number < y) (numbers es) → Contains es e → x.number < e.number
    at [] a c = absurd (Contains-none e c)
    at (y ∷ es) a c = elim (Contains-cons_cases e y es c) [ inl is ↦ subst (λ (k : NodeEntry). x.number < k.number) (sym is) a.0 | inr then ↦ at es a.1 then ]

ascend_cons : (x : NodeEntry) (xs : List NodeEntry) → ((e : NodeEntry) → Contains xs e → x.number < e.number) → Ascend (numbers xs) → Ascend (numbers (x ∷ xs))
ascend_cons x xs above up = (at xs above, up)
  where
    at : (es : List NodeEntry) → ((e : NodeEntry) → Contains es e → x.number < e.number) → AllByRecursion (λ y. x.number < y) (numbers es)
    at [] f = tt
    at (y ∷ es) f = (f y (Contains-head y es), at es (λ e there. f e (Contains-rest e y es there)))

ascend_append : (ps bs : List NodeEntry) → Ascend (numbers ps) → Ascend (numbers bs) → ((a b : NodeEntry) → Contains ps a → Contains bs b → a.number < b.number) → Ascend (numbers (ps ++ bs))
ascend_append [] bs ups up less = up
ascend_append (a ∷ ps) bs ups up less =
    ascend_cons a (ps ++ bs)
    (λ e there. elim (Contains-append_cases ps bs e there) [ inl mine ↦ above_head a ps ups e mine | inr other ↦ less a e (Contains-head a ps) other ])
    (ascend_append ps bs ups.1 up (λ x b there other. less x b (Contains-rest x a ps there) other))

lower_under : (n : ℕ) (es : List NodeEntry) → AreUnder n (lower n es)
lower_under n [] = tt
lower_under n (e ∷ es) = elim (below_tells e.number n) [
  | inl less ↦ (let q : lower n (e ∷ es) ≡ e ∷ lower n es = rw less.0 refl in subst (AreUnder n) (sym q) (less.1, lower_under n es))
  | inr more ↦ (let q : lower n (e ∷ es) ≡ [] = rw more.0 refl in subst (AreUnder n) (sym q) tt)
]

lower_ascends : (n : ℕ) (es : List NodeEntry) → Ascend (numbers es) → Ascend (numbers (lower n es))
lower_ascends n [] up = tt
lower_ascends n (e ∷ es) up = elim (below_tells e.number n) [
  | inl less ↦ (
      let q : lower n (e ∷ es) ≡ e ∷ lower n es = rw less.0 refl in
      subst (λ (l : List NodeEntry). Ascend (numbers l)) (sym q) (ascend_cons e (lower n es)
      (λ x there. above_head e es up x (subst (λ (l : List NodeEntry). Contains l x) (lower_upper n es) (Contains-append_left (lower n es) (upper n es) x there))) (lower_ascends n es up.1))
      )
  | inr more ↦ (let q : lower n (e ∷ es) ≡ [] = rw more.0 refl in subst (λ (l : List NodeEntry). Ascend (numbers l)) (sym q) tt)
]

upper_ascends : (n : ℕ) (es : List NodeEntry) → Ascend (numbers es) → Ascend (numbers (upper n es))
upper_ascends n [] up = tt
upper_ascends n (e ∷ es) up = elim (below_tells e.number n) [
  | inl less ↦ (let q : upper n (e ∷ es) ≡ upper n es = rw less.0 refl in subst (λ (l : List NodeEntry). Ascend (numbers l)) (sym q) (upper_ascends n es up.1))
  | inr more ↦ (let q : upper n (e ∷ es) ≡ e ∷ es = rw more.0 refl in subst (λ (l : List NodeEntry). Ascend (numbers l)) (sym q) up)
]

upper_from : (n : ℕ) (es : List NodeEntry) → Ascend (numbers es) → (e : NodeEntry) → Contains (upper n es) e → n ≤ e.number
upper_from n [] up e there = absurd (Contains-none e there)
upper_from n (x ∷ es) up e there = elim (below_tells x.number n) [
  | inl less ↦ (let q : upper n (x ∷ es) ≡ upper n es = rw less.0 refl in upper_from n es up.1 e (subst (λ (l : List NodeEntry). Contains l e) q there))
  | inr more ↦ (
      let q : upper n (x ∷ es) ≡ x ∷ es = rw more.0 refl in
      elim (Contains-cons_cases e x es (subst (λ (l : List NodeEntry). Contains l e) q there)) [
        | inl is ↦ subst (λ (k : NodeEntry). n ≤ k.number) (sym is) more.1
        | inr then ↦ (let a = above_head x es up e then in omega (arith, a, more.1))
      ]
      )
]

-- journals that ascend and have no number in common are an ascending one
pub join_ascends : (xs ys : List NodeEntry) → Ascend (numbers xs) → Ascend (numbers ys) → ((x y : NodeEntry) → Contains xs x → Contains ys y → x.number ≢ y.number) → Ascend (numbers (join xs ys))
join_ascends [] ys a b apart = b
join_ascends (x ∷ xs) ys a b apart =
    let n = x.number in
    let rest = join xs (upper n ys) in
    let in_upper : (e : NodeEntry) → Contains (upper n ys) e → Contains ys e = λ e there. subst (λ (l : List NodeEntry). Contains l e) (lower_upper n ys) (Contains-append_right (lower n ys) (upper n ys) e there) in
    let above : (e : NodeEntry) → Contains rest e → n < e.number = λ e there. elim (join_cases xs (upper n ys) e there) [
      | inl mine ↦ above_head x xs a e mine
      | inr other ↦ (let le = upper_from n ys b e other in let ne = apart x e (Contains-head x xs) (in_upper e other) in omega (arith, le, ne))
    ] in
    let up = ascend_cons x rest above (join_ascends xs (upper n ys) a.1 (upper_ascends n ys b) (λ u v there other. apart u v (Contains-rest u x xs there) (in_upper v other))) in
    ascend_append (lower n ys) (x ∷ rest) (lower_ascends n ys b) up (λ u v low on.
    let l = member_of_all (λ (e : NodeEntry). e.number < n) (lower n ys) (lower_under n ys) u low in
    elim (Contains-cons_cases v x rest on) [ inl is ↦ subst (λ (k : NodeEntry). u.number < k.number) (sym is) l | inr then ↦ (let m = above v then in omega (arith, l, m)) ])

-- ---- the laws

pub join_has : JoinHas
join_has xs ys e = (join_cases xs ys e, λ h. elim h [ inl x ↦ join_left xs ys e x | inr y ↦ join_right xs ys e y ])

under_all : (n : ℕ) (es : List NodeEntry) → All (λ e. e.number < n) es → AreUnder n es
under_all n es h = recursion_from_All (λ e. e.number < n) es h

from_all : (n : ℕ) (es : List NodeEntry) → All (λ e. n ≤ e.number) es → AreFrom n es
from_all n es h = recursion_from_All (λ e. n ≤ e.number) es h

pub join_grows : JoinGrows
join_grows n xs ys more other a b c d = join_more n xs ys more other (under_all n xs a) (under_all n ys b) (from_all n more c) (from_all n other d)
