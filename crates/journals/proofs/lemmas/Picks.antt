-- What of a list of steps by number belongs to one node or client.
use Rattle.std.proofs.Common.{◌≡◌, ◌⊎◌, ℕ, zero, suc, ◌+◌, ◌<◌, ◌≤◌, Bool, true, false, cond, List, [], ◌∷◌, ◌++◌, map, take, drop, Option, refl, sym, ◌∙◌, ap, subst, inl, inr, arith, eqb, ltb}
use Rattle.std.specs.Prelude.{filter}
use Rattle.std.specs.declared.option.Option.TheVariants.{None, Some}
use Rattle.std.specs.List.{Contains, AllByRecursion}
use Rattle.std.proofs.lemmas.Bool.Decides.{nat_tests}
use Rattle.std.proofs.lemmas.List.Elements.{filter-append}
use Rattle.protocol.specs.Report.{Ascend}
use Rattle.journals.specs.Acts.{NodeAct, NodeEntry}
use Rattle.journals.specs.Desks.{DeskAct, DeskEntry}
use Rattle.journals.specs.Steps.{Step, side}
use Rattle.journals.specs.Steps.Step.{AtNode, AtDesk}
use Rattle.lists.proofs.lemmas.Members.{Contains-head, Contains-none, Contains-rest, Contains-cons_cases}
use Rattle.lists.proofs.lemmas.Tests.{eqb_self}
use Rattle.std.proofs.lemmas.Bool.{eqb-true}

-- ---- lists whose numbers ascend

all_map : {A : Type 0} (P : ℕ → Type 0) (f : A → ℕ) (xs : List A) → AllByRecursion P (map f xs) → (x : A) → Contains xs x → P (f x)
all_map P f [] h x k = absurd (Contains-none x k)
all_map P f (y ∷ ys) h x k =
    let rest = all_map P f ys h.1 x in
    elim (Contains-cons_cases x y ys k) [ inl e ↦ subst (λ z. P (f z)) (sym e) h.0 | inr r ↦ rest r ]

-- two of them with the same members are the same
pub same_ascending : {A : Type 0} (f : A → ℕ) (xs ys : List A) → Ascend (map f xs) → Ascend (map f ys) → ((x : A) → Contains xs x → Contains ys x) → ((x : A) → Contains ys x → Contains xs x) → xs ≡ ys
same_ascending f [] [] h k to from = refl
same_ascending f [] (y ∷ ys) h k to from = absurd (Contains-none y (from y (Contains-head y ys)))
same_ascending f (x ∷ xs) [] h k to from = absurd (Contains-none x (to x (Contains-head x xs)))
same_ascending {A} f (x ∷ xs) (y ∷ ys) h k to from =
    let heads : x ≡ y = same_head (Contains-cons_cases x y ys (to x (Contains-head x xs))) (Contains-cons_cases y x xs (from y (Contains-head y ys))) in
    let tails : xs ≡ ys = same_ascending f xs ys h.1 k.1 (λ z there. down z there (Contains-cons_cases z y ys (to z (Contains-rest z x xs there))) heads) (λ z there. up z there (Contains-cons_cases z x xs (from z (Contains-rest z y ys there))) heads) in
    rw (heads, tails) refl
  where
    above_x : (z : A) → Contains xs z → f x < f z
    above_x z there = all_map (λ n. f x < n) f xs h.0 z there

    above_y : (z : A) → Contains ys z → f y < f z
    above_y z there = all_map (λ n. f y < n) f ys k.0 z there

    same_head : (x ≡ y) ⊎ Contains ys x → (y ≡ x) ⊎ Contains xs y → x ≡ y
    same_head (inl e) q = e
    same_head (inr a) (inl e) = sym e
    same_head (inr a) (inr b) = absurd (let p = above_y x a in let q = above_x y b in omega (arith, p, q))

    down : (z : A) → Contains xs z → (z ≡ y) ⊎ Contains ys z → x ≡ y → Contains ys z
    down z there (inl e) heads = absurd (let p = above_x z there in let q : f z ≡ f x = ap f (e ∙ sym heads) in omega (arith, p, q))
    down z there (inr r) heads = r

    up : (z : A) → Contains ys z → (z ≡ x) ⊎ Contains xs z → x ≡ y → Contains xs z
    up z there (inl e) heads = absurd (let p = above_y z there in let q : f z ≡ f y = ap f (e ∙ heads) in omega (arith, p, q))
    up z there (inr r) heads = r

-- ---- what a test picks of a list of numbered steps

abbrev pub one_first : {A : Type 0} → Option A → List A → List A
one_first None xs = xs
one_first (Some x) xs = x ∷ xs

abbrev pub Numbered : Type 0
Numbered = ℕ × Step

abbrev pub picks : {A : Type 0} → (Numbered → Option A) → List Numbered → List A
picks f [] = []
picks f (p ∷ ps) = one_first (f p) (picks f ps)

module _ {A : Type 0} (f : Numbered → Option A) where
  first-append : (o : Option A) (xs ys zs : List A) → xs ≡ ys ++ zs → one_first o xs ≡ one_first o ys ++ zs
  first-append None xs ys zs e = e
  first-append (Some x) xs ys zs e = ap (λ l. x ∷ l) e

  pub picks-append : (ps qs : List Numbered) → picks f (ps ++ qs) ≡ picks f ps ++ picks f qs
  picks-append [] qs = refl
  picks-append (p ∷ ps) qs = first-append (f p) (picks f (ps ++ qs)) (picks f ps) (picks f qs) (picks-append ps qs)

  -- who is picked stands in the list
  of_first : (o : Option A) (x : A) (xs : List A) → Contains (one_first o xs) x → (o ≡ Some x) ⊎ Contains xs x
  of_first None x xs h = inr h
  of_first (Some y) x xs h = elim (Contains-cons_cases x y xs h) [ inl e ↦ inl (ap (λ z. Some z) (sym e)) | inr r ↦ inr r ]

  pub picked_from : (ps : List Numbered) (x : A) → Contains (picks f ps) x → (p : Numbered) × Contains ps p × (f p ≡ Some x)
  picked_from [] x h = absurd (Contains-none x h)
  picked_from (p ∷ ps) x h =
      let rest = picked_from ps x in
      elim (of_first (f p) x (picks f ps) h) [ inl e ↦ (p, Contains-head p ps, e) | inr r ↦ (let q = rest r in (q.0, Contains-rest q.0 p ps q.1, q.2)) ]

  in_first : (o : Option A) (x : A) (xs : List A) → (o ≡ Some x) ⊎ Contains xs x → Contains (one_first o xs) x
  in_first None x xs (inl e) = absurd (cc)
  in_first None x xs (inr r) = r
  in_first (Some y) x xs (inl e) = let q : y ≡ x = cc in subst (λ z. Contains (y ∷ xs) z) q (Contains-head y xs)
  in_first (Some y) x xs (inr r) = Contains-rest x y xs r

  pub is_picked : (ps : List Numbered) (p : Numbered) (x : A) → Contains ps p → f p ≡ Some x → Contains (picks f ps) x
  is_picked [] p x h e = absurd (Contains-none p h)
  is_picked (q ∷ ps) p x h e =
      let rest = λ (k : Contains ps p). is_picked ps p x k e in
      elim (Contains-cons_cases p q ps h) [ inl k ↦ in_first (f q) x (picks f ps) (inl (ap f (sym k) ∙ e)) | inr r ↦ in_first (f q) x (picks f ps) (inr (rest r)) ]

  module _ (num : A → ℕ) (numbered : (p : Numbered) (x : A) → f p ≡ Some x → num x ≡ p.0) where
    all_picks : (P : ℕ → Type 0) (ps : List Numbered) → AllByRecursion P (map (λ p. p.0) ps) → AllByRecursion P (map num (picks f ps))
    all_picks P [] h = tt
    all_picks P (p ∷ ps) h = at (f p) refl (all_picks P ps h.1)
      where
        at : (o : Option A) → f p ≡ o → AllByRecursion P (map num (picks f ps)) → AllByRecursion P (map num (one_first o (picks f ps)))
        at None e k = k
        at (Some x) e k = (subst P (sym (numbered p x e)) h.0, k)

    -- the numbers of what is picked ascend as those of the list do
    pub ascend_picks : (ps : List Numbered) → Ascend (map (λ p. p.0) ps) → Ascend (map num (picks f ps))
    ascend_picks [] h = tt
    ascend_picks (p ∷ ps) h = at (f p) refl (ascend_picks ps h.1)
      where
        at : (o : Option A) → f p ≡ o → Ascend (map num (picks f ps)) → Ascend (map num (one_first o (picks f ps)))
        at None e k = k
        at (Some x) e k = (subst (λ n. AllByRecursion (λ y. n < y) (map num (picks f ps))) (sym (numbered p x e)) (all_picks (λ y. p.0 < y) ps h.0), k)

    -- what is picked before a number
    below_all : (k : ℕ) (ps : List Numbered) → AllByRecursion (λ p. p.0 < k) ps → filter (λ x. ltb (num x) k) (picks f ps) ≡ picks f ps
    below_all k [] h = refl
    below_all k (p ∷ ps) h = at (f p) refl (below_all k ps h.1)
      where
        at : (o : Option A) → f p ≡ o → filter (λ x. ltb (num x) k) (picks f ps) ≡ picks f ps → filter (λ x. ltb (num x) k) (one_first o (picks f ps)) ≡ one_first o (picks f ps)
        at None e q = q
        at (Some x) e q =
            let n = numbered p x e in
            let l = h.0 in
            let t : ltb (num x) k ≡ true = is_below (num x) (omega (arith, n, l)) in
            rw t (ap (λ l. x ∷ l) q)
          where
            is_below : (y : ℕ) → y < k → ltb y k ≡ true
            is_below y l = grind (arith, nat_tests)

    above_none : (k : ℕ) (ps : List Numbered) → AllByRecursion (λ p. k ≤ p.0) ps → filter (λ x. ltb (num x) k) (picks f ps) ≡ []
    above_none k [] h = refl
    above_none k (p ∷ ps) h = at (f p) refl (above_none k ps h.1)
      where
        at : (o : Option A) → f p ≡ o → filter (λ x. ltb (num x) k) (picks f ps) ≡ [] → filter (λ x. ltb (num x) k) (one_first o (picks f ps)) ≡ []
        at None e q = q
        at (Some x) e q =
            let n = numbered p x e in
            let l = h.0 in
            let t : ltb (num x) k ≡ false = is_above (num x) (omega (arith, n, l)) in
            rw t q
          where
            is_above : (y : ℕ) → k ≤ y → ltb y k ≡ false
            is_above y l = grind (arith, nat_tests)

    append_nil : (xs : List A) → xs ++ [] ≡ xs
    append_nil [] = refl
    append_nil (x ∷ xs) = ap (λ l. x ∷ l) (append_nil xs)

    pub picks_before : (k : ℕ) (ps qs : List Numbered) → AllByRecursion (λ p. p.0 < k) ps → AllByRecursion (λ p. k ≤ p.0) qs → filter (λ x. ltb (num x) k) (picks f (ps ++ qs)) ≡ picks f ps
    picks_before k ps qs h l =
        ap (filter (λ x. ltb (num x) k)) (picks-append ps qs) ∙ filter-append (λ x. ltb (num x) k) (picks f ps) (picks f qs)
        ∙ ap (λ (xs : List A). xs ++ filter (λ x. ltb (num x) k) (picks f qs)) (below_all k ps h) ∙ ap (λ (xs : List A). picks f ps ++ xs) (above_none k qs l) ∙ append_nil (picks f ps)

-- ---- the entries of a node and of a client

abbrev pub node_entry : ℕ → ℕ → Step → Option NodeEntry
node_entry i n (AtNode k act) = cond (eqb k i) (Some (record { number = n; act = act })) None
node_entry i n (AtDesk c act) = None

abbrev pub call_entry : ℕ → ℕ → Option (ℕ × DeskAct) → Option DeskEntry
call_entry c n None = None
call_entry c n (Some p) = cond (eqb p.0 c) (Some (record { number = n; act = p.1 })) None

abbrev pub desk_entry : ℕ → ℕ → Step → Option DeskEntry
desk_entry c n (AtNode k act) = call_entry c n (side act)
desk_entry c n (AtDesk d act) = cond (eqb d c) (Some (record { number = n; act = act })) None

abbrev pub node_part : ℕ → List Numbered → List NodeEntry
node_part i ps = picks (λ p. node_entry i p.0 p.1) ps

abbrev pub desk_part : ℕ → List Numbered → List DeskEntry
desk_part c ps = picks (λ p. desk_entry c p.0 p.1) ps

if_some : {A : Type 0} (b : Bool) (x y : A) → cond b (Some x) None ≡ Some y → (b ≡ true) × (x ≡ y)
if_some true x y e = (refl, cc)
if_some false x y e = absurd (cc)

-- which step an entry comes from
pub node_entry_is : (i n : ℕ) (e : Step) (x : NodeEntry) → node_entry i n e ≡ Some x → (x.number ≡ n) × (e ≡ AtNode i x.act)
node_entry_is i n (AtDesk c act) x h = absurd (cc)
node_entry_is i n (AtNode k act) x h =
    let q = if_some (eqb k i) (record { number = n; act = act }) x h in
    (sym (ap (λ (y : NodeEntry). y.number) q.1), ap (λ (a : ℕ). AtNode a act) (eqb-true k i q.0) ∙ ap (λ (y : NodeEntry). AtNode i y.act) q.1)

pub call_entry_is : (c n : ℕ) (o : Option (ℕ × DeskAct)) (x : DeskEntry) → call_entry c n o ≡ Some x → (x.number ≡ n) × (o ≡ Some (c, x.act))
call_entry_is c n None x h = absurd (cc)
call_entry_is c n (Some p) x h =
    let q = if_some (eqb p.0 c) (record { number = n; act = p.1 }) x h in
    (sym (ap (λ (y : DeskEntry). y.number) q.1), ap (λ (d : ℕ). Some (d, p.1)) (eqb-true p.0 c q.0) ∙ ap (λ (y : DeskEntry). Some (c, y.act)) q.1)

pub desk_entry_is : (c n : ℕ) (e : Step) (x : DeskEntry) → desk_entry c n e ≡ Some x → (x.number ≡ n) × ((e ≡ AtDesk c x.act) ⊎ ((i : ℕ) × (act : NodeAct) × (e ≡ AtNode i act) × (side act ≡ Some (c, x.act))))
desk_entry_is c n (AtNode k act) x h = let q = call_entry_is c n (side act) x h in (q.0, inr (k, act, refl, q.1))
desk_entry_is c n (AtDesk d act) x h =
    let q = if_some (eqb d c) (record { number = n; act = act }) x h in
    (sym (ap (λ (y : DeskEntry). y.number) q.1), inl (ap (λ (a : ℕ). AtDesk a act) (eqb-true d c q.0) ∙ ap (λ (y : DeskEntry). AtDesk c y.act) q.1))

pub node_entry_own : (i n : ℕ) (act : NodeAct) → node_entry i n (AtNode i act) ≡ Some (record { number = n; act = act })
node_entry_own i n act = rw (eqb_self i) refl

pub desk_entry_own : (c n : ℕ) (act : DeskAct) → desk_entry c n (AtDesk c act) ≡ Some (record { number = n; act = act })
desk_entry_own c n act = rw (eqb_self c) refl

pub call_entry_own : (c n : ℕ) (o : Option (ℕ × DeskAct)) (act : DeskAct) → o ≡ Some (c, act) → call_entry c n o ≡ Some (record { number = n; act = act })
call_entry_own c n o act e = ap (call_entry c n) e ∙ own
  where
    own : call_entry c n (Some (c, act)) ≡ Some (record { number = n; act = act })
    own = rw (eqb_self c) refl

pub node_numbered : (i : ℕ) (p : Numbered) (x : NodeEntry) → node_entry i p.0 p.1 ≡ Some x → x.number ≡ p.0
node_numbered i p x h = (node_entry_is i p.0 p.1 x h).0

pub desk_numbered : (c : ℕ) (p : Numbered) (x : DeskEntry) → desk_entry c p.0 p.1 ≡ Some x → x.number ≡ p.0
desk_numbered c p x h = (desk_entry_is c p.0 p.1 x h).0

-- ---- splits of a list whose numbers ascend, or count

pub split_ascends : (ps : List Numbered) (e : Numbered) (qs : List Numbered) → Ascend (map (λ p. p.0) (ps ++ e ∷ qs)) → AllByRecursion (λ p. p.0 < e.0) ps × AllByRecursion (λ p. e.0 ≤ p.0) (e ∷ qs)
split_ascends [] e qs h = (tt, (omega arith, rest qs h.0))
  where
    rest : (qs : List Numbered) → AllByRecursion (λ n. e.0 < n) (map (λ p. p.0) qs) → AllByRecursion (λ p. e.0 ≤ p.0) qs
    rest [] k = tt
    rest (q ∷ qs) k = (let l = k.0 in omega (arith, l), rest qs k.1)
split_ascends (p ∷ ps) e qs h = let r = split_ascends ps e qs h.1 in ((at ps h.0, r.0), r.1)
  where
    at : (ps : List Numbered) → AllByRecursion (λ n. p.0 < n) (map (λ p. p.0) (ps ++ e ∷ qs)) → p.0 < e.0
    at [] k = k.0
    at (q ∷ ps) k = at ps k.1

-- the numbers are k and those after it, each once
abbrev pub Counts : ℕ → List (ℕ × Step) → Type 0
Counts k [] = Unit {0}
Counts k (p ∷ ps) = (p.0 ≡ k) × Counts (k + 1) ps

counts_above : (k : ℕ) (m : ℕ) (es : List Numbered) → m ≤ k → Counts k es → AllByRecursion (λ p. m ≤ p.0) es
counts_above k m [] l h = tt
counts_above k m (p ∷ ps) l h = (let e = h.0 in omega (arith, e, l), counts_above (k + 1) m ps (omega (arith, l)) h.1)

pub counts_split : (k n : ℕ) (es : List Numbered) → Counts k es → AllByRecursion (λ p. p.0 < k + n) (take n es) × AllByRecursion (λ p. k + n ≤ p.0) (drop n es)
counts_split k zero es h = (tt, counts_above k (k + 0) es (omega arith) h)
counts_split k (suc n) [] h = (tt, tt)
counts_split k (suc n) (p ∷ ps) h =
    let r = counts_split (k + 1) n ps h.1 in
    let e = h.0 in
    let same : k + 1 + n ≡ k + suc n = omega arith in
    ((omega (arith, e), subst (λ m. AllByRecursion (λ p. p.0 < m) (take n ps)) same r.0), subst (λ m. AllByRecursion (λ p. m ≤ p.0) (drop n ps)) same r.1)
