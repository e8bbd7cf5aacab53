-- Steps added one after the other.
use Rattle.std.proofs.Common.{◌≡◌, ◌⊎◌, ℕ, ◌+◌, ◌<◌, Bool, true, false, cond, List, [], ◌∷◌, ◌++◌, take, drop, length, get_or, add-one, refl, sym, ap, subst, ◌∙◌, inl, inr, arith, append_assoc}
use Rattle.std.specs.Prelude.{IsTrue, ◌↔◌, IfOk, Result, Ok, Err}
use Rattle.std.proofs.Math.Seq.{take-suc}
use Rattle.std.specs.List.{Contains, flat_map}
use Rattle.std.specs.Ordering.{nat_cmp, is_eq}
use Rattle.std.proofs.lemmas.Map.Lookups.{exact_unsigned}
use Rattle.std.specs.BTreeSet.{BTreeSet, Updates, contains}
use Rattle.std.proofs.lemmas.List.{append-nil, map-append, take-append-drop, length-take-le}
use Rattle.std.proofs.lemmas.Grind.{flat_map-append}
use Rattle.std.proofs.lemmas.List.Elements.{Contains-append_cases, Contains-append_left, Contains-append_right}
use Rattle.protocol.specs.Setting.{Setting}
use Rattle.protocol.specs.Lines.{FitsLine}
use Rattle.journals.specs.declared.node.NodeEntry.{NodeEntry}
use Rattle.journals.specs.Steps.{Step}
use Rattle.journals.specs.Steps.Step.{AtNode}
use Rattle.journals.specs.Merging.{line_of}
use Rattle.merge_trace.specs.Numbered.{node_steps, all_node_steps, numbers_of, AreApart, AreNew, AreAdded}
use Rattle.lists.proofs.lemmas.Members.{Contains-head, Contains-none, Contains-rest, Contains-cons_cases, Contains-one, Contains-map}
use Rattle.lists.proofs.lemmas.Orders.{eq_equal}

abbrev pub Numbered : Type 0
Numbered = ℕ × Step

-- ---- numbers of which none stands twice

apart_left : (xs ys : List ℕ) → AreApart (xs ++ ys) → AreApart xs
apart_left [] ys h = tt
apart_left (x ∷ xs) ys h = ((λ there. h.0 (Contains-append_left xs ys x there)), apart_left xs ys h.1)

apart_right : (xs ys : List ℕ) → AreApart (xs ++ ys) → AreApart ys
apart_right [] ys h = h
apart_right (x ∷ xs) ys h = apart_right xs ys h.1

pub apart_between : (xs ys : List ℕ) → AreApart (xs ++ ys) → (n : ℕ) → Contains xs n → Contains ys n → ⊥
apart_between [] ys h n one other = Contains-none n one
apart_between (x ∷ xs) ys h n one other =
    let rest = λ (t : Contains xs n). apart_between xs ys h.1 n t other in
    elim (Contains-cons_cases n x xs one) [
      | inl e ↦ h.0 (Contains-append_right xs ys x (subst (Contains ys) e other))
      | inr t ↦ rest t
    ]

apart_append : (xs ys : List ℕ) → AreApart xs → AreApart ys → ((n : ℕ) → Contains xs n → Contains ys n → ⊥) → AreApart (xs ++ ys)
apart_append [] ys a b h = b
apart_append (x ∷ xs) ys a b h = (
  (λ there. elim (Contains-append_cases xs ys x there) [ inl t ↦ a.0 t | inr t ↦ h x (Contains-head x xs) t ]),
  apart_append xs ys a.1 b (λ n one other. h n (Contains-rest n x xs one) other),
)

-- two steps of one number are the same one
pub same_place : (steps : List Numbered) → AreApart (numbers_of steps) → (p q : Numbered) → Contains steps p → Contains steps q → p.0 ≡ q.0 → p ≡ q
same_place [] h p q one other e = absurd (Contains-none p one)
same_place (x ∷ steps) h p q one other e =
    let rest = λ (t : Contains steps p) (u : Contains steps q). same_place steps h.1 p q t u e in
    elim (Contains-cons_cases p x steps one) [
      | inl a ↦ elim (Contains-cons_cases q x steps other) [
        | inl b ↦ a ∙ sym b
        | inr u ↦ absurd (h.0 (subst (Contains (numbers_of steps)) (sym e ∙ ap (λ (z : Numbered). z.0) a) (Contains-map (λ (z : Numbered). z.0) steps q u)))
      ]
      | inr t ↦ elim (Contains-cons_cases q x steps other) [
        | inl b ↦ absurd (h.0 (subst (Contains (numbers_of steps)) (e ∙ ap (λ (z : Numbered). z.0) b) (Contains-map (λ (z : Numbered). z.0) steps p t)))
        | inr u ↦ rest t u
      ]
    ]

more_numbers : (xs ys : List Numbered) → numbers_of (xs ++ ys) ≡ numbers_of xs ++ numbers_of ys
more_numbers xs ys = map-append (λ (p : Numbered). p.0) xs ys

numbers_cases : (xs ys : List Numbered) (n : ℕ) → Contains (numbers_of (xs ++ ys)) n → Contains (numbers_of xs) n ⊎ Contains (numbers_of ys) n
numbers_cases xs ys n h = Contains-append_cases (numbers_of xs) (numbers_of ys) n (subst (λ (l : List ℕ). Contains l n) (more_numbers xs ys) h)

numbers_left : (xs ys : List Numbered) (n : ℕ) → Contains (numbers_of xs) n → Contains (numbers_of (xs ++ ys)) n
numbers_left xs ys n h = subst (λ (l : List ℕ). Contains l n) (sym (more_numbers xs ys)) (Contains-append_left (numbers_of xs) (numbers_of ys) n h)

numbers_right : (xs ys : List Numbered) (n : ℕ) → Contains (numbers_of ys) n → Contains (numbers_of (xs ++ ys)) n
numbers_right xs ys n h = subst (λ (l : List ℕ). Contains l n) (sym (more_numbers xs ys)) (Contains-append_right (numbers_of xs) (numbers_of ys) n h)

-- ---- sets

pub added_both : (a b c : BTreeSet ℕ) (xs ys : List Numbered) → AreAdded a b xs → AreAdded b c ys → AreAdded a c (xs ++ ys)
added_both a b c xs ys one other = record {
  kept = λ n h. other.kept n (one.kept n h);
  added = λ n h. elim (numbers_cases xs ys n h) [ inl t ↦ other.kept n (one.added n t) | inr t ↦ other.added n t ];
  known = λ n h. elim (other.known n h) [
    | inl k ↦ elim (one.known n k) [ inl m ↦ inl m | inr m ↦ inr (numbers_left xs ys n m) ]
    | inr k ↦ inr (numbers_right xs ys n k)
  ];
}

not_both : (set : BTreeSet ℕ) (n : ℕ) → contains nat_cmp set n ≡ true → contains nat_cmp set n ≡ false → ⊥
not_both set n h k = absurd (cc)

is_not : (b : Bool) → (b ≡ true → ⊥) → b ≡ false
is_not true h = absurd (h refl)
is_not false h = refl

-- one number more
pub one_added : (old new : BTreeSet ℕ) (n : ℕ) (e : Step) → Updates nat_cmp old new n true → AreAdded old new ((n, e) ∷ [])
one_added old new n e h = record {
  kept = λ q k. h.0 q ∙ either (is_eq (nat_cmp n q)) (contains nat_cmp old q) k;
  added = λ q there. subst (λ (m : ℕ). contains nat_cmp new m ≡ true) (sym (Contains-one q n there)) h.1;
  known = λ q k. which (is_eq (nat_cmp n q)) q refl (sym (h.0 q) ∙ k);
}
  where
    which : (at : Bool) (q : ℕ) → is_eq (nat_cmp n q) ≡ at → cond at true (contains nat_cmp old q) ≡ true → (contains nat_cmp old q ≡ true) ⊎ Contains (numbers_of ((n, e) ∷ [])) q
    which true q same k = inr (subst (Contains (n ∷ [])) (exact_unsigned n q (eq_equal (nat_cmp n q) same)) (Contains-head n []))
    which false q other k = inl k

    either : (a b : Bool) → b ≡ true → cond a true b ≡ true
    either true b k = refl
    either false b k = k

-- ---- what is new

module _ (s : Setting) where
  pub one_new : (set : BTreeSet ℕ) (n : ℕ) (e : Step) → contains nat_cmp set n ≡ false → ((k : ℕ) → FitsLine s (line_of s k e)) → AreNew s set ((n, e) ∷ [])
  one_new set n e h fits = record {
    new = λ q there. subst (λ (m : ℕ). contains nat_cmp set m ≡ false) (sym (Contains-one q n there)) h;
    apart = ((λ there. Contains-none n there), tt);
    fit = λ p there. subst (λ (q : Numbered). (k : ℕ) → FitsLine s (line_of s k q.1)) (sym (Contains-one p (n, e) there)) fits;
  }

  pub one_new_number : (set : BTreeSet ℕ) (n : ℕ) (e : Step) → AreNew s set ((n, e) ∷ []) → contains nat_cmp set n ≡ false
  one_new_number set n e h = h.new n (Contains-head n [])

  pub one_new_fits : (set : BTreeSet ℕ) (n : ℕ) (e : Step) → AreNew s set ((n, e) ∷ []) → (k : ℕ) → FitsLine s (line_of s k e)
  one_new_fits set n e h = h.fit (n, e) (Contains-head (n, e) [])

  pub new_both : (a b : BTreeSet ℕ) (xs ys : List Numbered) → AreAdded a b xs → AreNew s a xs → AreNew s b ys → AreNew s a (xs ++ ys)
  new_both a b xs ys add one other = record {
    new = λ n there. elim (numbers_cases xs ys n there) [
      | inl t ↦ one.new n t
      | inr t ↦ is_not (contains nat_cmp a n) (λ k. not_both b n (add.kept n k) (other.new n t))
    ];
    apart = subst AreApart (sym (more_numbers xs ys)) (apart_append (numbers_of xs) (numbers_of ys) one.apart other.apart (λ n t u. not_both b n (add.added n t) (other.new n u)));
    fit = λ p there. elim (Contains-append_cases xs ys p there) [ inl t ↦ one.fit p t | inr t ↦ other.fit p t ];
  }

  pub new_first : (a : BTreeSet ℕ) (xs ys : List Numbered) → AreNew s a (xs ++ ys) → AreNew s a xs
  new_first a xs ys h = record {
    new = λ n there. h.new n (numbers_left xs ys n there);
    apart = apart_left (numbers_of xs) (numbers_of ys) (subst AreApart (more_numbers xs ys) h.apart);
    fit = λ p there. h.fit p (Contains-append_left xs ys p there);
  }

  pub new_rest : (a b : BTreeSet ℕ) (xs ys : List Numbered) → AreAdded a b xs → AreNew s a (xs ++ ys) → AreNew s b ys
  new_rest a b xs ys add h =
      let apart : AreApart (numbers_of xs ++ numbers_of ys) = subst AreApart (more_numbers xs ys) h.apart in
      record {
        new = λ n there. is_not (contains nat_cmp b n) (λ k. elim (add.known n k) [
          | inl old ↦ not_both a n old (h.new n (numbers_right xs ys n there))
          | inr t ↦ apart_between (numbers_of xs) (numbers_of ys) apart n t there
        ]);
        apart = apart_right (numbers_of xs) (numbers_of ys) apart;
        fit = λ p there. h.fit p (Contains-append_right xs ys p there);
      }

-- ---- lists of entries, cut at a place

-- the items before a place, the one there, and those after it
pub cut_at : {A : Type 0} (xs : List A) (k : ℕ) (x : A) → k < length xs → x ≡ get_or xs k x → xs ≡ take k xs ++ (x ∷ drop (k + 1) xs)
cut_at xs k x l e =
    let one : take (k + 1) xs ≡ take k xs ++ x ∷ [] = rw add-one (take-suc xs k x l ∙ ap (λ y. take k xs ++ y ∷ []) (sym e)) in
    sym (take-append-drop (k + 1) xs) ∙ ap (λ l. l ++ drop (k + 1) xs) one ∙ append_assoc (take k xs) (x ∷ []) (drop (k + 1) xs)

-- one item more of a list
pub taken_more : {A : Type 0} (xs : List A) (k : ℕ) (x : A) → k < length xs → x ≡ get_or xs k x → take (k + 1) xs ≡ take k xs ++ x ∷ []
taken_more xs k x l e = rw add-one (take-suc xs k x l ∙ ap (λ y. take k xs ++ y ∷ []) (sym e))

nodes_append : (i n : ℕ) (xs ys : List (List NodeEntry)) → n ≡ i + length xs → all_node_steps i (xs ++ ys) ≡ all_node_steps i xs ++ all_node_steps n ys
nodes_append i n [] ys e = let q : i ≡ n = omega (arith, e) in ap (λ (k : ℕ). all_node_steps k ys) q
nodes_append i n (x ∷ xs) ys e = ap (λ (l : List Numbered). node_steps i x ++ l) (nodes_append (i + 1) n xs ys (omega (arith, e))) ∙ sym (append_assoc (node_steps i x) (all_node_steps (i + 1) xs) (all_node_steps n ys))

-- ---- a loop over entries

-- the steps so far
pub record Gone (s : Setting) (old new : BTreeSet ℕ) (steps : List Numbered) : Type 0 where
  pub fine : AreNew s old steps
  pub numbers : AreAdded old new steps

pub gone_more : (s : Setting) (a b c : BTreeSet ℕ) (xs ys all : List Numbered) → all ≡ xs ++ ys → Gone s a b xs → AreNew s b ys → AreAdded b c ys → Gone s a c all
gone_more s a b c xs ys all whole h new added = subst (Gone s a c) (sym whole) (record { fine = new_both s a b xs ys h.numbers h.fine new; numbers = added_both a b c xs ys h.numbers added })

-- steps that aren't new after those before
pub not_all : (s : Setting) (a b : BTreeSet ℕ) (xs ys rest all : List Numbered) → all ≡ xs ++ (ys ++ rest) → Gone s a b xs → (AreNew s b ys → ⊥) → AreNew s a all → ⊥
not_all s a b xs ys rest all whole gone none h = none (new_first s b ys rest (new_rest s a b xs (ys ++ rest) gone.numbers (subst (AreNew s a) whole h)))

pub refused : (P : Type 0) → (P → ⊥) → IsTrue false ↔ P
refused P none = ((λ h. absurd (cc)), λ p. absurd (none p))

-- what a call that adds one number tells of its step
pub told_one : {E : Type 0} (s : Setting) (set : BTreeSet ℕ) (n : ℕ) (e : Step) (r : Result Bool E) → ((k : ℕ) → FitsLine s (line_of s k e)) → IfOk r (λ new. IsTrue new ↔ (contains nat_cmp set n ≡ false)) → IfOk r (λ fine. IsTrue fine ↔ AreNew s set ((n, e) ∷ []))
told_one s set n e (Ok new) fits h = ((λ yes. one_new s set n e (h.0 yes) fits), λ k. h.1 (one_new_number s set n e k))
told_one s set n e (Err x) fits h = tt

pub added_one : {E : Type 0} (old new : BTreeSet ℕ) (n : ℕ) (e : Step) (r : Result Bool E) → IfOk r (λ fine. IsTrue fine → Updates nat_cmp old new n true) → IfOk r (λ fine. IsTrue fine → AreAdded old new ((n, e) ∷ []))
added_one old new n e (Ok fine) h = λ yes. one_added old new n e (h yes)
added_one old new n e (Err x) h = tt

-- ---- the steps of entries, one more, and where they are cut

pub node_more : (i : ℕ) (es : List NodeEntry) (k : ℕ) (e : NodeEntry) → k < length es → e ≡ get_or es k e → node_steps i (take (k + 1) es) ≡ node_steps i (take k es) ++ node_steps i (e ∷ [])
node_more i es k e l at = ap (node_steps i) (taken_more es k e l at) ∙ map-append (λ (x : NodeEntry). (x.number, AtNode i x.act)) (take k es) (e ∷ [])

pub node_cut : (i : ℕ) (es : List NodeEntry) (k : ℕ) (e : NodeEntry) → k < length es → e ≡ get_or es k e → node_steps i es ≡ node_steps i (take k es) ++ (node_steps i (e ∷ []) ++ node_steps i (drop (k + 1) es))
node_cut i es k e l at = ap (node_steps i) (cut_at es k e l at) ∙ map-append (λ (x : NodeEntry). (x.number, AtNode i x.act)) (take k es) (e ∷ drop (k + 1) es)

pub flat_one_more : {X : Type 0} (f : X → List Numbered) (xs : List X) (k : ℕ) (x : X) → k < length xs → x ≡ get_or xs k x → flat_map f (take (k + 1) xs) ≡ flat_map f (take k xs) ++ f x
flat_one_more f xs k x l at = ap (flat_map f) (taken_more xs k x l at) ∙ flat_map-append f (take k xs) (x ∷ []) ∙ ap (λ (l : List Numbered). flat_map f (take k xs) ++ l) (append-nil (f x))

pub flat_cut : {X : Type 0} (f : X → List Numbered) (xs : List X) (k : ℕ) (x : X) → k < length xs → x ≡ get_or xs k x → flat_map f xs ≡ flat_map f (take k xs) ++ (f x ++ flat_map f (drop (k + 1) xs))
flat_cut f xs k x l at = ap (flat_map f) (cut_at xs k x l at) ∙ flat_map-append f (take k xs) (x ∷ drop (k + 1) xs)

pub nodes_more : (nodes : List (List NodeEntry)) (k : ℕ) (es : List NodeEntry) → k < length nodes → es ≡ get_or nodes k es → all_node_steps 0 (take (k + 1) nodes) ≡ all_node_steps 0 (take k nodes) ++ node_steps k es
nodes_more nodes k es l at =
    let long = length-take-le k nodes (omega (arith, l)) in
    ap (all_node_steps 0) (taken_more nodes k es l at) ∙ nodes_append 0 k (take k nodes) (es ∷ []) (omega (arith, long)) ∙ ap (λ (l : List Numbered). all_node_steps 0 (take k nodes) ++ l) (append-nil (node_steps k es))

pub nodes_cut : (nodes : List (List NodeEntry)) (k : ℕ) (es : List NodeEntry) → k < length nodes → es ≡ get_or nodes k es → all_node_steps 0 nodes ≡ all_node_steps 0 (take k nodes) ++ (node_steps k es ++ all_node_steps (k + 1) (drop (k + 1) nodes))
nodes_cut nodes k es l at =
    let long = length-take-le k nodes (omega (arith, l)) in
    ap (all_node_steps 0) (cut_at nodes k es l at) ∙ nodes_append 0 k (take k nodes) (es ∷ drop (k + 1) nodes) (omega (arith, long))
