-- One version more, with the greatest number, comes last.
use Rattle.std.proofs.Common.{◌≡◌, inl, inr, ℕ, zero, suc, ◌+◌, ◌<◌, ◌≤◌, Bool, true, false, List, [], ◌∷◌, ◌++◌, map, refl, ◌∙◌, ap, arith}
use Rattle.std.proofs.lemmas.Bool.{cases_Bool, cases_lt}
use Rattle.std.specs.Prelude.{nat_lt}
use Rattle.std.proofs.lemmas.List.{map-append}
use Rattle.slab_node.specs.Held.{Entry, counts, entries_from, put, in_order, entry_version, versions_of}

-- the second list is the first with e at some place
pub data IsWithOne (e : Entry) : List Entry → List Entry → Type 0 where
  here : (xs : List Entry) → IsWithOne e xs (e ∷ xs)
  later : (x : Entry) (xs ys : List Entry) → IsWithOne e xs ys → IsWithOne e (x ∷ xs) (x ∷ ys)

-- each number is less
abbrev pub AreBelow : ℕ → List Entry → Type 0
AreBelow n [] = Unit {0}
AreBelow n (e ∷ es) = (e.head.number < n) × AreBelow n es

put_below : (n : ℕ) (e : Entry) (es : List Entry) → e.head.number < n → AreBelow n es → AreBelow n (put e es)
put_below n e [] lt all = (lt, tt)
put_below n e (x ∷ xs) lt all = elim (cases_Bool (nat_lt e.head.number x.head.number)) [
  | inl less ↦ rw less (lt, all)
  | inr more ↦ rw more (all.0, put_below n e xs lt all.1)
]

order_below : (n : ℕ) (es : List Entry) → AreBelow n es → AreBelow n (in_order es)
order_below n [] all = tt
order_below n (e ∷ es) all = put_below n e (in_order es) all.0 (order_below n es all.1)

not_less : (a b : ℕ) → b ≤ a → nat_lt a b ≡ false
not_less a b le = grind arith

less : (a b : ℕ) → a < b → nat_lt a b ≡ true
less a b lt = grind arith

-- the greatest comes last
put_last : (e : Entry) (es : List Entry) → AreBelow e.head.number es → put e es ≡ es ++ e ∷ []
put_last e [] all = refl
put_last e (x ∷ xs) all = rw (not_less e.head.number x.head.number (omega (arith, all.0))) (ap (λ l. x ∷ l) (put_last e xs all.1))

-- and stays last
put_before : (x e : Entry) (es : List Entry) → x.head.number < e.head.number → put x (es ++ e ∷ []) ≡ put x es ++ e ∷ []
put_before x e [] lt = rw (less x.head.number e.head.number lt) refl
put_before x e (y ∷ ys) lt = elim (cases_Bool (nat_lt x.head.number y.head.number)) [
  | inl before ↦ rw before refl
  | inr behind ↦ rw behind (ap (λ l. y ∷ l) (put_before x e ys lt))
]

order_one : (e : Entry) (xs ys : List Entry) → IsWithOne e xs ys → AreBelow e.head.number xs → in_order ys ≡ in_order xs ++ e ∷ []
order_one e xs _ (here _) all = put_last e (in_order xs) (order_below e.head.number xs all)
order_one e _ _ (later x xs ys one) all = ap (put x) (order_one e xs ys one all.1) ∙ put_before x e (in_order xs) all.0

-- Where one slot more counts, of a greater number, its version is the last one.
pub versions_one : (nodes : ℕ) (e : Entry) (xs ys : List Entry) → IsWithOne e xs ys → AreBelow e.head.number xs
    → versions_of nodes ys ≡ versions_of nodes xs ++ entry_version nodes e ∷ []
versions_one nodes e xs ys one all =
    ap (map (entry_version nodes)) (order_one e xs ys one all) ∙ map-append (entry_version nodes) (in_order xs) (e ∷ [])

-- ---- the marked slots of a block, where one is marked more

module _ (m m' : ℕ → Bool) (e : ℕ → Entry) (block j : ℕ) (new : counts m' e block j ≡ true) (not_yet : counts m e block j ≡ false)
    (others : (k : ℕ) → (k ≡ j → ⊥) → counts m' e block k ≡ counts m e block k) where
  behind : (i n : ℕ) → j < i → entries_from m' e block i n ≡ entries_from m e block i n
  behind i zero lt = refl
  behind i (suc n) lt =
      let same = others i (λ is_it. omega (arith, is_it)) in
      let rest = behind (suc i) n (omega arith) in
      elim (cases_Bool (counts m e block i)) [
        | inl hit ↦ rw (same ∙ hit) (rw hit (ap (λ l. e i ∷ l) rest))
        | inr miss ↦ rw (same ∙ miss) (rw miss rest)
      ]

  pub with_one : (i n : ℕ) → i ≤ j → j < i + n → IsWithOne (e j) (entries_from m e block i n) (entries_from m' e block i n)
  with_one i zero low high = absurd (omega arith)
  with_one i (suc n) low high = elim (cases_lt i j) [
    | inl lt ↦
        let same = others i (λ is_it. omega (arith, is_it)) in
        let rest = with_one (suc i) n (omega arith) (omega arith) in
        elim (cases_Bool (counts m e block i)) [
          | inl hit ↦ rw (same ∙ hit) (rw hit (later (e i) _ _ rest))
          | inr miss ↦ rw (same ∙ miss) (rw miss rest)
        ]
    | inr le ↦
        let it : i ≡ j = omega arith in
        rw it (rw new (rw not_yet (rw (behind (suc j) n (omega arith)) (here (entries_from m e block (suc j) n)))))
  ]

below_from : (m : ℕ → Bool) (e : ℕ → Entry) (block top i n : ℕ) → ((k : ℕ) → i ≤ k → k < i + n → counts m e block k ≡ true → (e k).head.number < top) → AreBelow top (entries_from m e block i n)
below_from m e block top i zero each = tt
below_from m e block top i (suc n) each =
    let rest = below_from m e block top (suc i) n (λ k low high hit. each k (omega arith) (omega arith) hit) in
    elim (cases_Bool (counts m e block i)) [
      | inl hit ↦ rw hit (each i (omega arith) (omega arith) hit, rest)
      | inr miss ↦ rw miss rest
    ]

pub are_below : (m : ℕ → Bool) (e : ℕ → Entry) (block top n : ℕ) → ((k : ℕ) → k < n → counts m e block k ≡ true → (e k).head.number < top) → AreBelow top (entries_from m e block 0 n)
are_below m e block top n each = below_from m e block top 0 n (λ k low high hit. each k (omega (arith, high)) hit)
