-- Sums over lists whose items stand in another list.
use Rattle.std.proofs.Common.{◌≡◌, ◌⊎◌, ℕ, ◌+◌, ◌≤◌, Bool, true, false, cond, List, [], ◌∷◌, ◌++◌, length, refl, sym, ◌∙◌, ap, subst, inl, inr, arith}
use Rattle.std.specs.Prelude.{sum_by, nat_eq, ◌||◌}
use Rattle.std.specs.List.{Contains}
use Rattle.std.specs.Set.{is_member, unique_keys}
use Rattle.std.proofs.lemmas.Bool.{eqb-true}
use Rattle.std.proofs.lemmas.List.Sums.{sum_by-cons}
use Rattle.std.proofs.lemmas.List.Elements.{Contains-append_cases, Contains-append_left, Contains-append_right}
use Rattle.lists.proofs.lemmas.Members.{Contains-head, Contains-none, Contains-rest, Contains-cons_cases}

module _ {X : Type 0} (f : X → ℕ) where
  abbrev pub total : List X → ℕ
  total [] = 0
  total (x ∷ xs) = f x + total xs

  pub total_is : (xs : List X) → sum_by f xs ≡ total xs
  total_is [] = refl
  total_is (x ∷ xs) = sum_by-cons f x xs ∙ ap (λ (n : ℕ). f x + n) (total_is xs)

  pub total_append : (xs ys : List X) → total (xs ++ ys) ≡ total xs + total ys
  total_append [] ys = omega arith
  total_append (x ∷ xs) ys = let rest = total_append xs ys in omega (arith, rest)

pub total_count : {X : Type 0} (xs : List X) → total (λ (x : X). 1) xs ≡ length xs
total_count [] = refl
total_count (x ∷ xs) = let rest = total_count xs in omega (arith, rest)

-- no two items are equal
abbrev pub AreDifferent : {X : Type 0} → List X → Type 0
AreDifferent [] = Unit {0}
AreDifferent (x ∷ xs) = ((y : _) → Contains xs y → x ≡ y → ⊥) × AreDifferent xs

record Split {X : Type 0} (ys : List X) (x : X) : Type 0 where
  before : List X
  after : List X
  is : ys ≡ before ++ x ∷ after

split : {X : Type 0} (ys : List X) (x : X) → Contains ys x → Split ys x
split [] x h = absurd (Contains-none x h)
split (y ∷ ys) x h = elim (Contains-cons_cases x y ys h) [
  | inl e ↦ record { before = []; after = ys; is = ap (λ z. z ∷ ys) (sym e) }
  | inr k ↦ (let s = split ys x k in record { before = y ∷ s.before; after = s.after; is = ap (λ zs. y ∷ zs) s.is })
]

-- different items of a list come to no more than all of them
pub total_within : {X : Type 0} (f : X → ℕ) (xs ys : List X) → AreDifferent xs → ((x : X) → Contains xs x → Contains ys x) → total f xs ≤ total f ys
total_within f [] ys apart there = omega arith
total_within f (x ∷ xs) ys apart there =
    let s = split ys x (there x (Contains-head x xs)) in
    let rest = total_within f xs (s.before ++ s.after) apart.1 (λ y k. other s y k (there y (Contains-rest y x xs k))) in
    let all : total f ys ≡ total f s.before + (f x + total f s.after) = ap (total f) s.is ∙ total_append f s.before (x ∷ s.after) in
    let both = total_append f s.before s.after in
    omega (arith, rest, all, both)
  where
    other : (s : Split ys x) (y : _) → Contains xs y → Contains ys y → Contains (s.before ++ s.after) y
    other s y k all = elim (Contains-append_cases s.before (x ∷ s.after) y (subst (λ zs. Contains zs y) s.is all)) [
      | inl first ↦ Contains-append_left s.before s.after y first
      | inr later ↦ elim (Contains-cons_cases y x s.after later) [
        | inl e ↦ absurd (apart.0 y k (sym e))
        | inr last ↦ Contains-append_right s.before s.after y last
      ]
    ]

-- ---- each number once

member_there : (xs : List ℕ) (x : ℕ) → is_member nat_eq xs x ≡ true → Contains xs x
member_there [] x e = absurd (cc)
member_there (y ∷ ys) x e = at (nat_eq x y) refl e (member_there ys x)
  where
    at : (b : Bool) → nat_eq x y ≡ b → b || is_member nat_eq ys x ≡ true → (is_member nat_eq ys x ≡ true → Contains ys x) → Contains (y ∷ ys) x
    at true q k rest = let same : x ≡ y = eqb-true x y q in subst (λ (z : ℕ). Contains (z ∷ ys) x) same (Contains-head x ys)
    at false q k rest = Contains-rest x y ys (rest k)

pub once_there : (xs : List ℕ) (q : ℕ) → Contains xs q → Contains (unique_keys nat_eq xs) q
once_there [] q h = absurd (Contains-none q h)
once_there (x ∷ xs) q h = at (is_member nat_eq xs x) refl (Contains-cons_cases q x xs h) (once_there xs q)
  where
    at : (b : Bool) → is_member nat_eq xs x ≡ b → (q ≡ x) ⊎ Contains xs q → (Contains xs q → Contains (unique_keys nat_eq xs) q) → Contains (cond b (unique_keys nat_eq xs) (x ∷ unique_keys nat_eq xs)) q
    at true m (inl e) rest = rest (subst (λ (z : ℕ). Contains xs z) (sym e) (member_there xs x m))
    at true m (inr k) rest = rest k
    at false m (inl e) rest = subst (λ (z : ℕ). Contains (z ∷ unique_keys nat_eq xs) q) e (Contains-head q (unique_keys nat_eq xs))
    at false m (inr k) rest = Contains-rest q x (unique_keys nat_eq xs) (rest k)
