-- Phases in turn, and one more after them.
use Rattle.std.proofs.Common.{◌≡◌, ◌⊎◌, ℕ, zero, suc, ◌+◌, ◌<◌, ◌≤◌, List, [], ◌∷◌, ◌++◌, length, refl, ap, subst, inl, inr, arith}
use Rattle.std.specs.Prelude.{slice_get}
use Rattle.std.specs.declared.option.Option.TheVariants.{Some}
use Rattle.std.specs.List.{Contains}
use Rattle.journals.specs.Phases.{Phase}
use Rattle.plan_followed.specs.Followed.{AreInTurn, begin_of, end_of}
use Rattle.plan_followed.specs.Closed.{next_begin}
use Rattle.lists.proofs.lemmas.Members.{Contains-none, Contains-cons_cases, slice_get-front}

-- the end of the last phase, or where the first begins
abbrev last_end : ℕ → List Phase → ℕ
last_end from [] = from
last_end from (p ∷ ps) = last_end p.end ps

last_is : (from : ℕ) (p : Phase) (ps : List Phase) → end_of (slice_get (p ∷ ps) (length ps)) ≡ last_end from (p ∷ ps)
last_is from p [] = refl
last_is from p (q ∷ ps) = last_is p.end q ps

begins_last : (ps : List Phase) → next_begin ps ≡ last_end 0 ps
begins_last [] = refl
begins_last (p ∷ ps) = last_is 0 p ps

from_last : (from : ℕ) (ps : List Phase) → AreInTurn from ps → from ≤ last_end from ps
from_last from [] h = omega arith
from_last from (p ∷ ps) h = (let r = from_last p.end ps h.2 in let a = h.0 in let b = h.1 in omega (arith, r, a, b))

ends_last : (from : ℕ) (ps : List Phase) → AreInTurn from ps → (p : Phase) → Contains ps p → p.end ≤ last_end from ps
ends_last from [] h p there = absurd (Contains-none p there)
ends_last from (q ∷ ps) h p there = elim (Contains-cons_cases p q ps there) [
  | inl same ↦ (let r = from_last q.end ps h.2 in let e : p.end ≡ q.end = ap (λ (x : Phase). x.end) same in omega (arith, r, e))
  | inr rest ↦ ends_last q.end ps h.2 p rest
]

-- each phase ends where the next begins, or before
pub ends_before : (ps : List Phase) → AreInTurn 0 ps → (p : Phase) → Contains ps p → p.end ≤ next_begin ps
ends_before ps h p there = rw (begins_last ps) (ends_last 0 ps h p there)

closes_first : (from : ℕ) (ps : List Phase) → AreInTurn from ps → (p : Phase) → Contains ps p → p.close ≤ p.end
closes_first from [] h p there = absurd (Contains-none p there)
closes_first from (q ∷ ps) h p there = elim (Contains-cons_cases p q ps there) [
  | inl same ↦ (let e : p.end ≡ q.end = ap (λ (x : Phase). x.end) same in let f : p.close ≡ q.close = ap (λ (x : Phase). x.close) same in let l = h.1 in omega (arith, e, f, l))
  | inr rest ↦ closes_first q.end ps h.2 p rest
]

-- a phase closes before it ends
pub closes_before : (ps : List Phase) → AreInTurn 0 ps → (p : Phase) → Contains ps p → p.close ≤ p.end
closes_before ps h p there = closes_first 0 ps h p there

push : (from : ℕ) (ps : List Phase) (p : Phase) → AreInTurn from ps → last_end from ps ≤ p.close → p.close ≤ p.end → AreInTurn from (ps ++ p ∷ [])
push from [] p h l m = (l, m, tt)
push from (q ∷ ps) p h l m = (h.0, h.1, push q.end ps p h.2 l m)

-- one phase more
pub in_turn : (ps : List Phase) (p : Phase) → AreInTurn 0 ps → next_begin ps ≤ p.close → p.close ≤ p.end → AreInTurn 0 (ps ++ p ∷ [])
in_turn ps p h l m = push 0 ps p h (subst (λ (n : ℕ). n ≤ p.close) (begins_last ps) l) m

-- a member of the longer list is the last one, or one of the others at its number
pub get_pushed : {X : Type 0} (xs : List X) (x y : X) (k : ℕ) → slice_get (xs ++ x ∷ []) k ≡ Some y → ((k < length xs) × (slice_get xs k ≡ Some y)) ⊎ ((k ≡ length xs) × (y ≡ x))
get_pushed [] x y zero e = (let same : y ≡ x = cc in inr (refl, same))
get_pushed [] x y (suc k) e = absurd (cc)
get_pushed (z ∷ xs) x y zero e = inl (omega arith, e)
get_pushed (z ∷ xs) x y (suc k) e = elim (get_pushed xs x y k e) [
  | inl h ↦ inl (let l = h.0 in omega (arith, l), h.1)
  | inr h ↦ inr (ap suc h.0, h.1)
]

-- where a phase begins doesn't depend on those after it
pub same_begin : (ps : List Phase) (p : Phase) (k : ℕ) → k ≤ length ps → begin_of (ps ++ p ∷ []) k ≡ begin_of ps k
same_begin ps p zero l = refl
same_begin ps p (suc k) l = ap end_of (slice_get-front ps p k (omega (arith, l)))
