-- The chosen answers are m, and their numbers ascend.
use Rattle.std.proofs.Common.{◌≡◌, ◌⊎◌, ℕ, zero, suc, ◌+◌, ◌-◌, ◌<◌, ◌≤◌, Bool, true, false, cond, List, [], ◌∷◌, ◌++◌, length, take, map, Option, refl, sym, ap, inl, inr, arith, length-take, length-append}
use Rattle.std.specs.declared.option.Option.TheVariants.{None, Some}
use Rattle.std.specs.List.{Contains}
use Rattle.std.proofs.lemmas.List.Elements.{Contains-append_cases}
use Rattle.protocol.specs.Count.{count, collect, one_more}
use Rattle.stamp_order.specs.declared.Stamp.{Stamp}
use Rattle.stamp_order.specs.declared.Bound.{Bound}
use Rattle.stamp_order.specs.Stamps.{same_stamp}
use Rattle.protocol.specs.Messages.{Version, Reply}
use Rattle.protocol.specs.Setting.{Setting, IsAscending, IsValid}
use Rattle.protocol.specs.Operations.{valid, support, carriers, chosen, carries, only_if, numbered, part_of}
use Rattle.protocol.proofs.lemmas.Lists.{Contains-collect, Contains-take}
use Rattle.lists.proofs.lemmas.Members.{Contains-head, Contains-none, Contains-rest, Contains-one, Contains-map_cases}

ascending_push : {A : Type 0} (ps : List (ℕ × A)) (p : ℕ × A) → IsAscending ps → ((q : ℕ × A) → Contains ps q → q.0 < p.0) → IsAscending (ps ++ p ∷ [])
ascending_push [] p h k = (λ q r. absurd (Contains-none q r), tt)
ascending_push (a ∷ ps) p h k = (
  λ q r. elim (Contains-append_cases ps (p ∷ []) q r) [ inl l ↦ h.0 q l | inr l ↦ (let e = Contains-one q p l in rw e (k a (Contains-head a ps))) ],
  ascending_push ps p h.1 (λ q r. k q (Contains-rest q a ps r)),
)

ascending_take : {A : Type 0} (n : ℕ) (ps : List (ℕ × A)) → IsAscending ps → IsAscending (take n ps)
ascending_take zero ps h = tt
ascending_take (suc n) [] h = tt
ascending_take (suc n) (p ∷ ps) h = (λ q r. h.0 q (Contains-take n ps q r), ascending_take n ps h.1)

ascending_more : {A : Type 0} (k : ℕ) (f : ℕ → Option (ℕ × A)) (o : Option (ℕ × A)) → f k ≡ o → ((i : ℕ) (q : ℕ × A) → f i ≡ Some q → q.0 ≡ i) → IsAscending (collect k f) → IsAscending (one_more (collect k f) o)
ascending_more k f None e at h = h
ascending_more k f (Some p) e at h =
    ascending_push (collect k f) p h (λ q r. let c = Contains-collect k f q r in omega (arith, at k p e, at c.0 q c.2, c.1))

pub ascending_collect : {A : Type 0} (n : ℕ) (f : ℕ → Option (ℕ × A)) → ((i : ℕ) (q : ℕ × A) → f i ≡ Some q → q.0 ≡ i) → IsAscending (collect n f)
ascending_collect zero f at = tt
ascending_collect (suc k) f at = ascending_more k f (f k) refl at (ascending_collect k f at)

ascending_parts : (ps : List (ℕ × Version)) → IsAscending ps → IsAscending (map part_of ps)
ascending_parts [] h = tt
ascending_parts (p ∷ ps) h = (
  λ q r. let k = Contains-map_cases part_of ps q r in let l : p.0 < k.0.0 = h.0 k.0 k.1 in let e : q.0 ≡ k.0.0 = ap (λ (x : ℕ × List ℕ). x.0) k.2 in rw e l,
  ascending_parts ps h.1,
)

length_more : {A : Type 0} (xs : List A) (o : Option A) (b : Bool) → ((b ≡ true) × (x : A) × (o ≡ Some x)) ⊎ ((b ≡ false) × (o ≡ None)) → length (one_more xs o) ≡ length xs + cond b 1 0
length_more {A} xs o b (inl h) = rw (h.0, h.2) (length-append xs (h.1 ∷ []))
length_more xs o b (inr h) = rw (h.0, h.1) (omega arith)

pub length_collect : {A : Type 0} (n : ℕ) (f : ℕ → Option A) (p : ℕ → Bool) → ((i : ℕ) → ((p i ≡ true) × (x : A) × (f i ≡ Some x)) ⊎ ((p i ≡ false) × (f i ≡ None))) → length (collect n f) ≡ count n p
length_collect zero f p h = refl
length_collect (suc k) f p h = omega (arith, length_more (collect k f) (f k) (p k) (h k), length_collect k f p h)

carry : (p : Stamp) (i : ℕ) (o : Option Version) → ((carries p o ≡ true) × (x : ℕ × Version) × (only_if (carries p o) (numbered i o) ≡ Some x)) ⊎ ((carries p o ≡ false) × (only_if (carries p o) (numbered i o) ≡ None))
carry p i None = inr (refl, refl)
carry p i (Some v) = at (same_stamp v.stamp p)
  where
    at : (b : Bool) → ((b ≡ true) × (x : ℕ × Version) × (cond b (Some (i, v)) None ≡ Some x)) ⊎ ((b ≡ false) × (cond {A = Option (ℕ × Version)} b (Some (i, v)) None ≡ None))
    at true = inl (refl, (i, v), refl)
    at false = inr (refl, refl)

carry_at : (p : Stamp) (i : ℕ) (o : Option Version) (q : ℕ × Version) → only_if (carries p o) (numbered i o) ≡ Some q → q.0 ≡ i
carry_at p i None q e = absurd (cc)
carry_at p i (Some v) q e = at (same_stamp v.stamp p) e
  where
    at : (b : Bool) → cond b (Some (i, v)) None ≡ Some q → q.0 ≡ i
    at true f = let g : (i, v) ≡ q = cc in sym (ap (λ (x : ℕ × Version). x.0) g)
    at false f = absurd (cc)

module _ (s : Setting) (good : IsValid s) (answers : ℕ → Option Reply) (bound : Bound) (p : Stamp) where
  pub length_chosen : s.qc - s.t ≤ support s answers bound p → length (chosen s answers bound p) ≡ s.m
  length_chosen h =
      let all : length (carriers s answers bound p) ≡ support s answers bound p =
      length_collect s.n (λ i. only_if (carries p (valid s i bound (answers i))) (numbered i (valid s i bound (answers i)))) (λ i. carries p (valid s i bound (answers i))) (λ i. carry p i (valid s i bound (answers i))) in
      omega (arith, length-take s.m (carriers s answers bound p), all, h, good.shares_few)

  pub ascending_chosen : IsAscending (map part_of (chosen s answers bound p))
  ascending_chosen =
      ascending_parts (chosen s answers bound p) (ascending_take s.m (carriers s answers bound p)
      (ascending_collect s.n (λ i. only_if (carries p (valid s i bound (answers i))) (numbered i (valid s i bound (answers i)))) (λ i q e. carry_at p i (valid s i bound (answers i)) q e)))
