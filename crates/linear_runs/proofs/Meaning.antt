-- What reads give where operations are linearizable.
use Rattle.std.proofs.Common.{◌≡◌, ◌⊎◌, ℕ, ◌++◌, Bool, eqb, List, [], ◌∷◌, refl, sym, ap, subst, ◌∙◌, inl, inr, arith, suc}
use Rattle.std.specs.declared.option.Option.TheVariants.{None, Some}
use Rattle.std.specs.List.{Contains, All, AllPairs}
use Rattle.std.proofs.lemmas.Bool.{eqb-true, eq-eqb}
use Rattle.std.proofs.lemmas.List.Elements.{Contains-append_cases, Contains-append_left}
use Rattle.std.proofs.lemmas.List.Sorted.{Contains-permutation, IsPermutation-sym}
use Rattle.lists.proofs.lemmas.Members.{Contains-head, Contains-none, Contains-rest, Contains-cons_cases, filter_is, filter_has}
use Rattle.linear_runs.specs.Linear.{Act, Operation, IsBefore, IsInTime, IsLinear, ReadsLast, gives, value_after, on_block}
use Rattle.linear_runs.specs.Linear.Act.{Read, Write}
use Rattle.linear_runs.specs.Meaning.{IsSource, value_of, ReadsAreWritten, ReadsAreFresh}

-- ---- an order in time, from its first on

first_pairs : {X : Type 0} (R : X → X → Type 0) (x : X) (xs : List X) → AllPairs R (x ∷ xs) → (y : X) → Contains xs y → R x y
first_pairs {X} R x xs h y k = let r = h 0 (suc k.0) y (omega arith) (omega (arith, k.1)) in subst (λ (z : X). R x z) k.2 r

rest_pairs : {X : Type 0} (R : X → X → Type 0) (x : X) (xs : List X) → AllPairs R (x ∷ xs) → AllPairs R xs
rest_pairs R x xs h i j d l m = h (suc i) (suc j) d (omega (arith, l)) (omega (arith, m))

-- one that stands later hadn't ended before the first began
abbrev Late : Operation → Operation → Type 0
Late earlier later = IsBefore later earlier → ⊥

pub first_late : (o : Operation) (os : List Operation) → IsInTime (o ∷ os) → (p : Operation) → Contains os p → IsBefore p o → ⊥
first_late o os time p k = first_pairs Late o os time p k

pub rest_late : (o : Operation) (os : List Operation) → IsInTime (o ∷ os) → IsInTime os
rest_late o os time = rest_pairs Late o os time

given_now : (a : Act) (value c : List ℕ) → a ≡ Read value → gives a c → value ≡ c
given_now (Read v) value c e h = let q : v ≡ value = cc in sym q ∙ h
given_now (Write v) value c e h = absurd (cc)

-- ---- what a read gives was written

record Source (os : List Operation) (r : Operation) (value : List ℕ) : Type 0 where
  write : Operation
  there : Contains os write
  wrote : write.act ≡ Write value
  late : IsBefore r write → ⊥

source : (c : List ℕ) (os : List Operation) (r : Operation) (value : List ℕ) → ReadsLast c os → IsInTime os → Contains os r → r.act ≡ Read value → (value ≡ c) ⊎ Source os r value
source c [] r value last time k e = absurd (Contains-none r k)
source c (o ∷ os) r value last time k e =
    elim (Contains-cons_cases r o os k) [
      | inl q ↦ inl (given_now o.act value c (ap (λ (z : Operation). z.act) (sym q) ∙ e) last.0)
      | inr m ↦ after o.act refl m (source (value_after o.act c) os r value last.1 (rest_late o os time) m e)
    ]
  where
    later : Source os r value → Source (o ∷ os) r value
    later h = record { write = h.write; there = Contains-rest h.write o os h.there; wrote = h.wrote; late = h.late }

    after : (a : Act) → o.act ≡ a → Contains os r → (value ≡ value_after a c) ⊎ Source os r value → (value ≡ c) ⊎ Source (o ∷ os) r value
    after a g m (inr h) = inr (later h)
    after (Read v) g m (inl h) = inl h
    after (Write v) g m (inl h) = inr (record { write = o; there = Contains-head o os; wrote = g ∙ ap (λ (z : List ℕ). Write z) (sym h); late = first_late o os time r m })

-- ---- a fresh read

-- and hadn't ended before this operation began
record Newer (os : List Operation) (o r : Operation) (value : List ℕ) : Type 0 where
  from : Source os r value
  newer : IsBefore from.write o → ⊥

set : (a : Act) (c : List ℕ) → gives a c → value_after a c ≡ value_of a
set (Read v) c h = sym h
set (Write v) c h = refl

fresh : (c : List ℕ) (os : List Operation) (r o : Operation) (value : List ℕ) → ReadsLast c os → IsInTime os → Contains os r → Contains os o → r.act ≡ Read value → IsBefore o r → (value ≡ value_of o.act) ⊎ Newer os o r value
fresh c [] r o value last time k l e before = absurd (Contains-none r k)
fresh c (p ∷ os) r o value last time k l e before =
    let rest = fresh (value_after p.act c) os r o value last.1 (rest_late p os time) in
    elim (Contains-cons_cases o p os l) [
      | inl q ↦ elim (Contains-cons_cases r p os k) [
        | inl g ↦ inl (sym (ap value_of (ap (λ (z : Operation). z.act) (q ∙ sym g) ∙ e)))
        | inr m ↦ elim (source (value_after p.act c) os r value last.1 (rest_late p os time) m e) [
          | inl h ↦ inl (h ∙ set p.act c last.0 ∙ ap (λ (z : Operation). value_of z.act) (sym q))
          | inr h ↦ inr (record { from = later h; newer = λ b. first_late p os time h.write h.there (subst (λ (z : Operation). IsBefore h.write z) q b) })
        ]
      ]
      | inr n ↦ elim (Contains-cons_cases r p os k) [
        | inl g ↦ absurd (first_late p os time o n (subst (λ (z : Operation). IsBefore o z) g before))
        | inr m ↦ elim (rest m n e before) [ inl h ↦ inl h | inr h ↦ inr (record { from = later h.from; newer = h.newer }) ]
      ]
    ]
  where
    later : Source os r value → Source (p ∷ os) r value
    later h = record { write = h.write; there = Contains-rest h.write p os h.there; wrote = h.wrote; late = h.late }

-- ---- from the list to its order

member : {X : Type 0} (P : X → Type 0) (xs : List X) (x : X) → All P xs → Contains xs x → P x
member P xs x h k = subst P k.2 (h k.0 x k.1)

module _ (zeros : List ℕ) (ops : List Operation) (block : ℕ) (line : IsLinear zeros (on_block block ops)) where
  on : Operation → Bool
  on o = eqb o.block block

  stands : (o : Operation) (end : ℕ) → Contains ops o → o.block ≡ block → o.end ≡ Some end → Contains line.order o
  unfolding on
  stands o end k e f =
      let a = filter_has on ops o k (eq-eqb o.block block e) in
      let b = Contains-permutation (on_block block ops) (line.order ++ line.of_these.left_out) o line.of_these.all a in
      elim (Contains-append_cases line.order line.of_these.left_out o b) [
        | inl m ↦ m
        | inr m ↦ absurd (let n : o.end ≡ None = member (λ (z : Operation). z.end ≡ None) line.of_these.left_out o line.of_these.unended m in cc)
      ]

  pub comes : (o : Operation) → Contains line.order o → Contains ops o × (o.block ≡ block)
  unfolding on
  comes o k =
      let a = Contains-permutation (line.order ++ line.of_these.left_out) (on_block block ops) o (IsPermutation-sym _ _ line.of_these.all) (Contains-append_left line.order line.of_these.left_out o k) in
      let b = filter_is on ops o a in
      (b.0, eqb-true o.block block b.1)

  source_of : (r : Operation) (value : List ℕ) → r.block ≡ block → (h : Source line.order r value) → IsSource zeros ops r value h.write
  source_of r value e h = let c = comes h.write h.there in record { there = c.0; on_block = c.1 ∙ sym e; wrote = h.wrote; in_time = h.late }

pub reads_written : (zeros : List ℕ) (ops : List Operation) → ReadsAreWritten zeros ops
reads_written zeros ops r value lin has =
    let line = lin r.block in
    elim (source zeros line.order r value line.reads_last line.in_time (stands zeros ops r.block line r has.end has.there refl has.ended) has.gave) [
      | inl h ↦ inl h
      | inr h ↦ inr (h.write, source_of zeros ops r.block line r value refl h)
    ]

pub reads_fresh : (zeros : List ℕ) (ops : List Operation) → ReadsAreFresh zeros ops
reads_fresh zeros ops r value o lin has there on before =
    let line = lin r.block in
    let in_order = stands zeros ops r.block line r has.end has.there refl has.ended in
    let o_in = stands zeros ops r.block line o before.end there on before.ended in
    elim (fresh zeros line.order r o value line.reads_last line.in_time in_order o_in has.gave before) [
      | inl h ↦ inl h
      | inr h ↦ inr (h.from.write, source_of zeros ops r.block line r value refl h.from, h.newer)
    ]
