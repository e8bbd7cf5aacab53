-- An order of operations, put together from its end: which one comes first, and which writes that were never acknowledged are still to come.
use Rattle.std.proofs.Common.{◌≡◌, ℕ, ◌<◌, List, [], ◌∷◌, ◌++◌, get_or, sym, ap, subst, inl, inr, arith}
use Rattle.std.specs.declared.option.Option.TheVariants.{None}
use Rattle.std.specs.List.{All, Contains}
use Rattle.std.specs.List.Sorted.{IsPermutation}
use Rattle.std.proofs.lemmas.List.{append-nil, append_assoc}
use Rattle.std.proofs.lemmas.List.Elements.{Contains-get_or, Contains-append_left}
use Rattle.std.proofs.lemmas.List.Kept.{AllPairs-cons}
use Rattle.std.proofs.lemmas.List.Sorted.{IsPermutation-refl, IsPermutation-sym, IsPermutation-trans, IsPermutation-cons, IsPermutation-middle, Contains-permutation}
use Rattle.lists.proofs.lemmas.Members.{Contains-none, Contains-cons_cases}
use Rattle.linear_runs.specs.Linear.{Operation, IsBefore, IsInTime, IsLinear, ReadsLast, gives, value_after}

-- An order of operations, of which those that are pending may be left out, and others without an end: from this value on each read gives
-- what was last written.
pub record IsPlaced (value : List ℕ) (pending ops : List Operation) : Type 0 where
  pub order : List Operation
  pub left_out : List Operation
  pub all : IsPermutation (pending ++ ops) (order ++ left_out)
  pub unended : (o : Operation) → Contains left_out o → o.end ≡ None
  pub in_time : IsInTime order
  pub reads_last : ReadsLast value order

all_of : {X : Type 0} (P : X → Type 0) (xs : List X) → ((x : X) → Contains xs x → P x) → All P xs
all_of P xs h k d l = h (get_or xs k d) (Contains-get_or xs k d l)

-- nothing but what is pending
pub none_placed : (value : List ℕ) (pending : List Operation) → ((o : Operation) → Contains pending o → o.end ≡ None)
    → IsPlaced value pending []
none_placed value pending waits = record {
  order = [];
  left_out = pending;
  all = subst (λ (os : List Operation). IsPermutation os pending) (sym (append-nil pending)) (IsPermutation-refl pending);
  unended = waits;
  in_time = λ i j d less below. absurd (let l : j < 0 = below in omega (arith, l));
  reads_last = tt;
}

-- one more comes first
pub placed_first : (o : Operation) (value after : List ℕ) (pending ops pending' ops' : List Operation)
    → IsPermutation (pending ++ ops) (o ∷ (pending' ++ ops')) → gives o.act value → value_after o.act value ≡ after
    → ((p : Operation) → Contains (pending' ++ ops') p → IsBefore p o → ⊥)
    → IsPlaced after pending' ops' → IsPlaced value pending ops
placed_first o value after pending ops pending' ops' moved fits sets first rest = record {
  order = o ∷ rest.order;
  left_out = rest.left_out;
  all =
      IsPermutation-trans (pending ++ ops) (o ∷ (pending' ++ ops')) (o ∷ (rest.order ++ rest.left_out)) moved
      (IsPermutation-cons o (pending' ++ ops') (rest.order ++ rest.left_out) rest.all);
  unended = rest.unended;
  in_time =
      AllPairs-cons (λ (earlier later : Operation). IsBefore later earlier → ⊥) o rest.order
      (all_of (λ (later : Operation). IsBefore later o → ⊥) rest.order (λ p there. first p
      (Contains-permutation (rest.order ++ rest.left_out) (pending' ++ ops') p
      (IsPermutation-sym (pending' ++ ops') (rest.order ++ rest.left_out) rest.all)
      (Contains-append_left rest.order rest.left_out p there))))
      rest.in_time;
  reads_last = (fits, subst (λ (v : List ℕ). ReadsLast v rest.order) (sym sets) rest.reads_last);
}

-- one more is pending
pub placed_pending : (o : Operation) (value : List ℕ) (pending ops : List Operation) → IsPlaced value (o ∷ pending) ops
    → IsPlaced value pending (o ∷ ops)
placed_pending o value pending ops rest = record {
  order = rest.order;
  left_out = rest.left_out;
  all =
      IsPermutation-trans (pending ++ o ∷ ops) (o ∷ (pending ++ ops)) (rest.order ++ rest.left_out) (IsPermutation-middle pending o ops)
      rest.all;
  unended = rest.unended;
  in_time = rest.in_time;
  reads_last = rest.reads_last;
}

-- the next one
pub placed_next : (o : Operation) (value after : List ℕ) (pending ops : List Operation) → gives o.act value → value_after o.act value ≡ after
    → ((p : Operation) → Contains (pending ++ ops) p → IsBefore p o → ⊥)
    → IsPlaced after pending ops → IsPlaced value pending (o ∷ ops)
placed_next o value after pending ops fits sets first rest =
    placed_first o value after pending (o ∷ ops) pending ops (IsPermutation-middle pending o ops) fits sets first rest

-- one that was pending
pub placed_then : (o : Operation) (value after : List ℕ) (front back ops : List Operation) → gives o.act value → value_after o.act value ≡ after
    → ((p : Operation) → Contains ((front ++ back) ++ ops) p → IsBefore p o → ⊥)
    → IsPlaced after (front ++ back) ops → IsPlaced value (front ++ o ∷ back) ops
placed_then o value after front back ops fits sets first rest =
    placed_first o value after (front ++ o ∷ back) ops (front ++ back) ops
    (subst (λ (os : List Operation). IsPermutation os (o ∷ ((front ++ back) ++ ops))) (sym (append_assoc front (o ∷ back) ops))
    (subst (λ (os : List Operation). IsPermutation (front ++ o ∷ (back ++ ops)) (o ∷ os)) (sym (append_assoc front back ops))
    (IsPermutation-middle front o (back ++ ops))))
    fits sets first rest

-- where nothing was pending
pub placed_linear : (value : List ℕ) (ops : List Operation) → IsPlaced value [] ops → IsLinear value ops
placed_linear value ops p = record {
  order = p.order;
  of_these = record { left_out = p.left_out; all = p.all; unended = all_of (λ (o : Operation). o.end ≡ None) p.left_out p.unended };
  in_time = p.in_time;
  reads_last = p.reads_last;
}

-- a member, with those before it and after it
pub parted : {X : Type 0} (xs : List X) (x : X) → Contains xs x → (front : List X) × (back : List X) × (xs ≡ front ++ x ∷ back)
parted [] x h = absurd (Contains-none x h)
parted {X} (y ∷ ys) x h =
    let rest = parted ys x in
    elim (Contains-cons_cases x y ys h) [
      | inl e ↦ ([], ys, ap (λ (z : X). z ∷ ys) (sym e))
      | inr k ↦ (let r = rest k in (y ∷ r.0, r.1, ap (λ (zs : List X). y ∷ zs) r.2))
    ]
