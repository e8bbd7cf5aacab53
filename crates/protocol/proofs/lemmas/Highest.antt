-- The k-th highest stands at or above whatever k of those given reach.
use Rattle.std.proofs.Common.{◌≡◌, ℕ, zero, suc, ◌+◌, ◌<◌, ◌≤◌, Bool, true, false, cond, ◌&&◌, refl, ◌⊎◌, inl, inr, arith, leb, Option}
use Rattle.std.specs.declared.option.Option.TheVariants.{None, Some}
use Rattle.std.proofs.lemmas.Bool.Decides.{nat_tests}
use Rattle.protocol.specs.Count.{count}
use Rattle.protocol.specs.Reach.{reaches, greater, greatest, reach, if_reached, highest, IsOrder}
use Rattle.protocol.proofs.lemmas.Counting.{count_shared, count_within, some_passes, both_true}

pub upto_last : (n : ℕ) (P : ℕ → Type 0) → ((k : ℕ) → k < n → P k) → P n → (k : ℕ) → k < suc n → P k
upto_last n P h last k l =
    let c : (k ≡ n) ⊎ (k < n) = grind arith in elim c [ inl e ↦ rw e last | inr m ↦ h k m ]

module _ {X : Type 0} (le : X → X → Bool) (o : IsOrder le) where
  abbrev Above : Option X → X → Type 0
  Above a x = (y : X) × (a ≡ Some y) × (le x y ≡ true)

  pick : (x t : X) (b : Bool) → le x t ≡ b → (y : X) × (greater le (Some x) (Some t) ≡ Some y) × (le x y ≡ true) × (le t y ≡ true)
  pick x t true e = (t, rw e refl, e, o.refl t)
  pick x t false e = (x, rw e refl, o.refl x, o.other x t e)

  greater_left : (x : X) (a : Option X) → Above (greater le (Some x) a) x
  greater_left x None = (x, refl, o.refl x)
  greater_left x (Some t) = let p = pick x t (le x t) refl in (p.0, p.1, p.2)

  greater_right : (a : Option X) (x : X) → Above (greater le a (Some x)) x
  greater_right None x = (x, refl, o.refl x)
  greater_right (Some t) x = let p = pick t x (le t x) refl in (p.0, p.1, p.3)

  top_last : (a p : Option X) (x : X) → p ≡ Some x → Above (greater le a p) x
  top_last a p x e = rw e (greater_right a x)

  top_before : (a p : Option X) (x : X) → Above a x → Above (greater le a p) x
  top_before a p x h =
      let r = greater_left h.0 p in
      (r.0, rw h.1 r.1, o.trans _ _ _ h.2 r.2)

  greatest_step : (k : ℕ) (f : ℕ → Option X) (i : ℕ) (x : X) → (i < k → Above (greatest le k f) x) → i < suc k → f i ≡ Some x → Above (greatest le (suc k) f) x
  greatest_step k f i x rest l e =
      let c : (i ≡ k) ⊎ (i < k) = grind arith in
      elim c [ inl h ↦ top_last (greatest le k f) (f k) x (rw h at e) | inr h ↦ top_before (greatest le k f) (f k) x (rest h) ]

  pub greatest_above : (n : ℕ) (f : ℕ → Option X) (i : ℕ) (x : X) → i < n → f i ≡ Some x → Above (greatest le n f) x
  greatest_above zero f i x l e = absurd (omega arith)
  greatest_above (suc k) f i x l e = greatest_step k f i x (λ h. greatest_above k f i x h e) l e

  -- what is greatest is one of those given
  from_one : (a p : Option X) (x : X) → greater le a p ≡ Some x → (a ≡ Some x) ⊎ (p ≡ Some x)
  from_one None p x e = inr e
  from_one (Some y) None x e = inl e
  from_one (Some y) (Some z) x e = one (le y z) e
    where
      one : (b : Bool) → cond b (Some z) (Some y) ≡ Some x → (Some y ≡ Some x) ⊎ (Some z ≡ Some x)
      one true h = inr h
      one false h = inl h

  pub greatest_given : (n : ℕ) (f : ℕ → Option X) (x : X) → greatest le n f ≡ Some x → (i : ℕ) × (i < n) × (f i ≡ Some x)
  greatest_given zero f x e = absurd (cc)
  greatest_given (suc k) f x e =
      let rest = greatest_given k f x in
      elim (from_one (greatest le k f) (f k) x e) [ inl h ↦ (let r = rest h in (r.0, omega (arith, r.1), r.2)) | inr h ↦ (k, omega arith, h) ]

  reaches_lower : (a c : X) (p : Option X) → le a c ≡ true → reaches le c p ≡ true → reaches le a p ≡ true
  reaches_lower a c None h k = k
  reaches_lower a c (Some v) h k = o.trans _ _ _ h k

  -- of those that reach x, one is least
  pub record Least (n : ℕ) (f : ℕ → Option X) (x : X) : Type 0 where
    pub at : ℕ
    pub given : X
    pub below : at < n
    pub is : f at ≡ Some given
    pub above : le x given ≡ true
    pub least : (k : ℕ) → k < n → reaches le x (f k) ≡ true → reaches le given (f k) ≡ true

  abbrev NoneReaches : ℕ → (ℕ → Option X) → X → Type 0
  NoneReaches n f x = (k : ℕ) → k < n → reaches le x (f k) ≡ true → ⊥

  least_new : (n : ℕ) (f : ℕ → Option X) (x v : X) → f n ≡ Some v → le x v ≡ true → ((k : ℕ) → k < n → reaches le x (f k) ≡ true → reaches le v (f k) ≡ true) → Least (suc n) f x
  least_new n f x v e h lower =
      record { at = n; given = v; below = omega arith; is = e; above = h; least = upto_last n (λ k. reaches le x (f k) ≡ true → reaches le v (f k) ≡ true) lower (λ r. rw e (o.refl v)) }

  least_old : (n : ℕ) (f : ℕ → Option X) (x : X) (old : Least n f x) → (reaches le x (f n) ≡ true → reaches le old.given (f n) ≡ true) → Least (suc n) f x
  least_old n f x old last =
      record { at = old.at; given = old.given; below = omega (arith, old.below); is = old.is; above = old.above; least = upto_last n (λ k. reaches le x (f k) ≡ true → reaches le old.given (f k) ≡ true) old.least last }

  least_choose : (n : ℕ) (f : ℕ → Option X) (x v : X) → f n ≡ Some v → le x v ≡ true → (old : Least n f x) → (b : Bool) → le old.given v ≡ b → Least (suc n) f x
  least_choose n f x v e h old true c = least_old n f x old (λ r. rw e c)
  least_choose n f x v e h old false c = least_new n f x v e h (λ k l r. reaches_lower _ _ (f k) (o.other _ _ c) (old.least k l r))

  least_step : (n : ℕ) (f : ℕ → Option X) (x : X) → (Least n f x ⊎ NoneReaches n f x) → (a : Option X) → f n ≡ a → (b : Bool) → reaches le x a ≡ b → Least (suc n) f x ⊎ NoneReaches (suc n) f x
  least_step n f x (inl old) a e false c = inl (least_old n f x old (λ r. absurd (let w : reaches le x (f n) ≡ false = rw e c in cc)))
  least_step n f x (inr none) a e false c = inr (upto_last n (λ k. reaches le x (f k) ≡ true → ⊥) none (λ r. let w : reaches le x (f n) ≡ false = rw e c in cc))
  least_step n f x (inl old) None e true c = absurd (cc)
  least_step n f x (inr none) None e true c = absurd (cc)
  least_step n f x (inl old) (Some v) e true c = inl (least_choose n f x v e c old (le old.given v) refl)
  least_step n f x (inr none) (Some v) e true c = inl (least_new n f x v e c (λ k l r. absurd (none k l r)))

  least_or_none : (n : ℕ) (f : ℕ → Option X) (x : X) → Least n f x ⊎ NoneReaches n f x
  least_or_none zero f x = inr (λ k l r. absurd (omega arith))
  least_or_none (suc n) f x = least_step n f x (least_or_none n f x) (f n) refl (reaches le x (f n)) refl

  pub least_reaching : (n : ℕ) (f : ℕ → Option X) (x : X) (i : ℕ) → i < n → reaches le x (f i) ≡ true → Least n f x
  least_reaching n f x i l e = elim (least_or_none n f x) [ inl h ↦ h | inr none ↦ absurd (none i l e) ]

  -- where at least k reach x, the k-th highest is x or above
  pub highest_reaches : (n k : ℕ) (f : ℕ → Option X) (x : X) → 0 < k → k ≤ reach le n f x → Above (highest le n f k) x
  highest_reaches n k f x pos h =
      let some = some_passes n (λ i. reaches le x (f i)) (omega arith) in
      let low = least_reaching n f x some.0 some.1 some.2 in
      let more : reach le n f x ≤ reach le n f low.given = count_within n (λ i. reaches le x (f i)) (λ i. reaches le low.given (f i)) low.least in
      let test : leb k (reach le n f low.given) ≡ true = grind (arith, nat_tests) in
      let e : if_reached le n f k (f low.at) ≡ Some low.given = rw (low.is, test) refl in
      let top = greatest_above n (λ i. if_reached le n f k (f i)) low.at low.given low.below e in
      (top.0, top.1, o.trans _ _ _ low.above top.2)

  -- where the members and those counted have k in common, and each such reaches x, the k-th highest is x or above
  pub highest_above : (n k : ℕ) (f : ℕ → Option X) (x : X) (members counted : ℕ → Bool) → 0 < k
      → n + k ≤ count n members + count n counted
      → ((i : ℕ) → i < n → members i ≡ true → counted i ≡ true → reaches le x (f i) ≡ true)
      → Above (highest le n f k) x
  highest_above n k f x members counted pos many each =
      let both = λ (i : ℕ). members i && counted i in
      let fit : count n both ≤ reach le n f x = count_within n both (λ i. reaches le x (f i)) (λ i l h. let c = both_true _ _ h in each i l c.0 c.1) in
      highest_reaches n k f x pos (omega (arith, count_shared n members counted, fit))

  if_reached_is : (n k : ℕ) (f : ℕ → Option X) (a : Option X) (x : X) → if_reached le n f k a ≡ Some x → (a ≡ Some x) × (k ≤ reach le n f x)
  if_reached_is n k f None x e = absurd (cc)
  if_reached_is n k f (Some y) x e = at (leb k (reach le n f y)) refl
    where
      at : (b : Bool) → leb k (reach le n f y) ≡ b → (Some y ≡ Some x) × (k ≤ reach le n f x)
      at true t =
          let w : Some y ≡ Some x = rw t at e in
          let r : k ≤ reach le n f y = grind (arith, nat_tests) in
          let same : y ≡ x = cc in
          (w, rw same at r)
      at false t = absurd (let w : None ≡ Some x = rw t at e in cc)

  -- the k-th highest is one of those given, and k reach it
  pub highest_is : (n k : ℕ) (f : ℕ → Option X) (x : X) → highest le n f k ≡ Some x → (i : ℕ) × (i < n) × (f i ≡ Some x) × (k ≤ reach le n f x)
  highest_is n k f x e =
      let g = greatest_given n (λ i. if_reached le n f k (f i)) x e in
      let r = if_reached_is n k f (f g.0) x g.2 in
      (g.0, g.1, r.0, r.1)
