-- Operations whose places are read as the numbers of turns stay linearizable.
use Rattle.std.proofs.Common.{◌≡◌, ◌⊎◌, ℕ, suc, ◌<◌, ◌≤◌, ◌++◌, Bool, true, false, cond, ltb, map, List, [], ◌∷◌, Option, refl, ap, inl, inr, arith}
use Rattle.std.specs.declared.option.Option.TheVariants.{None, Some}
use Rattle.std.proofs.lemmas.Bool.{cases_lt, ltb-true, lt-ltb}
use Rattle.std.proofs.lemmas.List.{map-append}
use Rattle.std.proofs.lemmas.List.Elements.{All-map}
use Rattle.std.proofs.lemmas.List.Sorted.{IsPermutation-map}
use Rattle.linear_runs.specs.Linear.{Operation, IsBefore, IsLinear, ReadsLast, value_after}
use Rattle.linear_runs.proofs.lemmas.Orders.{pairs_map}

-- a place, if there is one, read as a number
abbrev pub read_as : (ℕ → ℕ) → Option ℕ → Option ℕ
read_as f None = None
read_as f (Some place) = Some (f place)

-- the operation, with its places read so
abbrev pub renumbered : (ℕ → ℕ) → Operation → Operation
renumbered f o = record { block = o.block; act = o.act; client = o.client; start = read_as f o.start; end = read_as f o.end }

read_back : (f : ℕ → ℕ) (z : Option ℕ) (n : ℕ) → read_as f z ≡ Some n → (place : ℕ) × (z ≡ Some place) × (f place ≡ n)
read_back f None n e = absurd (cc)
read_back f (Some place) n e = (place, refl, cc)

-- the numbers rise with the places
abbrev pub Rises : (ℕ → ℕ) → Type 0
Rises f = (p q : ℕ) → p ≤ q → f p ≤ f q

module _ (f : ℕ → ℕ) (rises : Rises f) where
  before_back : (o p : Operation) → IsBefore (renumbered f o) (renumbered f p) → IsBefore o p
  before_back o p b =
      let x = read_back f o.end b.end b.ended in
      let y = read_back f p.start b.start b.began in
      record { end = x.0; ended = x.1; start = y.0; began = y.1; earlier = at x.0 y.0 x.2 y.2 (cases_lt x.0 y.0) }
    where
      at : (m n : ℕ) → f m ≡ b.end → f n ≡ b.start → (m < n) ⊎ (n ≤ m) → m < n
      at m n e g (inl l) = l
      at m n e g (inr l) = let h = rises n m l in let k = b.earlier in absurd (omega (arith, h, k, e, g))

  reads_same : (value : List ℕ) (os : List Operation) → ReadsLast value os → ReadsLast value (map (renumbered f) os)
  reads_same value [] h = tt
  reads_same value (o ∷ os) h = (h.0, reads_same (value_after o.act value) os h.1)

  pub linear_renumbered : (zeros : List ℕ) (ops : List Operation) → IsLinear zeros ops → IsLinear zeros (map (renumbered f) ops)
  linear_renumbered zeros ops lin = record {
    order = map (renumbered f) lin.order;
    of_these = record {
      left_out = map (renumbered f) lin.of_these.left_out;
      all = rw (← map-append) (IsPermutation-map (renumbered f) ops (lin.order ++ lin.of_these.left_out) lin.of_these.all);
      unended = All-map (λ o. o.end ≡ None) (renumbered f) lin.of_these.left_out (λ k d l. ap (read_as f) (lin.of_these.unended k d l));
    };
    in_time =
        pairs_map (renumbered f) (λ earlier later. IsBefore later earlier → ⊥) lin.order
        (λ i j d l m b. lin.in_time i j d l m (before_back _ _ b));
    reads_last = reads_same zeros lin.order lin.reads_last;
  }

-- ---- the number of a turn

-- Which turn a place is in, of turns that end before these places; the first of them is number j.
abbrev pub turn_at : List ℕ → ℕ → ℕ → ℕ
turn_at [] j place = j
turn_at (limit ∷ limits) j place = cond (ltb place limit) j (turn_at limits (suc j) place)

pub turn_first : (limit : ℕ) (limits : List ℕ) (j place : ℕ) → place < limit → turn_at (limit ∷ limits) j place ≡ j
turn_first limit limits j place l = rw (lt-ltb place limit l) refl

pub turn_later : (limit : ℕ) (limits : List ℕ) (j place : ℕ) → limit ≤ place
    → turn_at (limit ∷ limits) j place ≡ turn_at limits (suc j) place
turn_later limit limits j place l = at (ltb place limit) refl
  where
    at : (b : Bool) → ltb place limit ≡ b → cond b j (turn_at limits (suc j) place) ≡ turn_at limits (suc j) place
    at true e = let k = ltb-true place limit e in absurd (omega (arith, k, l))
    at false e = refl

turn_up : (limits : List ℕ) (j place : ℕ) → j ≤ turn_at limits j place
turn_up [] j place = omega arith
turn_up (limit ∷ limits) j place = at (ltb place limit) (turn_up limits (suc j) place)
  where
    at : (b : Bool) → suc j ≤ turn_at limits (suc j) place → j ≤ cond b j (turn_at limits (suc j) place)
    at true h = omega arith
    at false h = omega (arith, h)

pub turns_rise : (limits : List ℕ) (j : ℕ) → Rises (turn_at limits j)
turns_rise [] j p q l = omega arith
turns_rise (limit ∷ limits) j p q l = at (cases_lt p limit) (cases_lt q limit) (turns_rise limits (suc j) p q l)
  where
    at : (p < limit) ⊎ (limit ≤ p) → (q < limit) ⊎ (limit ≤ q) → turn_at limits (suc j) p ≤ turn_at limits (suc j) q
        → turn_at (limit ∷ limits) j p ≤ turn_at (limit ∷ limits) j q
    at (inl a) (inl b) h = rw (turn_first limit limits j p a, turn_first limit limits j q b) (omega arith)
    at (inl a) (inr b) h =
        rw (turn_first limit limits j p a, turn_later limit limits j q b) (let k = turn_up limits (suc j) q in omega (arith, k))
    at (inr a) (inl b) h = absurd (omega (arith, a, b, l))
    at (inr a) (inr b) h = rw (turn_later limit limits j p a, turn_later limit limits j q b) h
