-- What enough of the given things reach, in an order told by a test.
use Rattle.std.specs.Prelude.{◌≡◌, ℕ, zero, suc, Bool, true, false, cond, nat_le, Option}
use Rattle.std.specs.declared.option.Option.TheVariants.{None, Some}
use Rattle.protocol.specs.Count.{count, kept_where}

module _ {X : Type 0} (le : X → X → Bool) where
  -- it is there and is at least x
  abbrev pub reaches : X → Option X → Bool
  reaches x None = false
  reaches x (Some y) = le x y

  -- the greater of the two, where there are two
  abbrev pub greater : Option X → Option X → Option X
  greater None y = y
  greater (Some x) None = Some x
  greater (Some x) (Some y) = cond (le x y) (Some y) (Some x)

  -- the greatest that f gives at the numbers below n
  abbrev pub greatest : ℕ → (ℕ → Option X) → Option X
  greatest zero f = None
  greatest (suc k) f = greater (greatest k f) (f k)

  module _ (n : ℕ) (f : ℕ → Option X) where
    -- how many of those given are at least x
    abbrev pub reach : X → ℕ
    reach x = count n (λ i. reaches x (f i))

    -- the one that is given, if at least k reach it
    abbrev pub if_reached : ℕ → Option X → Option X
    if_reached k None = None
    if_reached k (Some x) = kept_where (nat_le k (reach x)) x

    -- the greatest of those given that at least k of them reach: the k-th highest
    abbrev pub highest : ℕ → Option X
    highest k = greatest n (λ i. if_reached k (f i))

  -- the test is an order in which any two can be compared
  pub record IsOrder : Type 0 where
    pub refl : (x : X) → le x x ≡ true
    pub trans : (x y z : X) → le x y ≡ true → le y z ≡ true → le x z ≡ true
    pub other : (x y : X) → le x y ≡ false → le y x ≡ true
