-- Sums and products of elements, and polynomials by Horner's rule.
use Rattle.std.proofs.Common.{◌≡◌, ◌≢◌, ℕ, zero, suc, ◌<◌, inl, inr, List, [], ◌∷◌, length, get_or, refl, sym, ap, ◌∙◌, arith}
use Rattle.std.specs.Int.Bits.{bit_xor, xor_assoc, xor_zero_l, xor_zero_r}
use Rattle.std.proofs.lemmas.Nat.{xor_lt}
use Rattle.std.proofs.lemmas.Bool.{cases_eq}
use Rattle.gf_field.specs.Field.{product, power}
use Rattle.gf_field.specs.Polynomials.{sum_below, value_at, horner, AreElements}
use Rattle.gf_field.specs.Interpolation.{product_below}
use Rattle.gf_field.proofs.lemmas.Additive.{xor_middle, product-xor_right}
use Rattle.gf_field.proofs.lemmas.FieldLaws.{product_comm, product_assoc, product-zero_left, product-zero_right, product-one_right, product-lt, product-eq-zero, power-lt}

pub total-lt : (a b : ℕ) → a < 256 → b < 256 → bit_xor a b < 256
total-lt a b ha hb = xor_lt 8 a b ha hb

pub sum_below-none : (f : ℕ → ℕ) → sum_below 0 f ≡ 0
unfolding sum_below
sum_below-none f = refl

pub sum_below-more : (n : ℕ) (f : ℕ → ℕ) → sum_below (suc n) f ≡ bit_xor (sum_below n f) (f n)
unfolding sum_below
sum_below-more n f = refl

pub sum_below-lt : (n : ℕ) (f : ℕ → ℕ) → ((k : ℕ) → k < n → f k < 256) → sum_below n f < 256
unfolding sum_below
sum_below-lt zero f h = omega arith
sum_below-lt (suc n) f h = total-lt (sum_below n f) (f n) (sum_below-lt n f (λ k hk. h k (omega arith))) (h n (omega arith))

pub sum_below-same : (n : ℕ) (f g : ℕ → ℕ) → ((k : ℕ) → k < n → f k ≡ g k) → sum_below n f ≡ sum_below n g
unfolding sum_below
sum_below-same zero f g h = refl
sum_below-same (suc n) f g h =
    let rest = sum_below-same n f g (λ k hk. h k (omega arith)) in
    let last = h n (omega arith) in cc

pub sum_below-zero : (n : ℕ) (f : ℕ → ℕ) → ((k : ℕ) → k < n → f k ≡ 0) → sum_below n f ≡ 0
unfolding sum_below
sum_below-zero zero f h = refl
sum_below-zero (suc n) f h =
    ap (λ s. bit_xor s (f n)) (sum_below-zero n f (λ k hk. h k (omega arith))) ∙ xor_zero_l (f n) ∙ h n (omega arith)

-- where all but one are 0
pub sum_below-single : (n i : ℕ) (f : ℕ → ℕ) → i < n → ((k : ℕ) → k < n → k ≢ i → f k ≡ 0) → sum_below n f ≡ f i
unfolding sum_below
sum_below-single zero i f hi h = absurd (omega arith)
sum_below-single (suc n) i f hi h =
    elim (cases_eq n i) [
      | inl last ↦
          ap (λ s. bit_xor s (f n)) (sum_below-zero n f (λ k hk. h k (omega arith) (let ne : k ≢ i = omega arith in ne)))
          ∙ xor_zero_l (f n) ∙ ap f last
      | inr other ↦
          ap (bit_xor (sum_below n f)) (h n (omega arith) other) ∙ xor_zero_r (sum_below n f)
          ∙ sum_below-single n i f (omega arith) (λ k hk. h k (omega arith))
    ]

pub sum_below-total : (n : ℕ) (f g : ℕ → ℕ) → sum_below n (λ k. bit_xor (f k) (g k)) ≡ bit_xor (sum_below n f) (sum_below n g)
unfolding sum_below
sum_below-total zero f g = refl
sum_below-total (suc n) f g =
    ap (λ s. bit_xor s (bit_xor (f n) (g n))) (sum_below-total n f g) ∙ xor_middle (sum_below n f) (sum_below n g) (f n) (g n)

pub product-sum_below : (x n : ℕ) (f : ℕ → ℕ) → product x (sum_below n f) ≡ sum_below n (λ k. product x (f k))
unfolding sum_below
product-sum_below x zero f = product-zero_right x
product-sum_below x (suc n) f =
    product-xor_right x (sum_below n f) (f n) ∙ ap (λ s. bit_xor s (product x (f n))) (product-sum_below x n f)

-- the first one apart
pub sum_below-first : (n : ℕ) (f : ℕ → ℕ) → sum_below (suc n) f ≡ bit_xor (f 0) (sum_below n (λ k. f (suc k)))
unfolding sum_below
sum_below-first zero f = xor_zero_l (f 0) ∙ sym (xor_zero_r (f 0))
sum_below-first (suc n) f =
    ap (λ s. bit_xor s (f (suc n))) (sum_below-first n f) ∙ xor_assoc (f 0) (sum_below n (λ k. f (suc k))) (f (suc n))

-- products
pub product_below-none : (f : ℕ → ℕ) → product_below 0 f ≡ 1
unfolding product_below
product_below-none f = refl

pub product_below-more : (n : ℕ) (f : ℕ → ℕ) → product_below (suc n) f ≡ product (product_below n f) (f n)
unfolding product_below
product_below-more n f = refl

pub product_below-lt : (n : ℕ) (f : ℕ → ℕ) → ((k : ℕ) → k < n → f k < 256) → product_below n f < 256
unfolding product_below
product_below-lt zero f h = omega arith
product_below-lt (suc n) f h = product-lt (product_below n f) (f n) (product_below-lt n f (λ k hk. h k (omega arith))) (h n (omega arith))

pub product_below-zero : (n i : ℕ) (f : ℕ → ℕ) → i < n → f i ≡ 0 → product_below n f ≡ 0
unfolding product_below
product_below-zero zero i f hi h = absurd (omega arith)
product_below-zero (suc n) i f hi h =
    elim (cases_eq n i) [
      | inl last ↦ ap (product (product_below n f)) (ap f last ∙ h) ∙ product-zero_right (product_below n f)
      | inr other ↦ ap (λ p. product p (f n)) (product_below-zero n i f (omega arith) h) ∙ product-zero_left (f n)
    ]

pub product_below-positive : (n : ℕ) (f : ℕ → ℕ) → ((k : ℕ) → k < n → f k < 256) → ((k : ℕ) → k < n → 0 < f k) → 0 < product_below n f
unfolding product_below
product_below-positive zero f small h = omega arith
product_below-positive (suc n) f small h =
    let rest = product_below-positive n f (λ k hk. small k (omega arith)) (λ k hk. h k (omega arith)) in
    let last = h n (omega arith) in
    let restlt = product_below-lt n f (λ k hk. small k (omega arith)) in
    elim (cases_eq (product (product_below n f) (f n)) 0) [
      | inl none ↦ elim (product-eq-zero (product_below n f) (f n) restlt (small n (omega arith)) none) [ inl a ↦ absurd (omega arith) | inr b ↦ absurd (omega arith) ]
      | inr some ↦ omega arith
    ]

-- Horner's rule
pub value_at-lt : (c : List ℕ) (x : ℕ) → AreElements c → x < 256 → value_at c x < 256
unfolding value_at
value_at-lt c x h hx = sum_below-lt (length c) _ (λ k hk. product-lt _ _ (h k 0 hk) (power-lt x k hx))

tail_elements : (c : ℕ) (cs : List ℕ) → AreElements (c ∷ cs) → AreElements cs
tail_elements c cs h = λ k d hk. h (suc k) d (omega arith)

head_element : (c : ℕ) (cs : List ℕ) → AreElements (c ∷ cs) → c < 256
head_element c cs h = h 0 0 (omega arith)

swap_out : (x c p : ℕ) → x < 256 → c < 256 → p < 256 → product c (product x p) ≡ product x (product c p)
swap_out x c p hx hc hp =
    sym (product_assoc c x p hc hx hp) ∙ ap (λ z. product z p) (product_comm c x hc hx) ∙ product_assoc x c p hx hc hp

pub horner-value_at : (c : List ℕ) (x : ℕ) → AreElements c → x < 256 → horner c x ≡ value_at c x
unfolding value_at power
horner-value_at [] x h hx = sym (sum_below-none _)
horner-value_at (c ∷ cs) x h hx =
    let inner : sum_below (length cs) (λ k. product (get_or cs k 0) (product x (power x k))) ≡ product x (value_at cs x) =
    sum_below-same (length cs) _ (λ k. product x (product (get_or cs k 0) (power x k)))
    (λ k hk. swap_out x (get_or cs k 0) (power x k) hx (tail_elements c cs h k 0 hk) (power-lt x k hx))
    ∙ sym (product-sum_below x (length cs) (λ k. product (get_or cs k 0) (power x k))) in
    ap (bit_xor c) (ap (product x) (horner-value_at cs x (tail_elements c cs h) hx))
    ∙ sym (sum_below-first (length cs) (λ k. product (get_or (c ∷ cs) k 0) (power x k))
    ∙ ap (λ z. bit_xor z (sum_below (length cs) (λ k. product (get_or cs k 0) (product x (power x k))))) (product-one_right c (head_element c cs h))
    ∙ ap (bit_xor c) inner)
