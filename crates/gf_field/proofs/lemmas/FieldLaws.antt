-- The laws of the field.
use Rattle.std.proofs.Common.{◌≡◌, ℕ, zero, suc, ◌+◌, ◌*◌, ◌/◌, ◌%◌, ◌-◌, ◌^◌, ◌<◌, ◌≤◌, Bool, true, false, refl, sym, ◌∙◌, ap, arith, add-one, zero-add, ◌⊎◌, inl, inr}
use Rattle.std.specs.Prelude.{nat_eq, nat_lt, ◌||◌, ◌&&◌, if◌then◌else◌}
use Rattle.std.specs.Int.Bits.{bit_xor, xor_self, xor_assoc, xor_zero_l}
use Rattle.std.proofs.lemmas.Nat.{xor_comm, xor_lt, mod_below, div-add-mod'}
use Rattle.std.proofs.Math.Nat.{zero-mul, one-mul, pow-suc, mul-le-mul_right}
use Rattle.std.proofs.lemmas.Bool.{eqb-true, or_cases, and_parts, ltb-true, lt-ltb, le-ltb}
use Rattle.gf_field.specs.Field.{product, power, inverse, inverse_steps}
use Rattle.gf_field.proofs.lemmas.Additive.{product-xor_left, product-xor_right, xor-double}
use Rattle.gf_field.proofs.lemmas.Basis.{from_basis, split_bit, each_below, each_below_at, each_pair, each_pair_at, each_triple, each_triple_at}

-- the sum of two gives the sum of what f makes of them
abbrev pub IsAdditive : (ℕ → ℕ) → Type 0
IsAdditive f = (a b : ℕ) → f (bit_xor a b) ≡ bit_xor (f a) (f b)

-- an additive function is 0 at 0
pub additive-zero : (f : ℕ → ℕ) → IsAdditive f → f 0 ≡ 0
additive-zero f h = h 0 0 ∙ xor_self (f 0)

-- two additive functions that agree at the first n powers of two agree at each number below 2 ^ n
pub additive_agree : (n : ℕ) (f g : ℕ → ℕ) → IsAdditive f → IsAdditive g → ((i : ℕ) → i < n → f (2 ^ i) ≡ g (2 ^ i)) → (x : ℕ) → x < 2 ^ n → f x ≡ g x
additive_agree n f g hf hg basis x h =
    from_basis (λ n. f n ≡ g n) (additive-zero f hf ∙ sym (additive-zero g hg))
    (λ a b l r. hf a b ∙ ap (λ n. bit_xor n (f b)) l ∙ ap (bit_xor (g a)) r ∙ sym (hg a b))
    n basis x h

-- one additive function of another
pub additive-then : (f g : ℕ → ℕ) → IsAdditive f → IsAdditive g → IsAdditive (λ x. g (f x))
additive-then f g hf hg a b = ap g (hf a b) ∙ hg (f a) (f b)

left : (b : ℕ) → IsAdditive (λ a. product a b)
left b a c = product-xor_left a c b

right : (a : ℕ) → IsAdditive (λ b. product a b)
right a b c = product-xor_right a b c

-- commutative
abbrev comm_at : ℕ → ℕ → Bool
comm_at i j = nat_eq (product (2 ^ i) (2 ^ j)) (product (2 ^ j) (2 ^ i))

comm_test : each_pair comm_at 8 ≡ true
unfolding product
comm_test = refl

pub product_comm : (a b : ℕ) → a < 256 → b < 256 → product a b ≡ product b a
product_comm a b ha hb =
    additive_agree 8 (λ x. product x b) (λ x. product b x) (left b) (right b)
    (λ i hi. additive_agree 8 (λ y. product (2 ^ i) y) (λ y. product y (2 ^ i)) (right (2 ^ i)) (left (2 ^ i))
    (λ j hj. eqb-true _ _ (each_pair_at comm_at 8 comm_test i j hi hj)) b hb) a ha

-- associative
abbrev assoc_at : ℕ → ℕ → ℕ → Bool
assoc_at i j k = nat_eq (product (product (2 ^ i) (2 ^ j)) (2 ^ k)) (product (2 ^ i) (product (2 ^ j) (2 ^ k)))

assoc_test : each_triple assoc_at 8 ≡ true
unfolding product
assoc_test = refl

pub product_assoc : (a b c : ℕ) → a < 256 → b < 256 → c < 256 → product (product a b) c ≡ product a (product b c)
product_assoc a b c ha hb hc =
    additive_agree 8 (λ x. product (product x b) c) (λ x. product x (product b c))
    (additive-then (λ x. product x b) (λ x. product x c) (left b) (left c)) (left (product b c))
    (λ i hi. additive_agree 8 (λ y. product (product (2 ^ i) y) c) (λ y. product (2 ^ i) (product y c))
    (additive-then (λ y. product (2 ^ i) y) (λ x. product x c) (right (2 ^ i)) (left c))
    (additive-then (λ y. product y c) (λ x. product (2 ^ i) x) (left c) (right (2 ^ i)))
    (λ j hj. additive_agree 8 (λ z. product (product (2 ^ i) (2 ^ j)) z) (λ z. product (2 ^ i) (product (2 ^ j) z))
    (right (product (2 ^ i) (2 ^ j)))
    (additive-then (λ z. product (2 ^ j) z) (λ x. product (2 ^ i) x) (right (2 ^ j)) (right (2 ^ i)))
    (λ k hk. eqb-true _ _ (each_triple_at assoc_at 8 assoc_test i j k hi hj hk)) c hc) b hb) a ha

-- an element
abbrev element_at : ℕ → ℕ → Bool
element_at i j = nat_lt (product (2 ^ i) (2 ^ j)) 256

element_test : each_pair element_at 8 ≡ true
unfolding product
element_test = refl

-- one
abbrev one_at : ℕ → Bool
one_at i = nat_eq (product 1 (2 ^ i)) (2 ^ i)

one_test : each_below one_at 8 ≡ true
unfolding product
one_test = refl

pub product-one_left : (a : ℕ) → a < 256 → product 1 a ≡ a
product-one_left a ha =
    additive_agree 8 (λ x. product 1 x) (λ x. x) (right 1) (λ a b. refl)
    (λ i hi. eqb-true _ _ (each_below_at one_at 8 one_test i hi)) a ha

pub product-one_right : (a : ℕ) → a < 256 → product a 1 ≡ a
product-one_right a ha = product_comm a 1 ha (omega arith) ∙ product-one_left a ha

pub product-zero_left : (b : ℕ) → product 0 b ≡ 0
product-zero_left b = additive-zero (λ x. product x b) (left b)

pub product-zero_right : (a : ℕ) → product a 0 ≡ 0
product-zero_right a = additive-zero (λ x. product a x) (right a)

pub inverse-begins : (a : ℕ) → inverse_steps 7 a 1 ≡ inverse a
unfolding inverse
inverse-begins a = refl

pub inverse-goes_on : (n k square out : ℕ) → n ≡ suc k → inverse_steps n square out ≡ inverse_steps k (product square square) (product out (product square square))
unfolding inverse_steps
inverse-goes_on n k square out e = ap (λ m. inverse_steps m square out) e

pub inverse-ends : (square out : ℕ) → inverse_steps 0 square out ≡ out
unfolding inverse_steps
inverse-ends square out = refl

abbrev inverse_at : ℕ → Bool
inverse_at a = nat_eq a 0 || (nat_lt (inverse a) 256 && nat_eq (product a (inverse a)) 1)

inverse_test : each_below inverse_at 256 ≡ true
unfolding product inverse inverse_steps
inverse_test = refl

inverse_cases : (a : ℕ) → a < 256 → (a ≡ 0) ⊎ ((inverse a < 256) × (product a (inverse a) ≡ 1))
inverse_cases a ha =
    elim (or_cases (nat_eq a 0) (nat_lt (inverse a) 256 && nat_eq (product a (inverse a)) 1) (each_below_at inverse_at 256 inverse_test a ha)) [
      | inl none ↦ inl (eqb-true a 0 none)
      | inr some ↦ let both = and_parts _ _ some in inr (ltb-true _ _ both.0, eqb-true _ _ both.1)
    ]

pub inverse-lt : (a : ℕ) → 0 < a → a < 256 → inverse a < 256
inverse-lt a pos ha = elim (inverse_cases a ha) [ inl none ↦ absurd (omega arith) | inr some ↦ some.0 ]

pub product-inverse : (a : ℕ) → 0 < a → a < 256 → product a (inverse a) ≡ 1
product-inverse a pos ha = elim (inverse_cases a ha) [ inl none ↦ absurd (omega arith) | inr some ↦ some.1 ]

-- no zero divisors
pub product-eq-zero : (a b : ℕ) → a < 256 → b < 256 → product a b ≡ 0 → (a ≡ 0) ⊎ (b ≡ 0)
product-eq-zero a b ha hb h =
    elim (inverse_cases a ha) [
      | inl none ↦ inl none
      | inr some ↦ inr (
          sym (product-one_left b hb)
          ∙ ap (λ x. product x b) (sym some.1 ∙ product_comm a (inverse a) ha some.0)
          ∙ product_assoc (inverse a) a b some.0 ha hb
          ∙ ap (product (inverse a)) h
          ∙ product-zero_right (inverse a))
    ]

-- the code's step
abbrev pub doubled : ℕ → ℕ
doubled x = if nat_lt x 128 then 2 * x else bit_xor (2 * (x - 128)) 0x1D

abbrev doubled_at : ℕ → Bool
doubled_at x = nat_eq (doubled x) (product 2 x)

doubled_test : each_below doubled_at 256 ≡ true
unfolding product
doubled_test = refl

pub doubled-product : (x : ℕ) → x < 256 → doubled x ≡ product 2 x
doubled-product x hx = eqb-true _ _ (each_below_at doubled_at 256 doubled_test x hx)

-- 2 may be moved from one factor to the other
abbrev move_at : ℕ → ℕ → Bool
move_at i j = nat_lt 6 j || nat_eq (product (2 ^ i) (2 * 2 ^ j)) (product (product 2 (2 ^ i)) (2 ^ j))

move_test : each_pair move_at 8 ≡ true
unfolding product
move_test = refl

move_two_basis : (x : ℕ) → x < 256 → (j : ℕ) → j < 7 → product x (2 * 2 ^ j) ≡ product (product 2 x) (2 ^ j)
move_two_basis x hx j hj =
    additive_agree 8 (λ y. product y (2 * 2 ^ j)) (λ y. product (product 2 y) (2 ^ j)) (left (2 * 2 ^ j))
    (additive-then (λ y. product 2 y) (λ y. product y (2 ^ j)) (right 2) (left (2 ^ j)))
    (λ i hi. elim (or_cases (nat_lt 6 j) _ (each_pair_at move_at 8 move_test i j hi (omega arith))) [
      | inl big ↦ absurd (omega (arith, ltb-true 6 j big))
      | inr same ↦ eqb-true _ _ same
    ]) x hx

double_additive : (x : ℕ) → IsAdditive (λ q. product x (2 * q))
double_additive x a b = ap (product x) (xor-double a b) ∙ product-xor_right x (2 * a) (2 * b)

pub move_two : (x q : ℕ) → x < 256 → q < 128 → product x (2 * q) ≡ product (product 2 x) q
move_two x q hx hq =
    additive_agree 7 (λ q. product x (2 * q)) (λ q. product (product 2 x) q) (double_additive x) (right (product 2 x))
    (λ j hj. move_two_basis x hx j hj) q hq

-- the last bit of a number and the rest
split_last : (r : ℕ) → bit_xor (r % 2) (2 * (r / 2)) ≡ r
split_last r =
    let e : bit_xor (r / 2 * 2 ^ 1) (r % 2) ≡ r / 2 * 2 ^ 1 + r % 2 = split_bit 1 (r / 2) (r % 2) (mod_below r 2 (omega arith)) in
    let f : r / 2 * 2 + r % 2 ≡ r = div-add-mod' r 2 in
    let m : r / 2 * 2 ≡ 2 * (r / 2) = omega arith in
    xor_comm (r % 2) (2 * (r / 2)) ∙ ap (λ y. bit_xor y (r % 2)) (sym m) ∙ e ∙ f

bit_product : (x c : ℕ) → x < 256 → c < 2 → product x c ≡ c * x
bit_product x zero hx h = product-zero_right x ∙ sym (zero-mul x)
bit_product x (suc zero) hx h = product-one_right x hx ∙ sym (one-mul x)
bit_product x (suc (suc c)) hx h = absurd (omega arith)

-- a step of the code: the last bit of r takes x, the others go on with x doubled
pub product_step : (x r : ℕ) → x < 256 → r < 256 → product x r ≡ bit_xor (r % 2 * x) (product (doubled x) (r / 2))
product_step x r hx hr =
    let half : r / 2 < 128 = omega (arith, div-add-mod' r 2) in
    ap (product x) (sym (split_last r))
    ∙ product-xor_right x (r % 2) (2 * (r / 2))
    ∙ ap (λ y. bit_xor y (product x (2 * (r / 2)))) (bit_product x (r % 2) hx (mod_below r 2 (omega arith)))
    ∙ ap (λ y. bit_xor (r % 2 * x) y) (move_two x (r / 2) hx half ∙ ap (λ y. product y (r / 2)) (sym (doubled-product x hx)))

pub product-lt : (a b : ℕ) → a < 256 → b < 256 → product a b < 256
product-lt a b ha hb =
    from_basis (λ x. product x b < 256) (let z = product-zero_left b in omega (arith, z))
    (λ x y hx hy. let e = product-xor_left x y b in let l : bit_xor (product x b) (product y b) < 2 ^ 8 = xor_lt 8 (product x b) (product y b) hx hy in omega (arith, e, l))
    8 (λ i hi. from_basis (λ y. product (2 ^ i) y < 256) (let z = product-zero_right (2 ^ i) in omega (arith, z))
    (λ x y hx hy. let e = product-xor_right (2 ^ i) x y in let l : bit_xor (product (2 ^ i) x) (product (2 ^ i) y) < 2 ^ 8 = xor_lt 8 (product (2 ^ i) x) (product (2 ^ i) y) hx hy in omega (arith, e, l))
    8 (λ j hj. ltb-true _ _ (each_pair_at element_at 8 element_test i j hi hj)) b hb) a ha

pub double_low : (x : ℕ) → x < 128 → 2 * x ≡ product 2 x
double_low x h = let t : nat_lt x 128 ≡ true = lt-ltb x 128 h in ap (λ b. if b then 2 * x else bit_xor (2 * (x - 128)) 0x1D) (sym t) ∙ doubled-product x (omega arith)

pub double_high : (x : ℕ) → x < 256 → 128 ≤ x → bit_xor (2 * (x - 128)) 0x1D ≡ product 2 x
double_high x h n = let t : nat_lt x 128 ≡ false = le-ltb x 128 n in ap (λ b. if b then 2 * x else bit_xor (2 * (x - 128)) 0x1D) (sym t) ∙ doubled-product x h

-- what is summed, with what is left to sum
pub step_one : (s x r p : ℕ) → x < 256 → r < 256 → r % 2 ≡ 1 → bit_xor s (product x r) ≡ p → bit_xor (bit_xor s x) (product (product 2 x) (r / 2)) ≡ p
step_one s x r p hx hr odd h =
    let e = product_step x r hx hr in
    let d = doubled-product x hx in
    let o = ap (λ c. bit_xor (c * x) (product (doubled x) (r / 2))) odd in
    let u = one-mul x in
    let a = xor_assoc s x (product (doubled x) (r / 2)) in cc

pub step_none : (s x r p : ℕ) → x < 256 → r < 256 → ¬ (r % 2 ≡ 1) → bit_xor s (product x r) ≡ p → bit_xor s (product (product 2 x) (r / 2)) ≡ p
step_none s x r p hx hr even h =
    let none : r % 2 ≡ 0 = omega (arith, mod_below r 2 (omega arith)) in
    let e = product_step x r hx hr in
    let d = doubled-product x hx in
    let o = ap (λ c. bit_xor (c * x) (product (doubled x) (r / 2))) none in
    let u = zero-mul x in
    let z = xor_zero_l (product (doubled x) (r / 2)) in cc

-- half of what is left is left a turn later
pub left_halves : (r k : ℕ) → r * 2 ^ k < 256 → r / 2 * 2 ^ (k + 1) < 256
left_halves r k h =
    let e : r / 2 * 2 + r % 2 ≡ r = div-add-mod' r 2 in
    let l : r / 2 * 2 ≤ r = omega arith in
    let m : r / 2 * 2 * 2 ^ k ≤ r * 2 ^ k = mul-le-mul_right (2 ^ k) l in
    let p = pow-suc 2 k in
    let q : 2 ^ (k + 1) ≡ 2 ^ k * 2 = ap (λ m. 2 ^ m) (add-one k) ∙ p in
    let s : r / 2 * 2 ^ (k + 1) ≡ r / 2 * 2 * 2 ^ k = ap (λ y. r / 2 * y) q ∙ omega arith in omega (arith, s, m)

-- powers
pub power-lt : (x k : ℕ) → x < 256 → power x k < 256
unfolding power
power-lt x zero hx = omega arith
power-lt x (suc k) hx = product-lt x (power x k) hx (power-lt x k hx)

pub power-suc : (x k : ℕ) → power x (suc k) ≡ product x (power x k)
unfolding power
power-suc x k = refl

pub power-zero : (x : ℕ) → power x 0 ≡ 1
unfolding power
power-zero x = refl

pub power-add : (x j k : ℕ) → x < 256 → power x (j + k) ≡ product (power x j) (power x k)
unfolding power
power-add x zero k hx = ap (power x) (zero-add k) ∙ sym (product-one_left (power x k) (power-lt x k hx))
power-add x (suc j) k hx =
    ap (power x) (let e : suc j + k ≡ suc (j + k) = omega arith in e)
    ∙ ap (product x) (power-add x j k hx)
    ∙ sym (product_assoc x (power x j) (power x k) hx (power-lt x j hx) (power-lt x k hx))

-- the power of the square
pub power-square : (x k : ℕ) → x < 256 → power (product x x) k ≡ power x (2 * k)
unfolding power
power-square x zero hx = refl
power-square x (suc k) hx =
    let two : 2 * suc k ≡ suc (suc (2 * k)) = omega arith in
    ap (product (product x x)) (power-square x k hx)
    ∙ product_assoc x x (power x (2 * k)) hx hx (power-lt x (2 * k) hx)
    ∙ ap (power x) (sym two)

-- the code's step of a power
pub power_step_one : (out square rest p : ℕ) → out < 256 → square < 256 → rest % 2 ≡ 1 → product out (power square rest) ≡ p
    → product (product out square) (power (product square square) (rest / 2)) ≡ p
power_step_one out square rest p ho hs odd h =
    let e : rest ≡ suc (2 * (rest / 2)) = omega (arith, div-add-mod' rest 2) in
    ap (product (product out square)) (power-square square (rest / 2) hs)
    ∙ product_assoc out square (power square (2 * (rest / 2))) ho hs (power-lt square (2 * (rest / 2)) hs)
    ∙ ap (product out) (sym (power-suc square (2 * (rest / 2))) ∙ ap (power square) (sym e))
    ∙ h

pub power_step_none : (out square rest p : ℕ) → square < 256 → ¬ (rest % 2 ≡ 1) → product out (power square rest) ≡ p
    → product out (power (product square square) (rest / 2)) ≡ p
power_step_none out square rest p hs even h =
    let e : rest ≡ 2 * (rest / 2) = omega (arith, div-add-mod' rest 2, mod_below rest 2 (omega arith)) in
    ap (product out) (power-square square (rest / 2) hs ∙ ap (power square) (sym e)) ∙ h
