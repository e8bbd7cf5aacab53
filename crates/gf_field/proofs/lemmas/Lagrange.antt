-- Lagrange's formula gives the values of one polynomial, which has the given values at the given points.
use Rattle.std.proofs.Common.{◌≡◌, ◌≢◌, ℕ, zero, suc, ◌<◌, ◌≤◌, inl, inr, List, [], ◌∷◌, length, get_or, replicate, eqb, cond, true, false, refl, sym, ap, subst, ◌∙◌, arith}
use Rattle.std.specs.Int.Bits.{bit_xor, xor_assoc, xor_self, xor_zero_l, xor_zero_r}
use Rattle.std.proofs.lemmas.Nat.{xor_comm}
use Rattle.std.proofs.lemmas.Bool.{cases_eq, cases_order, eq-eqb, ne_eqb}
use Rattle.gf_field.specs.Field.{product, inverse}
use Rattle.gf_field.specs.Polynomials.{sum_below, value_at, horner, AreElements, AreDistinct, IsPolynomial}
use Rattle.gf_field.specs.Interpolation.{product_below, factor, others, weight, interpolated}
use Rattle.gf_field.proofs.lemmas.Additive.{product-xor_left, product-xor_right}
use Rattle.gf_field.proofs.lemmas.FieldLaws.{product_comm, product_assoc, product-zero_left, product-zero_right, product-one_right, product-one_left, product-lt, product-inverse, inverse-lt}
use Rattle.gf_field.proofs.lemmas.Sums.{total-lt, sum_below-lt, sum_below-none, sum_below-more, sum_below-same, sum_below-single, product_below-lt, product_below-zero, product_below-positive, horner-value_at}
use Rattle.gf_field.proofs.lemmas.Determined.{EachElement, EachDistinct, DiffersFrom, AgreeAt, added, horner-added, added_elements, length-added, xor-eq-zero, horner-lt, coefficients_determined}

-- ---- the premises in their two forms
pub EachElement-from : (xs : List ℕ) → AreElements xs → EachElement xs
EachElement-from [] h = tt
EachElement-from (x ∷ xs) h = (h 0 0 (omega arith), EachElement-from xs (λ k d hk. h (suc k) d (omega arith)))

pub AreElements-from : (xs : List ℕ) → EachElement xs → AreElements xs
AreElements-from [] h k d hk = absurd (omega arith)
AreElements-from (x ∷ xs) h zero d hk = h.0
AreElements-from (x ∷ xs) h (suc k) d hk = AreElements-from xs h.1 k d (omega arith)

DiffersFrom-from : (r : ℕ) (xs : List ℕ) → ((j : ℕ) → j < length xs → r ≢ get_or xs j 0) → DiffersFrom r xs
DiffersFrom-from r [] h = tt
DiffersFrom-from r (x ∷ xs) h = (λ e. h 0 (omega arith) (sym e), DiffersFrom-from r xs (λ j hj. h (suc j) (omega arith)))

pub EachDistinct-from : (xs : List ℕ) → AreDistinct xs → EachDistinct xs
EachDistinct-from [] h = tt
EachDistinct-from (x ∷ xs) h =
    (DiffersFrom-from x xs (λ j hj. h 0 (suc j) 0 (omega arith) (omega arith)), EachDistinct-from xs (λ i j d hij hj. h (suc i) (suc j) d (omega arith) (omega arith)))

pub distinct_apart : (xs : List ℕ) → AreDistinct xs → (i j : ℕ) → i < length xs → j < length xs → i ≢ j → get_or xs i 0 ≢ get_or xs j 0
distinct_apart xs h i j hi hj ne =
    elim (cases_order i j) [
      | inl same ↦ absurd (ne same)
      | inr rest ↦ elim rest [ inl below ↦ h i j 0 below hj | inr above ↦ λ e. h j i 0 above hi (sym e) ]
    ]

-- ---- values at m points determine a polynomial of degree below m
AgreeAt-from : (c d xs : List ℕ) → AreElements c → AreElements d → AreElements xs → ((k : ℕ) → k < length xs → value_at c (get_or xs k 0) ≡ value_at d (get_or xs k 0)) → AgreeAt c d xs
AgreeAt-from c d [] hc hd hx h = tt
AgreeAt-from c d (x ∷ xs) hc hd hx h =
    let lt : x < 256 = hx 0 0 (omega arith) in (
      horner-value_at c x hc lt ∙ h 0 (omega arith) ∙ sym (horner-value_at d x hd lt),
      AgreeAt-from c d xs hc hd (λ k e hk. hx (suc k) e (omega arith)) (λ k hk. h (suc k) (omega arith)),
    )

pub same_polynomial : (m : ℕ) (xs c d : List ℕ) → length xs ≡ m → AreElements xs → AreDistinct xs → IsPolynomial m c → IsPolynomial m d
    → ((k : ℕ) → k < m → value_at c (get_or xs k 0) ≡ value_at d (get_or xs k 0)) → c ≡ d
same_polynomial m xs c d e hx dx pc pd h =
    coefficients_determined c d xs (pc.terms ∙ sym e) (pd.terms ∙ sym e) (EachElement-from c pc.elements) (EachElement-from d pd.elements) (EachElement-from xs hx) (EachDistinct-from xs dx)
    (AgreeAt-from c d xs pc.elements pd.elements hx (λ k hk. h k (omega arith)))

-- ---- one more root
-- the coefficients of a + X * (what comes before) + (X + r) * c
more_root : ℕ → ℕ → List ℕ → List ℕ
more_root a r [] = a ∷ []
more_root a r (c ∷ cs) = bit_xor a (product r c) ∷ more_root c r cs

length-more_root : (a r : ℕ) (c : List ℕ) → length (more_root a r c) ≡ suc (length c)
unfolding more_root
length-more_root a r [] = refl
length-more_root a r (c ∷ cs) = ap suc (length-more_root c r cs)

more_root_elements : (a r : ℕ) (c : List ℕ) → a < 256 → r < 256 → EachElement c → EachElement (more_root a r c)
unfolding more_root
more_root_elements a r [] ha hr h = (ha, tt)
more_root_elements a r (c ∷ cs) ha hr h = (total-lt a (product r c) ha (product-lt r c hr h.0), more_root_elements c r cs h.0 hr h.1)

-- (a + rc) + (xc + q) where both are the sums of a and of (x + r)(c + xH)
regroup : (a rc xc q : ℕ) → bit_xor (bit_xor a rc) (bit_xor xc q) ≡ bit_xor a (bit_xor (bit_xor xc rc) q)
regroup a rc xc q =
    xor_assoc a rc (bit_xor xc q) ∙ ap (bit_xor a) (sym (xor_assoc rc xc q) ∙ ap (λ z. bit_xor z q) (xor_comm rc xc))

horner-more_root : (a r : ℕ) (c : List ℕ) (x : ℕ) → r < 256 → x < 256 → EachElement c
    → horner (more_root a r c) x ≡ bit_xor a (product (bit_xor x r) (horner c x))
unfolding more_root
horner-more_root a r [] x hr hx h = ap (bit_xor a) (product-zero_right x ∙ sym (product-zero_right (bit_xor x r)))
horner-more_root a r (c ∷ cs) x hr hx h =
    let H = horner cs x in
    let s = bit_xor x r in
    let hs : s < 256 = total-lt x r hx hr in
    let hH : H < 256 = horner-lt cs x h.1 hx in
    let rest : product x (horner (more_root c r cs) x) ≡ bit_xor (product x c) (product x (product s H)) =
    ap (product x) (horner-more_root c r cs x hr hx h.1) ∙ product-xor_right x c (product s H) in
    let move : product x (product s H) ≡ product s (product x H) =
    sym (product_assoc x s H hx hs hH) ∙ ap (λ z. product z H) (product_comm x s hx hs) ∙ product_assoc s x H hs hx hH in
    let split : product s (bit_xor c (product x H)) ≡ bit_xor (bit_xor (product x c) (product r c)) (product s (product x H)) =
    product-xor_right s c (product x H) ∙ ap (λ z. bit_xor z (product s (product x H))) (product-xor_left x r c) in
    ap (bit_xor (bit_xor a (product r c))) (rest ∙ ap (bit_xor (product x c)) move)
    ∙ regroup a (product r c) (product x c) (product s (product x H))
    ∙ ap (bit_xor a) (sym split)

-- ---- a multiple
scaled : ℕ → List ℕ → List ℕ
scaled a [] = []
scaled a (c ∷ cs) = product a c ∷ scaled a cs

length-scaled : (a : ℕ) (c : List ℕ) → length (scaled a c) ≡ length c
unfolding scaled
length-scaled a [] = refl
length-scaled a (c ∷ cs) = ap suc (length-scaled a cs)

scaled_elements : (a : ℕ) (c : List ℕ) → a < 256 → EachElement c → EachElement (scaled a c)
unfolding scaled
scaled_elements a [] ha h = tt
scaled_elements a (c ∷ cs) ha h = (product-lt a c ha h.0, scaled_elements a cs ha h.1)

horner-scaled : (a : ℕ) (c : List ℕ) (x : ℕ) → a < 256 → x < 256 → EachElement c → horner (scaled a c) x ≡ product a (horner c x)
unfolding scaled
horner-scaled a [] x ha hx h = sym (product-zero_right a)
horner-scaled a (c ∷ cs) x ha hx h =
    let H = horner cs x in
    let hH : H < 256 = horner-lt cs x h.1 hx in
    let move : product x (product a H) ≡ product a (product x H) =
    sym (product_assoc x a H hx ha hH) ∙ ap (λ z. product z H) (product_comm x a hx ha) ∙ product_assoc a x H ha hx hH in
    ap (bit_xor (product a c)) (ap (product x) (horner-scaled a cs x ha hx h.1) ∙ move) ∙ sym (product-xor_right a c (product x H))

-- ---- the polynomial with all points but the k-th as its roots
basis : List ℕ → ℕ → ℕ → List ℕ
basis xs k zero = 1 ∷ []
basis xs k (suc n) = cond (eqb n k) (basis xs k n) (more_root 0 (get_or xs n 0) (basis xs k n))

length-basis_below : (xs : List ℕ) (k n : ℕ) → n ≤ k → length (basis xs k n) ≡ suc n
unfolding basis
length-basis_below xs k zero h = refl
length-basis_below xs k (suc n) h =
    ap (λ b. length (cond b (basis xs k n) (more_root 0 (get_or xs n 0) (basis xs k n)))) (ne_eqb n k (λ e. absurd (omega arith)))
    ∙ length-more_root 0 (get_or xs n 0) (basis xs k n) ∙ ap suc (length-basis_below xs k n (omega arith))

length-basis : (xs : List ℕ) (k n : ℕ) → k < n → length (basis xs k n) ≡ n
unfolding basis
length-basis xs k zero h = absurd (omega arith)
length-basis xs k (suc n) h =
    elim (cases_eq n k) [
      | inl same ↦
          ap (λ b. length (cond b (basis xs k n) (more_root 0 (get_or xs n 0) (basis xs k n)))) (eq-eqb n k same)
          ∙ length-basis_below xs k n (omega arith)
      | inr other ↦
          ap (λ b. length (cond b (basis xs k n) (more_root 0 (get_or xs n 0) (basis xs k n)))) (ne_eqb n k other)
          ∙ length-more_root 0 (get_or xs n 0) (basis xs k n) ∙ ap suc (length-basis xs k n (omega arith))
    ]

basis_elements : (xs : List ℕ) (k n : ℕ) → AreElements xs → n ≤ length xs → EachElement (basis xs k n)
unfolding basis
basis_elements xs k zero hx h = (omega arith, tt)
basis_elements xs k (suc n) hx h =
    let rest = basis_elements xs k n hx (omega arith) in
    elim (eqb n k) as (λ b. EachElement (cond b (basis xs k n) (more_root 0 (get_or xs n 0) (basis xs k n)))) [
      | true ↦ rest
      | false ↦ more_root_elements 0 (get_or xs n 0) (basis xs k n) (omega arith) (hx n 0 (omega arith)) rest
    ]

pub factor-lt : (xs : List ℕ) (k x l : ℕ) → AreElements xs → x < 256 → l < length xs → factor xs k x l < 256
factor-lt xs k x l hx lt hl =
    elim (eqb l k) as (λ b. cond b 1 (bit_xor x (get_or xs l 0)) < 256) [
      | true ↦ omega arith
      | false ↦ total-lt x (get_or xs l 0) lt (hx l 0 hl)
    ]

horner-basis : (xs : List ℕ) (k n x : ℕ) → AreElements xs → x < 256 → n ≤ length xs → horner (basis xs k n) x ≡ product_below n (factor xs k x)
unfolding basis product_below
horner-basis xs k zero x hx lt h = ap (bit_xor 1) (product-zero_right x) ∙ xor_zero_r 1
horner-basis xs k (suc n) x hx lt h =
    let rest = horner-basis xs k n x hx lt (omega arith) in
    let small : product_below n (factor xs k x) < 256 = product_below-lt n (factor xs k x) (λ l hl. factor-lt xs k x l hx lt (omega arith)) in
    let r = get_or xs n 0 in
    let hr : r < 256 = hx n 0 (omega arith) in
    elim (eqb n k) as (λ b. horner (cond b (basis xs k n) (more_root 0 r (basis xs k n))) x ≡ product (product_below n (factor xs k x)) (cond b 1 (bit_xor x r))) [
      | true ↦ rest ∙ sym (product-one_right (product_below n (factor xs k x)) small)
      | false ↦
          horner-more_root 0 r (basis xs k n) x hr lt (basis_elements xs k n hx (omega arith))
          ∙ xor_zero_l (product (bit_xor x r) (horner (basis xs k n) x))
          ∙ ap (product (bit_xor x r)) rest
          ∙ product_comm (bit_xor x r) (product_below n (factor xs k x)) (total-lt x r lt hr) small
    ]

pub others-lt : (xs : List ℕ) (k x : ℕ) → AreElements xs → x < 256 → others xs k x < 256
unfolding others
others-lt xs k x hx lt = product_below-lt (length xs) (factor xs k x) (λ l hl. factor-lt xs k x l hx lt hl)

-- the others vanish at each point but the k-th
others-zero : (xs : List ℕ) (k i : ℕ) → i < length xs → i ≢ k → others xs k (get_or xs i 0) ≡ 0
unfolding others
others-zero xs k i hi ne =
    product_below-zero (length xs) i (factor xs k (get_or xs i 0)) hi
    (ap (λ b. cond b 1 (bit_xor (get_or xs i 0) (get_or xs i 0))) (ne_eqb i k ne) ∙ xor_self (get_or xs i 0))

pub others-positive : (xs : List ℕ) (k : ℕ) → AreElements xs → AreDistinct xs → k < length xs → 0 < others xs k (get_or xs k 0)
unfolding others
others-positive xs k hx d hk =
    product_below-positive (length xs) (factor xs k (get_or xs k 0)) (λ l hl. factor-lt xs k (get_or xs k 0) l hx (hx k 0 hk) hl)
    (λ l hl. elim (cases_eq l k) [
      | inl same ↦ subst (λ b. 0 < cond b 1 (bit_xor (get_or xs k 0) (get_or xs l 0))) (sym (eq-eqb l k same)) (omega arith)
      | inr other ↦ subst (λ b. 0 < cond b 1 (bit_xor (get_or xs k 0) (get_or xs l 0))) (sym (ne_eqb l k other))
          (let ne : bit_xor (get_or xs k 0) (get_or xs l 0) ≢ 0 = λ e. distinct_apart xs d l k hl hk other (sym (xor-eq-zero (get_or xs k 0) (get_or xs l 0) e)) in omega arith)
    ])

pub weight-lt : (xs : List ℕ) (k x : ℕ) → AreElements xs → AreDistinct xs → k < length xs → x < 256 → weight xs k x < 256
unfolding weight
weight-lt xs k x hx d hk lt =
    product-lt (others xs k x) (inverse (others xs k (get_or xs k 0))) (others-lt xs k x hx lt)
    (inverse-lt (others xs k (get_or xs k 0)) (others-positive xs k hx d hk) (others-lt xs k (get_or xs k 0) hx (hx k 0 hk)))

-- a weight is 1 at its own point and 0 at the others
weight-own : (xs : List ℕ) (k : ℕ) → AreElements xs → AreDistinct xs → k < length xs → weight xs k (get_or xs k 0) ≡ 1
unfolding weight
weight-own xs k hx d hk =
    product-inverse (others xs k (get_or xs k 0)) (others-positive xs k hx d hk) (others-lt xs k (get_or xs k 0) hx (hx k 0 hk))

weight-other : (xs : List ℕ) (k i : ℕ) → i < length xs → k ≢ i → weight xs k (get_or xs i 0) ≡ 0
unfolding weight
weight-other xs k i hi ne =
    ap (λ z. product z (inverse (others xs k (get_or xs k 0)))) (others-zero xs k i hi (λ e. ne (sym e)))
    ∙ product-zero_left (inverse (others xs k (get_or xs k 0)))

pub interpolated-at_point : (xs : List ℕ) (y : ℕ → ℕ) (i : ℕ) → AreElements xs → AreDistinct xs → i < length xs → y i < 256
    → interpolated xs y (get_or xs i 0) ≡ y i
unfolding interpolated
interpolated-at_point xs y i hx d hi hy =
    sum_below-single (length xs) i (λ k. product (weight xs k (get_or xs i 0)) (y k)) hi
    (λ k hk ne. ap (λ z. product z (y k)) (weight-other xs k i hi ne) ∙ product-zero_left (y k))
    ∙ ap (λ z. product z (y i)) (weight-own xs i hx d hi) ∙ product-one_left (y i) hy

pub interpolated-lt : (xs : List ℕ) (y : ℕ → ℕ) (x : ℕ) → AreElements xs → AreDistinct xs → ((k : ℕ) → k < length xs → y k < 256) → x < 256
    → interpolated xs y x < 256
unfolding interpolated
interpolated-lt xs y x hx d hy lt =
    sum_below-lt (length xs) (λ k. product (weight xs k x) (y k)) (λ k hk. product-lt (weight xs k x) (y k) (weight-lt xs k x hx d hk lt) (hy k hk))

pub interpolated-same : (xs : List ℕ) (y z : ℕ → ℕ) (x : ℕ) → ((k : ℕ) → k < length xs → y k ≡ z k) → interpolated xs y x ≡ interpolated xs z x
unfolding interpolated
interpolated-same xs y z x h =
    sum_below-same (length xs) (λ k. product (weight xs k x) (y k)) (λ k. product (weight xs k x) (z k)) (λ k hk. ap (product (weight xs k x)) (h k hk))

-- ---- the polynomial
coefficient : List ℕ → (ℕ → ℕ) → ℕ → ℕ
coefficient xs y k = product (y k) (inverse (others xs k (get_or xs k 0)))

through_below : List ℕ → (ℕ → ℕ) → ℕ → List ℕ
through_below xs y zero = replicate (length xs) 0
through_below xs y (suc k) = added (through_below xs y k) (scaled (coefficient xs y k) (basis xs k (length xs)))

pub through : List ℕ → (ℕ → ℕ) → List ℕ
through xs y = through_below xs y (length xs)

zeros_elements : (n : ℕ) → EachElement (replicate n 0)
zeros_elements zero = tt
zeros_elements (suc n) = (omega arith, zeros_elements n)

length-zeros : (n : ℕ) → length {A = ℕ} (replicate n 0) ≡ n
length-zeros zero = refl
length-zeros (suc n) = ap suc (length-zeros n)

horner-zeros : (n x : ℕ) → horner (replicate n 0) x ≡ 0
horner-zeros zero x = refl
horner-zeros (suc n) x = xor_zero_l (product x (horner (replicate n 0) x)) ∙ ap (product x) (horner-zeros n x) ∙ product-zero_right x

coefficient-lt : (xs : List ℕ) (y : ℕ → ℕ) (k : ℕ) → AreElements xs → AreDistinct xs → k < length xs → y k < 256 → coefficient xs y k < 256
unfolding coefficient
coefficient-lt xs y k hx d hk hy =
    product-lt (y k) (inverse (others xs k (get_or xs k 0))) hy
    (inverse-lt (others xs k (get_or xs k 0)) (others-positive xs k hx d hk) (others-lt xs k (get_or xs k 0) hx (hx k 0 hk)))

length-through_below : (xs : List ℕ) (y : ℕ → ℕ) (n : ℕ) → n ≤ length xs → length (through_below xs y n) ≡ length xs
unfolding through_below
length-through_below xs y zero h = length-zeros (length xs)
length-through_below xs y (suc n) h =
    let rest = length-through_below xs y n (omega arith) in
    let own = length-scaled (coefficient xs y n) (basis xs n (length xs)) ∙ length-basis xs n (length xs) (omega arith) in
    length-added (through_below xs y n) (scaled (coefficient xs y n) (basis xs n (length xs))) (rest ∙ sym own) ∙ rest

through_below_elements : (xs : List ℕ) (y : ℕ → ℕ) (n : ℕ) → AreElements xs → AreDistinct xs → ((k : ℕ) → k < length xs → y k < 256) → n ≤ length xs
    → EachElement (through_below xs y n)
unfolding through_below
through_below_elements xs y zero hx d hy h = zeros_elements (length xs)
through_below_elements xs y (suc n) hx d hy h =
    added_elements (through_below xs y n) (scaled (coefficient xs y n) (basis xs n (length xs)))
    (through_below_elements xs y n hx d hy (omega arith))
    (scaled_elements (coefficient xs y n) (basis xs n (length xs)) (coefficient-lt xs y n hx d (omega arith) (hy n (omega arith))) (basis_elements xs n (length xs) hx (omega arith)))

-- y * i times o is o * i times y
turned : (y i o : ℕ) → y < 256 → i < 256 → o < 256 → product (product y i) o ≡ product (product o i) y
turned y i o hy hi ho =
    product_comm (product y i) o (product-lt y i hy hi) ho ∙ ap (product o) (product_comm y i hy hi) ∙ sym (product_assoc o i y ho hi hy)

horner-basis_whole : (xs : List ℕ) (k x : ℕ) → AreElements xs → x < 256 → horner (basis xs k (length xs)) x ≡ others xs k x
unfolding others
horner-basis_whole xs k x hx lt = horner-basis xs k (length xs) x hx lt (omega arith)

term : (xs : List ℕ) (y : ℕ → ℕ) (k x : ℕ) → AreElements xs → AreDistinct xs → k < length xs → y k < 256 → x < 256
    → horner (scaled (coefficient xs y k) (basis xs k (length xs))) x ≡ product (weight xs k x) (y k)
unfolding coefficient weight
term xs y k x hx d hk hy lt =
    let own = others xs k (get_or xs k 0) in
    let own_lt : own < 256 = others-lt xs k (get_or xs k 0) hx (hx k 0 hk) in
    let inv_lt : inverse own < 256 = inverse-lt own (others-positive xs k hx d hk) own_lt in
    horner-scaled (product (y k) (inverse own)) (basis xs k (length xs)) x (product-lt (y k) (inverse own) hy inv_lt) lt (basis_elements xs k (length xs) hx (omega arith))
    ∙ ap (product (product (y k) (inverse own))) (horner-basis_whole xs k x hx lt)
    ∙ turned (y k) (inverse own) (others xs k x) hy inv_lt (others-lt xs k x hx lt)

horner-through_below : (xs : List ℕ) (y : ℕ → ℕ) (n x : ℕ) → AreElements xs → AreDistinct xs → ((k : ℕ) → k < length xs → y k < 256) → n ≤ length xs → x < 256
    → horner (through_below xs y n) x ≡ sum_below n (λ k. product (weight xs k x) (y k))
unfolding through_below
horner-through_below xs y zero x hx d hy h lt = horner-zeros (length xs) x ∙ sym (sum_below-none (λ k. product (weight xs k x) (y k)))
horner-through_below xs y (suc n) x hx d hy h lt =
    let own = length-scaled (coefficient xs y n) (basis xs n (length xs)) ∙ length-basis xs n (length xs) (omega arith) in
    horner-added (through_below xs y n) (scaled (coefficient xs y n) (basis xs n (length xs))) x (length-through_below xs y n (omega arith) ∙ sym own)
    ∙ ap (λ z. bit_xor z (horner (scaled (coefficient xs y n) (basis xs n (length xs))) x)) (horner-through_below xs y n x hx d hy (omega arith) lt)
    ∙ ap (bit_xor (sum_below n (λ k. product (weight xs k x) (y k)))) (term xs y n x hx d (omega arith) (hy n (omega arith)) lt)
    ∙ sym (sum_below-more n (λ k. product (weight xs k x) (y k)))

pub through_polynomial : (xs : List ℕ) (y : ℕ → ℕ) → AreElements xs → AreDistinct xs → ((k : ℕ) → k < length xs → y k < 256) → IsPolynomial (length xs) (through xs y)
unfolding through
through_polynomial xs y hx d hy =
    record { terms = length-through_below xs y (length xs) (omega arith); elements = AreElements-from (through_below xs y (length xs)) (through_below_elements xs y (length xs) hx d hy (omega arith)) }

pub value_at-through : (xs : List ℕ) (y : ℕ → ℕ) (x : ℕ) → AreElements xs → AreDistinct xs → ((k : ℕ) → k < length xs → y k < 256) → x < 256
    → value_at (through xs y) x ≡ interpolated xs y x
unfolding through interpolated
value_at-through xs y x hx d hy lt =
    sym (horner-value_at (through_below xs y (length xs)) x (AreElements-from (through_below xs y (length xs)) (through_below_elements xs y (length xs) hx d hy (omega arith))) lt)
    ∙ horner-through_below xs y (length xs) x hx d hy (omega arith) lt

-- a polynomial is what its values at m points give
pub value_at-interpolated : (m : ℕ) (xs c : List ℕ) (x : ℕ) → length xs ≡ m → AreElements xs → AreDistinct xs → IsPolynomial m c → (y : ℕ → ℕ) → ((k : ℕ) → k < m → y k < 256)
    → ((k : ℕ) → k < m → value_at c (get_or xs k 0) ≡ y k) → x < 256 → value_at c x ≡ interpolated xs y x
value_at-interpolated m xs c x e hx d p y hy h lt =
    let hy' : (k : ℕ) → k < length xs → y k < 256 = λ k hk. hy k (omega arith) in
    let q : IsPolynomial m (through xs y) = subst (λ n. IsPolynomial n (through xs y)) e (through_polynomial xs y hx d hy') in
    let same : c ≡ through xs y =
    same_polynomial m xs c (through xs y) e hx d p q
    (λ k hk. h k hk ∙ sym (value_at-through xs y (get_or xs k 0) hx d hy' (hx k 0 (omega arith)) ∙ interpolated-at_point xs y k hx d (omega arith) (hy k hk))) in
    ap (λ z. value_at z x) same ∙ value_at-through xs y x hx d hy' lt
