-- Products over points, and weights by the product for all points.
use Rattle.std.proofs.Common.{◌≡◌, ◌≢◌, ℕ, zero, suc, ◌+◌, ◌<◌, ◌≤◌, List, [], ◌∷◌, ◌++◌, length, get_or, cond, Fits, w8, sym, ap, ◌∙◌, inl, inr, arith, add-one}
use Rattle.std.specs.Int.Bits.{bit_xor}
use Rattle.std.proofs.lemmas.Bool.{cases_eq, cases_lt, eq-eqb, ne_eqb}
use Rattle.std.proofs.lemmas.List.{get_or_default, length_push, get_or_append_left, get_or_push}
use Rattle.gf_field.specs.Field.{product, total, inverse}
use Rattle.gf_field.specs.Polynomials.{AreElements}
use Rattle.gf_field.specs.Interpolation.{product_below, factor, others, weight}
use Rattle.gf_field.proofs.lemmas.FieldLaws.{product_comm, product_assoc, product-one_right, product-inverse, inverse-lt}
use Rattle.gf_field.proofs.lemmas.Sums.{total-lt, product_below-lt, product_below-more, product_below-none}
use Rattle.gf_field.proofs.lemmas.Lagrange.{others-lt, factor-lt}
use Rattle.gf_field.proofs.lemmas.Determined.{xor-eq-zero}
use Rattle.ida_code.specs.Points.{added, AreScales}

-- what the type of a byte string says
pub elements-from : (xs : List ℕ) → ((k : ℕ) → Fits w8 (get_or xs k 0)) → AreElements xs
elements-from xs h k d hk = let e = get_or_default xs k d 0 hk in let f = (h k).fits in omega (arith, e, f)

-- ---- the product for each point but one
pub others_step_in : (xs : List ℕ) (k x l out : ℕ) → l ≢ k → out ≡ product_below l (factor xs k x)
    → product out (total x (get_or xs l 0)) ≡ product_below (l + 1) (factor xs k x)
others_step_in xs k x l out ne h =
    ap (λ p. product p (total x (get_or xs l 0))) h
    ∙ ap (λ b. product (product_below l (factor xs k x)) (cond b 1 (total x (get_or xs l 0)))) (sym (ne_eqb l k ne))
    ∙ sym (product_below-more l (factor xs k x))
    ∙ ap (λ n. product_below n (factor xs k x)) (sym (add-one l))

pub others_step_out : (xs : List ℕ) (k x l out : ℕ) → l ≡ k → out < 256 → out ≡ product_below l (factor xs k x)
    → out ≡ product_below (l + 1) (factor xs k x)
others_step_out xs k x l out same lt h =
    sym (product-one_right out lt)
    ∙ ap (λ p. product p 1) h
    ∙ ap (λ b. product (product_below l (factor xs k x)) (cond b 1 (total x (get_or xs l 0)))) (sym (eq-eqb l k same))
    ∙ sym (product_below-more l (factor xs k x))
    ∙ ap (λ n. product_below n (factor xs k x)) (sym (add-one l))

pub others_end : (xs : List ℕ) (k x l out : ℕ) → l ≡ length xs → out ≡ product_below l (factor xs k x) → out ≡ others xs k x
unfolding others
others_end xs k x l out e h = h ∙ ap (λ n. product_below n (factor xs k x)) e

-- ---- the product for each point
below-same : (xs : List ℕ) (k x n : ℕ) → n ≤ k → product_below n (factor xs k x) ≡ product_below n (added xs x)
below-same xs k x zero h = product_below-none (factor xs k x) ∙ sym (product_below-none (added xs x))
below-same xs k x (suc n) h =
    product_below-more n (factor xs k x)
    ∙ ap (λ z. product z (factor xs k x n)) (below-same xs k x n (omega arith))
    ∙ ap (λ b. product (product_below n (added xs x)) (cond b 1 (added xs x n))) (ne_eqb n k (λ e. absurd (omega arith)))
    ∙ sym (product_below-more n (added xs x))

below_elements : (xs : List ℕ) (x n : ℕ) → AreElements xs → x < 256 → n ≤ length xs → product_below n (added xs x) < 256
below_elements xs x n hx lt h = product_below-lt n (added xs x) (λ l hl. total-lt x (get_or xs l 0) lt (hx l 0 (omega arith)))

swap_last : (p s t : ℕ) → p < 256 → s < 256 → t < 256 → product (product p s) t ≡ product (product p t) s
swap_last p s t hp hs ht = product_assoc p s t hp hs ht ∙ ap (product p) (product_comm s t hs ht) ∙ sym (product_assoc p t s hp ht hs)

others-below : (xs : List ℕ) (k x n : ℕ) → AreElements xs → x < 256 → k < n → n ≤ length xs
    → product (product_below n (factor xs k x)) (added xs x k) ≡ product_below n (added xs x)
others-below xs k x zero hx lt hk h = absurd (omega arith)
others-below xs k x (suc n) hx lt hk h =
    let p = product_below n (factor xs k x) in
    let hp : p < 256 = product_below-lt n (factor xs k x) (λ l hl. factor-lt xs k x l hx lt (omega arith)) in
    let tk : added xs x k < 256 = total-lt x (get_or xs k 0) lt (hx k 0 (omega arith)) in
    let tn : added xs x n < 256 = total-lt x (get_or xs n 0) lt (hx n 0 (omega arith)) in
    ap (λ z. product z (added xs x k)) (product_below-more n (factor xs k x))
    ∙ elim (cases_eq n k) [
      | inl same ↦
          ap (λ b. product (product p (cond b 1 (added xs x n))) (added xs x k)) (eq-eqb n k same)
          ∙ ap (λ z. product z (added xs x k)) (product-one_right p hp ∙ below-same xs k x n (omega arith))
          ∙ ap (λ l. product (product_below n (added xs x)) (added xs x l)) (sym same)
          ∙ sym (product_below-more n (added xs x))
      | inr other ↦
          ap (λ b. product (product p (cond b 1 (added xs x n))) (added xs x k)) (ne_eqb n k other)
          ∙ swap_last p (added xs x n) (added xs x k) hp tn tk
          ∙ ap (λ z. product z (added xs x n)) (others-below xs k x n hx lt (omega arith) (omega arith))
          ∙ sym (product_below-more n (added xs x))
    ]

others-whole : (xs : List ℕ) (k x : ℕ) → AreElements xs → x < 256 → k < length xs → product (others xs k x) (added xs x k) ≡ product_below (length xs) (added xs x)
unfolding others
others-whole xs k x hx lt hk = others-below xs k x (length xs) hx lt hk (omega arith)

pub sum-positive : (xs : List ℕ) (k x : ℕ) → get_or xs k 0 ≢ x → 0 < added xs x k
sum-positive xs k x ne = let apart : bit_xor x (get_or xs k 0) ≢ 0 = λ e. ne (sym (xor-eq-zero x (get_or xs k 0) e)) in omega arith

pub weight-by_whole : (xs scales : List ℕ) (k x : ℕ) → AreElements xs → x < 256 → k < length xs → get_or xs k 0 ≢ x → AreScales xs scales
    → product (product (product_below (length xs) (added xs x)) (inverse (added xs x k))) (get_or scales k 0) ≡ weight xs k x
unfolding weight
weight-by_whole xs scales k x hx lt hk ne s =
    let t = added xs x k in
    let ht : t < 256 = total-lt x (get_or xs k 0) lt (hx k 0 hk) in
    let pos = sum-positive xs k x ne in
    let hi = inverse-lt t pos ht in
    let ho = others-lt xs k x hx lt in
    let back : product (product_below (length xs) (added xs x)) (inverse t) ≡ others xs k x =
    ap (λ z. product z (inverse t)) (sym (others-whole xs k x hx lt hk)) ∙ product_assoc (others xs k x) t (inverse t) ho ht hi
    ∙ ap (product (others xs k x)) (product-inverse t pos ht) ∙ product-one_right (others xs k x) ho in
    ap (λ z. product z (get_or scales k 0)) back ∙ ap (product (others xs k x)) (s.each k hk)

pub whole-more : (xs : List ℕ) (x l out : ℕ) → out ≡ product_below l (added xs x) → product out (added xs x l) ≡ product_below (l + 1) (added xs x)
whole-more xs x l out h =
    ap (λ z. product z (added xs x l)) h ∙ sym (product_below-more l (added xs x)) ∙ ap (λ n. product_below n (added xs x)) (let e : suc l ≡ l + 1 = omega arith in e)

pub scaled_more : (xs scales new : List ℕ) (k s : ℕ) → length scales ≡ k → k < length xs
    → ((j : ℕ) → j < k → get_or scales j 0 ≡ inverse (others xs j (get_or xs j 0))) → new ≡ scales ++ s ∷ []
    → s ≡ inverse (others xs k (get_or xs k 0))
    → (length new ≡ k + 1) × ((j : ℕ) → j < k + 1 → get_or new j 0 ≡ inverse (others xs j (get_or xs j 0)))
scaled_more xs scales new k s len h each e is = (
  ap length e ∙ length_push scales s ∙ ap (λ n. n + 1) len,
  λ j hj. ap (λ l. get_or l j 0) e ∙ elim (cases_lt j k) [
    | inl before ↦ get_or_append_left scales (s ∷ []) 0 j (omega arith) ∙ each j before
    | inr last ↦
        let same : j ≡ k = omega arith in
        get_or_push scales s 0 j (omega arith) ∙ is ∙ ap (λ i. inverse (others xs i (get_or xs i 0))) (sym same)
  ],
)
