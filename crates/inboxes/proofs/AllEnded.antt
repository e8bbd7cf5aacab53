-- Where as many last words were taken as there are senders, each sender's last word was.
use Rattle.std.proofs.Common.{◌≡◌, ℕ, zero, suc, ◌+◌, ◌<◌, ◌≤◌, Bool, true, false, cond, inl, inr, List, [], ◌∷◌, ◌++◌, map, All, Option, Some, None, refl, sym, ap, subst, ◌∙◌, arith}
use Rattle.std.proofs.lemmas.List.Elements.{All-head, All-tail}
use Rattle.std.proofs.lemmas.List.Sums.{sum_by-cons}
use Rattle.std.specs.Prelude.{nat_eq, is_none, count_by}
use Rattle.std.specs.List.{filter}
use Rattle.inboxes.specs.Parcels.{words_of, has_ended, IsOrderly, lasts_in}
use Rattle.inboxes.proofs.lemmas.SenderWords.{true_here, false_here, same_or_not}

-- sums over the numbers below n

total : ℕ → (ℕ → ℕ) → ℕ
total zero f = 0
total (suc n) f = total n f + f n

total_none : (n : ℕ) → total n (λ p. 0) ≡ 0
unfolding total
total_none zero = refl
total_none (suc n) = omega (arith, total_none n)

total_add : (n : ℕ) (f g : ℕ → ℕ) → total n (λ p. f p + g p) ≡ total n f + total n g
unfolding total
total_add zero f g = refl
total_add (suc n) f g = omega (arith, total_add n f g)

total_same : (n : ℕ) (f g : ℕ → ℕ) → ((p : ℕ) → f p ≡ g p) → total n f ≡ total n g
unfolding total
total_same zero f g same = refl
total_same (suc n) f g same = omega (arith, total_same n f g same, same n)

total_apart : (n q c : ℕ) → n ≤ q → total n (λ p. cond (nat_eq q p) c 0) ≡ 0
unfolding total
total_apart zero q c most = refl
total_apart (suc n) q c most =
    let last : cond (nat_eq q n) c 0 ≡ 0 = ap (λ b. cond b c 0) (false_here q n (λ same. absurd (omega arith))) in
    omega (arith, total_apart n q c (omega arith), last)

total_at : (n q c : ℕ) → q < n → total n (λ p. cond (nat_eq q p) c 0) ≡ c
unfolding total
total_at zero q c most = absurd (omega arith)
total_at (suc n) q c most =
    elim (same_or_not q n) [
      | inl same ↦
          (let last : cond (nat_eq q n) c 0 ≡ c = ap (λ b. cond b c 0) (subst (λ m. nat_eq q m ≡ true) same (true_here q)) in
          let before : total n (λ p. cond (nat_eq q p) c 0) ≡ 0 = total_apart n q c (omega (arith, same)) in
          omega (arith, before, last))
      | inr apart ↦
          (let last : cond (nat_eq q n) c 0 ≡ 0 = ap (λ b. cond b c 0) (false_here q n apart) in
          omega (arith, total_at n q c (omega (arith, apart)), last))
    ]

total_le : (n : ℕ) (f : ℕ → ℕ) → ((p : ℕ) → p < n → f p ≤ 1) → total n f ≤ n
unfolding total
total_le zero f small = omega arith
total_le (suc n) f small =
    omega (arith, total_le n f (λ p below. small p (omega arith)), small n (omega arith))

all_one : (n : ℕ) (f : ℕ → ℕ) → ((p : ℕ) → p < n → f p ≤ 1) → total n f ≡ n → (p : ℕ) → p < n → f p ≡ 1
unfolding total
all_one zero f small is p below = absurd (omega arith)
all_one (suc n) f small is p below =
    let less = total_le n f (λ p below. small p (omega arith)) in
    let last = small n (omega arith) in
    elim (same_or_not p n) [
      | inl same ↦ (let here : f p ≡ f n = ap f same in omega (arith, is, less, last, here))
      | inr apart ↦ all_one n f (λ p below. small p (omega arith)) (omega (arith, is, less, last)) p (omega (arith, apart))
    ]

-- last words

module _ {T : Type 0} where
  nones : List (Option T) → ℕ
  nones ws = count_by (λ w. is_none w) ws

  one_of : Option T → ℕ
  one_of w = cond (is_none w) 1 0

  nones_cons : (w : Option T) (ws : List (Option T)) → nones (w ∷ ws) ≡ one_of w + nones ws
  unfolding nones one_of
  nones_cons w ws = sum_by-cons (λ w. cond (is_none w) 1 0) w ws

  nones_head : (b : Bool) (h : ℕ × Option T) (fs : List (ℕ × Option T)) → nones (map (λ h. h.1) (cond b (h ∷ fs) fs)) ≡ cond b (one_of h.1) 0 + nones (map (λ h. h.1) fs)
  nones_head true h fs = nones_cons h.1 (map (λ h. h.1) fs)
  nones_head false h fs = omega arith

  lasts_cons : (h : ℕ × Option T) (log : List (ℕ × Option T)) → lasts_in (h ∷ log) ≡ one_of h.1 + lasts_in log
  unfolding one_of
  lasts_cons h log = sum_by-cons (λ (h : ℕ × Option T). cond (is_none h.1) 1 0) h log

  lasts_by_sender : (n : ℕ) (log : List (ℕ × Option T)) → All (λ h. h.0 < n) log → lasts_in log ≡ total n (λ p. nones (words_of p log))
  unfolding nones
  lasts_by_sender n [] known = sym (total_none n)
  lasts_by_sender n (h ∷ log) known =
      let known' = All-tail (λ (h : ℕ × Option T). h.0 < n) h log known in
      let below = All-head (λ (h : ℕ × Option T). h.0 < n) h log known in
      let split : total n (λ p. nones (words_of p (h ∷ log))) ≡ total n (λ p. cond (nat_eq h.0 p) (one_of h.1) 0 + nones (words_of p log)) =
      total_same n (λ p. nones (words_of p (h ∷ log))) (λ p. cond (nat_eq h.0 p) (one_of h.1) 0 + nones (words_of p log)) (λ p. nones_head (nat_eq h.0 p) h (filter (λ h. nat_eq h.0 p) log)) in
      let added = total_add n (λ p. cond (nat_eq h.0 p) (one_of h.1) 0) (λ p. nones (words_of p log)) in
      omega (arith, lasts_cons h log, lasts_by_sender n log known', split, added, total_at n h.0 (one_of h.1) below)

  few_lasts : (ws : List (Option T)) → IsOrderly ws → nones ws ≤ 1
  unfolding nones one_of
  few_lasts [] is = omega arith
  few_lasts (Some x ∷ ws) is = omega (arith, nones_cons (Some x) ws, few_lasts ws is)
  few_lasts (None ∷ ws) is = let none : nones ws ≡ 0 = ap nones is in omega (arith, nones_cons None ws, none)

  has_last : (ws : List (Option T)) → nones ws ≡ 1 → has_ended ws ≡ true
  unfolding nones one_of
  has_last [] one = absurd (omega arith)
  has_last (Some x ∷ ws) one = has_last ws (omega (arith, nones_cons (Some x) ws, one))
  has_last (None ∷ ws) one = refl

  -- where as many last words were taken as there are senders, each sender's was
  pub all_ended : (n : ℕ) (log : List (ℕ × Option T)) → All (λ h. h.0 < n) log → ((p : ℕ) → IsOrderly (words_of p log)) → lasts_in log ≡ n → (p : ℕ) → p < n → has_ended (words_of p log) ≡ true
  all_ended n log known orderly count p below =
      has_last (words_of p log) (all_one n (λ p. nones (words_of p log)) (λ p _. few_lasts (words_of p log) (orderly p)) (sym (lasts_by_sender n log known) ∙ count) p below)

  pub lasts_push : (log : List (ℕ × Option T)) (h : ℕ × Option T) → lasts_in (log ++ h ∷ []) ≡ lasts_in log + cond (is_none h.1) 1 0
  unfolding one_of
  lasts_push [] h = omega (arith, lasts_cons h [])
  lasts_push (g ∷ log) h = omega (arith, lasts_cons g (log ++ h ∷ []), lasts_cons g log, lasts_push log h)
