-- A string as the weighted sum of others, and as a copy of one.
use Rattle.std.proofs.Common.{◌≡◌, ℕ, ◌+◌, ◌<◌, List, [], length, get_or, replicate, sym, ap, ◌∙◌, add-one}
use Rattle.std.proofs.lemmas.List.{get_or-replicate}
use Rattle.std.proofs.lemmas.List.FromFn.{fill_by_all}
use Rattle.gf_field.specs.Field.{product, total}
use Rattle.gf_field.specs.Polynomials.{sum_below, AreElements, AreDistinct}
use Rattle.gf_field.specs.Interpolation.{weight, interpolated}
use Rattle.gf_field.specs.Fragments.{byte, string_at, HaveElements}
use Rattle.gf_field.proofs.lemmas.Lagrange.{interpolated-at_point}
use Rattle.gf_field.proofs.lemmas.Sums.{sum_below-none, sum_below-more}

pub string_at-from : (L : ℕ) (xs : List ℕ) (ss : List (List ℕ)) (x : ℕ) (s : List ℕ) → length s ≡ L
    → ((j : ℕ) → j < L → get_or s j 0 ≡ interpolated xs (λ k. byte ss k j) x) → s ≡ string_at L xs ss x
unfolding string_at
string_at-from L xs ss x s len h = fill_by_all (λ j. interpolated xs (λ k. byte ss k j) x) s L 0 len h

-- the summands of byte j of the string at x
abbrev pub summand : List ℕ → List (List ℕ) → ℕ → ℕ → ℕ → ℕ
summand xs ss x j k = product (weight xs k x) (byte ss k j)

pub summed_begins : (x : ℕ) (xs : List ℕ) (ss : List (List ℕ)) (s : List ℕ) → s ≡ replicate (length s) 0
    → (j : ℕ) → j < length s → get_or s j 0 ≡ sum_below 0 (summand xs ss x j)
summed_begins x xs ss s h j hj = ap (λ s. get_or s j 0) h ∙ get_or-replicate (length s) j 0 0 hj ∙ sym (sum_below-none (summand xs ss x j))

pub summed_more : (L k x : ℕ) (xs : List ℕ) (ss : List (List ℕ)) (old new : List ℕ)
    → ((j : ℕ) → j < L → get_or old j 0 ≡ sum_below k (summand xs ss x j))
    → ((j : ℕ) → j < L → get_or new j 0 ≡ total (get_or old j 0) (summand xs ss x j k))
    → (j : ℕ) → j < L → get_or new j 0 ≡ sum_below (k + 1) (summand xs ss x j)
summed_more L k x xs ss old new sums h j hj =
    h j hj ∙ ap (λ s. total s (summand xs ss x j k)) (sums j hj)
    ∙ sym (sum_below-more k (summand xs ss x j)) ∙ ap (λ n. sum_below n (summand xs ss x j)) (sym (add-one k))

pub summed_ends : (L k x : ℕ) (xs : List ℕ) (ss : List (List ℕ)) (s : List ℕ) → k ≡ length xs → length s ≡ L
    → ((j : ℕ) → j < L → get_or s j 0 ≡ sum_below k (summand xs ss x j)) → s ≡ string_at L xs ss x
unfolding interpolated
summed_ends L k x xs ss s e len h =
    string_at-from L xs ss x s len (λ j hj. h j hj ∙ ap (λ n. sum_below n (summand xs ss x j)) e)

pub string_at-copied : (L k x : ℕ) (xs : List ℕ) (ss : List (List ℕ)) (s : List ℕ) → AreElements xs → AreDistinct xs → k < length xs → get_or xs k 0 ≡ x
    → s ≡ get_or ss k [] → length s ≡ L → HaveElements ss → s ≡ string_at L xs ss x
string_at-copied L k x xs ss s hx d hk e f len elements =
    string_at-from L xs ss x s len
    (λ j hj.
    let here : get_or s j 0 ≡ byte ss k j = ap (λ r. get_or r j 0) f in
    here
    ∙ sym (interpolated-at_point xs (λ i. byte ss i j) k hx d hk (elements k j))
    ∙ ap (interpolated xs (λ i. byte ss i j)) e)
