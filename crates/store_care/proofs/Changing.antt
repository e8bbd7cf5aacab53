-- Lists of which places were changed, each by its place.
use Rattle.std.proofs.Common.{◌≡◌, ℕ, ◌+◌, ◌<◌, inl, inr, List, [], ◌∷◌, ◌++◌, map, length, get_or, refl, sym, ap, subst, ◌∙◌, arith}
use Rattle.std.specs.List.{range_with_len}
use Rattle.std.proofs.lemmas.Bool.{cases_lt}
use Rattle.std.proofs.lemmas.List.FromFn.{map-range_with_len_more, get_or-map-range_with_len, length-map-range_with_len}
use Rattle.store_care.specs.Tallies.{AreChanged}
use Rattle.store_care.specs.Steps.{IsChangedAt}

module _ {X : Type 0} where
  pub none_changed : (f : ℕ → X → X) (xs : List X) → AreChanged f 0 xs xs
  none_changed f xs = record { same_length = refl; below = λ i x lt within. absurd (omega arith); others = λ i x le. refl }

  pub same_changed : (f : ℕ → X → X) (n : ℕ) (xs : List X) → ((i : ℕ) (x : X) → i < n → f i x ≡ x) → AreChanged f n xs xs
  same_changed f n xs same = record { same_length = refl; below = λ i x lt within. sym (same i (get_or xs i x) lt); others = λ i x le. refl }

  pub one_more_changed : (f : ℕ → X → X) (k : ℕ) (old mid new : List X) → AreChanged f k old mid → IsChangedAt k (f k) mid new → AreChanged f (k + 1) old new
  one_more_changed f k old mid new h here =
      let len : length new ≡ length old = here.same_length ∙ h.same_length in
      let at : (i : ℕ) (x : X) → i < k + 1 → i < length old → get_or new i x ≡ f i (get_or old i x) = λ i x lt within. elim (cases_lt i k) [
        | inl below ↦ here.others i x (λ e. omega arith) ∙ h.below i x below within
        | inr le ↦
            let is : i ≡ k = omega arith in
            let P : ℕ → Type 0 = λ j. get_or new j x ≡ f j (get_or old j x) in
            let inside : k < length mid = omega (arith, h.same_length) in
            subst P (sym is) (here.here x inside ∙ ap (f k) (h.others k x (omega arith)))
      ] in
      record {
        same_length = len;
        below = at;
        others = λ i x le. here.others i x (λ e. omega arith) ∙ h.others i x (omega arith);
      }

  pub then_changed : (f g : ℕ → X → X) (n : ℕ) (old mid new : List X) → AreChanged f n old mid → AreChanged g n mid new → AreChanged (λ i x. g i (f i x)) n old new
  then_changed f g n old mid new a b = record {
    same_length = b.same_length ∙ a.same_length;
    below = λ i x lt within. b.below i x lt (omega (arith, a.same_length)) ∙ ap (g i) (a.below i x lt within);
    others = λ i x le. b.others i x le ∙ a.others i x le;
  }

  pub changed_alike : (f g : ℕ → X → X) (n : ℕ) (old new : List X) → ((i : ℕ) (x : X) → i < n → f i x ≡ g i x) → AreChanged f n old new → AreChanged g n old new
  changed_alike f g n old new same h = record {
    same_length = h.same_length;
    below = λ i x lt within. h.below i x lt within ∙ same i (get_or old i x) lt;
    others = h.others;
  }

  pub unchanged_at : (place : ℕ) (f : X → X) (xs : List X) → ((x : X) → f x ≡ x) → IsChangedAt place f xs xs
  unchanged_at place f xs same = record { same_length = refl; here = λ x within. sym (same (get_or xs place x)); others = λ i x ne. refl }

-- a list that has for each place so far what it is there, and one place more
pub noted_more : {Y : Type 0} (f : ℕ → Y) (ys new : List Y) (k : ℕ) (y : Y) → ys ≡ map f (range_with_len 0 k) → new ≡ ys ++ y ∷ [] → y ≡ f k → new ≡ map f (range_with_len 0 (k + 1))
noted_more {Y} f ys new k y are more is =
    more ∙ ap (λ (zs : List Y). zs ++ y ∷ []) are ∙ ap (λ (z : Y). map f (range_with_len 0 k) ++ z ∷ []) is
    ∙ sym (map-range_with_len_more f 0 k k (omega arith))

-- what such a list has at a place
pub noted_at : {Y : Type 0} (f : ℕ → Y) (ys : List Y) (n k : ℕ) (d : Y) → ys ≡ map f (range_with_len 0 n) → k < n → get_or ys k d ≡ f k
noted_at {Y} f ys n k d are lt = ap (λ (zs : List Y). get_or zs k d) are ∙ get_or-map-range_with_len f 0 n k k d lt (omega arith)

pub noted_length : {Y : Type 0} (f : ℕ → Y) (ys : List Y) (n : ℕ) → ys ≡ map f (range_with_len 0 n) → length ys ≡ n
noted_length {Y} f ys n are = ap (λ (zs : List Y). length zs) are ∙ length-map-range_with_len f 0 n
