-- The lanes of what is computed of vectors.
use Rattle.std.proofs.Common.{◌≡◌, ℕ, zero, suc, ◌^◌, ◌<◌, List, [], length, map, get_or, slice_index, slice_index_or, replicate, set, refl, sym, ap, ◌∙◌, inl, inr, arith, w32, bit_xor, Fits}
use Rattle.std.proofs.lemmas.List.{get_or-map, get_or-set_same, get_or-set_other, length-map, length-set, map-set}
use Rattle.std.proofs.lemmas.Bool.{cases_eq}
use Rattle.std.proofs.lemmas.Simd.{Each1-from_get_or, Each1-get_or, get_or-zip2, get_or-replicate, length-zip2}
use Rattle.std.specs.Int.{rotate_right}
use lib.Lanes.{Each1, zip2}
use Rattle.digest_lanes.specs.Lanes.{AreVectors, HasLanes, lane}

pub self : (v : List ℕ) → length v ≡ 4 → HasLanes v (λ j. get_or v j 0)
self v l = record { len = l; each = λ j h. refl }

pub splat : (y : ℕ) → HasLanes (replicate 4 y) (λ j. y)
splat y = record { len = refl; each = λ j h. get_or-replicate 4 j y 0 h }

pub one : (f : ℕ → ℕ) (xs : List ℕ) (g : ℕ → ℕ) → HasLanes xs g → HasLanes (map f xs) (λ j. f (g j))
one f xs g p = record {
  len = length-map xs f ∙ p.len;
  each = λ j h. get_or-map f xs j 0 0 (let l = p.len in omega arith) ∙ ap f (p.each j h);
}

pub two : (f : ℕ → ℕ → ℕ) (xs ys : List ℕ) (g k : ℕ → ℕ) → HasLanes xs g → HasLanes ys k → HasLanes (zip2 f xs ys) (λ j. f (g j) (k j))
two f xs ys g k p q = record {
  len = length-zip2 f xs ys (p.len ∙ sym q.len) ∙ p.len;
  each = λ j h.
      get_or-zip2 f xs ys j 0 0 0 (let l = p.len in omega arith) (let l = q.len in omega arith)
      ∙ ap (λ x. f x (get_or ys j 0)) (p.each j h) ∙ ap (f (g j)) (q.each j h);
}

-- the same lanes, spelled another way
pub as_lanes : (v : List ℕ) (g k : ℕ → ℕ) → HasLanes v g → ((j : ℕ) → j < 4 → g j ≡ k j) → HasLanes v k
as_lanes v g k p e = record { len = p.len; each = λ j h. p.each j h ∙ e j h }

pub lane_at : (n : ℕ) (v : List (List ℕ)) (i j : ℕ) → AreVectors n v → i < n → slice_index (slice_index_or v i []) j ≡ slice_index (lane v j) i
lane_at n v i j p h = sym (get_or-map (λ x. slice_index x j) v i [] 0 (let l = p.count in omega arith))

pub vector_at : (n : ℕ) (v : List (List ℕ)) (i : ℕ) → AreVectors n v → i < n → HasLanes (slice_index_or v i []) (λ j. slice_index (lane v j) i)
vector_at n v i p h = record {
  len = Each1-get_or (λ (x : List ℕ). length x ≡ 4) v i [] (let l = p.count in omega arith) p.each;
  each = λ j lt. lane_at n v i j p h;
}

pub length-lane : (n : ℕ) (v : List (List ℕ)) (j : ℕ) → AreVectors n v → length (lane v j) ≡ n
length-lane n v j p = length-map v (λ x. slice_index x j) ∙ p.count

-- a vector written in the place of one
pub AreVectors_set : (n : ℕ) (v : List (List ℕ)) (i : ℕ) (x : List ℕ) → AreVectors n v → length x ≡ 4 → AreVectors n (set v i x)
AreVectors_set n v i x p l = record {
  count = length-set v i x ∙ p.count;
  each = Each1-from_get_or (λ (y : List ℕ). length y ≡ 4) (set v i x) [] (λ k h.
      let s = length-set v i x in
      let old : length (get_or v k []) ≡ 4 = Each1-get_or (λ (y : List ℕ). length y ≡ 4) v k [] (omega arith) p.each in
      elim (cases_eq k i) [
        | inl e ↦ ap length (ap (λ m. get_or (set v i x) m []) e ∙ get_or-set_same v i x [] (omega arith)) ∙ l
        | inr ne ↦ ap length (get_or-set_other v i k x [] ne) ∙ old
      ]);
}

pub lane_set : (v : List (List ℕ)) (i : ℕ) (x : List ℕ) (j : ℕ) → lane (set v i x) j ≡ set (lane v j) i (slice_index x j)
lane_set v i x j = map-set (λ y. slice_index y j) v i x

pub four_cases : (P : ℕ → Type 0) → P 0 → P 1 → P 2 → P 3 → (j : ℕ) → j < 4 → P j
four_cases P p q r s zero h = p
four_cases P p q r s (suc zero) h = q
four_cases P p q r s (suc (suc zero)) h = r
four_cases P p q r s (suc (suc (suc zero))) h = s
four_cases P p q r s (suc (suc (suc (suc j)))) h = absurd (omega arith)

-- a rotation of the sum without carries of x and what lies inside
pub inside : (x r out : List ℕ) (g : ℕ → ℕ) (k : ℕ) → length x ≡ 4 → HasLanes r g → HasLanes out (λ j. rotate_right w32 (get_or (zip2 bit_xor x r) j 0) k)
    → HasLanes out (λ j. rotate_right w32 (bit_xor (get_or x j 0) (g j)) k)
inside x r out g k l hr ho = as_lanes out _ _ ho (λ j h. ap (λ y. rotate_right w32 y k) ((two bit_xor x r _ g (self x l) hr).each j h))

pub lane_fits : (x : List ℕ) (j : ℕ) → length x ≡ 4 → Each1 (Fits w32) x → j < 4 → get_or x j 0 < 2 ^ 32
lane_fits x j l f h = (Each1-get_or (Fits w32) x j 0 (omega arith) f).fits
