-- A round of vectors is a round of each lane.
use Rattle.std.proofs.Common.{◌≡◌, ℕ, ◌+◌, ◌%◌, ◌<◌, List, [], ◌∷◌, length, slice_index, slice_index_or, replicate, refl, arith}
use lib.Lanes.{zip2}
use Rattle.sha2.specs.Sha256.{add32, add_state, big_sigma0, big_sigma1, ch, maj, round, small_sigma0, small_sigma1, temp1, temp2, window_word}
use Rattle.digest_lanes.specs.Lanes.{AreVectors, HasLanes, lane}
use Rattle.digest_lanes.proofs.Vectors.{self, splat, two, as_lanes, lane_at, vector_at}

module _ (v : List (List ℕ)) (k : ℕ) (word s1 c s0 m : List ℕ) (held : AreVectors 8 v) (lw : length word ≡ 4)
    (hs1 : HasLanes s1 (λ j. big_sigma1 (slice_index (slice_index_or v 4 []) j)))
    (hc : HasLanes c (λ j. ch (slice_index (slice_index_or v 4 []) j) (slice_index (slice_index_or v 5 []) j) (slice_index (slice_index_or v 6 []) j)))
    (hs0 : HasLanes s0 (λ j. big_sigma0 (slice_index (slice_index_or v 0 []) j)))
    (hm : HasLanes m (λ j. maj (slice_index (slice_index_or v 0 []) j) (slice_index (slice_index_or v 1 []) j) (slice_index (slice_index_or v 2 []) j))) where
  at : (i j : ℕ) → i < 8 → slice_index (slice_index_or v i []) j ≡ slice_index (lane v j) i
  at i j h = lane_at 8 v i j held h

  abbrev pub first : List ℕ
  first = zip2 add32 (zip2 add32 (zip2 add32 (zip2 add32 (slice_index_or v 7 []) s1) c) (replicate 4 k)) word

  abbrev pub second : List ℕ
  second = zip2 add32 s0 m

  first_is : HasLanes first (λ j. temp1 (lane v j) k (slice_index word j))
  first_is =
      as_lanes _ _ _ (two _ _ _ _ _ (two _ _ _ _ _ (two _ _ _ _ _ (two _ _ _ _ _ (vector_at 8 v 7 held (omega arith)) hs1) hc) (splat k)) (self word lw))
      (λ j h. rw (at 4 j (omega arith), at 5 j (omega arith), at 6 j (omega arith)) refl)

  second_is : HasLanes second (λ j. temp2 (lane v j))
  second_is =
      as_lanes _ _ _ (two _ _ _ _ _ hs0 hm)
      (λ j h. rw (at 0 j (omega arith), at 1 j (omega arith), at 2 j (omega arith)) refl)

  abbrev pub next : List (List ℕ)
  next =
      zip2 add32 first second ∷ slice_index_or v 0 [] ∷ slice_index_or v 1 [] ∷ slice_index_or v 2 []
      ∷ zip2 add32 (slice_index_or v 3 []) first ∷ slice_index_or v 4 [] ∷ slice_index_or v 5 [] ∷ slice_index_or v 6 [] ∷ []

  pub vectors : AreVectors 8 next
  vectors =
      let old = λ (i : ℕ) (h : i < 8). (vector_at 8 v i held h).len in
      record {
        count = refl;
        each = (
          (two _ _ _ _ _ first_is second_is).len,
          (
            old 0 (omega arith),
            (
              old 1 (omega arith),
              (
                old 2 (omega arith),
                (
                  (two _ _ _ _ _ (vector_at 8 v 3 held (omega arith)) first_is).len,
                  (old 4 (omega arith), (old 5 (omega arith), (old 6 (omega arith), tt))),
                ),
              ),
            ),
          ),
        );
      }

  pub rounded : (j : ℕ) → j < 4 → lane next j ≡ round (lane v j) k (slice_index word j)
  rounded j h =
      let kept : (i : ℕ) → i < 8 → slice_index (slice_index_or v i []) j ≡ slice_index (lane v j) i = λ i lt. at i j lt in
      let b = kept 0 (omega arith) in
      let c0 = kept 1 (omega arith) in
      let d = kept 2 (omega arith) in
      let f = kept 4 (omega arith) in
      let g = kept 5 (omega arith) in
      let k0 = kept 6 (omega arith) in
      let fourth = vector_at 8 v 3 held (omega arith) in
      let a = (two _ _ _ _ _ first_is second_is).each j h in
      let e = (two _ _ _ _ _ fourth first_is).each j h in
      λ i. a i ∷ b i ∷ c0 i ∷ d i ∷ e i ∷ f i ∷ g i ∷ k0 i ∷ []

-- the next word of the ring, lane by lane
module _ (w : List (List ℕ)) (place : ℕ) (s1 s0 : List ℕ) (held : AreVectors 16 w) (lt : place < 16)
    (hs1 : HasLanes s1 (λ j. small_sigma1 (slice_index (slice_index_or w ((place + 14) % 16) []) j)))
    (hs0 : HasLanes s0 (λ j. small_sigma0 (slice_index (slice_index_or w ((place + 1) % 16) []) j))) where
  abbrev pub word : List ℕ
  word = zip2 add32 (zip2 add32 (zip2 add32 s1 (slice_index_or w ((place + 9) % 16) [])) s0) (slice_index_or w place [])

  pub word_is : HasLanes word (λ j. window_word (lane w j) place)
  word_is =
      let same : place % 16 ≡ place = omega arith in
      as_lanes _ _ _ (two _ _ _ _ _ (two _ _ _ _ _ (two _ _ _ _ _ hs1 (vector_at 16 w ((place + 9) % 16) held (omega arith))) hs0) (vector_at 16 w place held lt))
      (λ j h. rw (lane_at 16 w ((place + 14) % 16) j held (omega arith), lane_at 16 w ((place + 1) % 16) j held (omega arith), same) refl)

-- the sums of two lists of vectors
module _ (s v : List (List ℕ)) (before : AreVectors 8 s) (after : AreVectors 8 v) where
  sum_at : (i : ℕ) → i < 8 → HasLanes (zip2 add32 (slice_index_or s i []) (slice_index_or v i [])) (λ j. add32 (slice_index (lane s j) i) (slice_index (lane v j) i))
  sum_at i h = two _ _ _ _ _ (vector_at 8 s i before h) (vector_at 8 v i after h)

  abbrev pub total : ℕ → List ℕ
  total i = zip2 add32 (slice_index_or s i []) (slice_index_or v i [])

  abbrev pub totals : List (List ℕ)
  totals = total 0 ∷ total 1 ∷ total 2 ∷ total 3 ∷ total 4 ∷ total 5 ∷ total 6 ∷ total 7 ∷ []

  pub totals_vectors : AreVectors 8 totals
  totals_vectors =
      let l = λ (i : ℕ) (h : i < 8). (sum_at i h).len in
      record {
        count = refl;
        each = (l 0 (omega arith), (l 1 (omega arith), (l 2 (omega arith), (l 3 (omega arith), (l 4 (omega arith), (l 5 (omega arith), (l 6 (omega arith), (l 7 (omega arith), tt))))))));
      }

  pub added : (j : ℕ) → j < 4 → lane totals j ≡ add_state (lane s j) (lane v j)
  added j h =
      let e = λ (i : ℕ) (lt : i < 8). (sum_at i lt).each j h in
      λ i. e 0 (omega arith) i ∷ e 1 (omega arith) i ∷ e 2 (omega arith) i ∷ e 3 (omega arith) i
      ∷ e 4 (omega arith) i ∷ e 5 (omega arith) i ∷ e 6 (omega arith) i ∷ e 7 (omega arith) i ∷ []
