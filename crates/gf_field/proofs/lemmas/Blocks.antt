-- What is known of the fragments of a block and of what parts decode to, for those who use the code.
use Rattle.std.proofs.Common.{◌≡◌, ℕ, ◌+◌, ◌*◌, ◌<◌, inl, inr, List, [], ◌∷◌, length, get_or, map, replicate, All, refl, sym, ap, subst, ◌∙◌, arith}
use Rattle.std.specs.List.{range_with_len, concat, AllPairs}
use Rattle.std.specs.List.Sorted.{IsStrictlyIncreasing}
use Rattle.std.proofs.lemmas.List.{get_or_default, length-map, get_or-map, get_or_past, length-replicate, get_or-replicate}
use Rattle.std.proofs.lemmas.List.Elements.{All-append, All-take, All-nil, All-replicate, All-from_get_or, All-head, All-tail}
use Rattle.std.proofs.lemmas.List.Kept.{AllPairs-from_increasing}
use Rattle.std.proofs.lemmas.List.FromFn.{length-map-range_with_len, get_or-map-range_with_len}
use Rattle.std.proofs.lemmas.Bool.{cases_lt}
use Rattle.gf_field.specs.Field.{product, power}
use Rattle.gf_field.specs.Polynomials.{value_at, AreElements, AreDistinct, IsPolynomial}
use Rattle.gf_field.specs.Fragments.{IsShape, string_len, byte, string, HaveElements, AreStrings, IsFragments, AreParts, AreFragmentsOf, string_at, fragments_of, decoded}
use Rattle.gf_field.proofs.lemmas.FieldLaws.{product-zero_left}
use Rattle.gf_field.proofs.lemmas.Sums.{value_at-lt, sum_below-zero}
use Rattle.gf_field.proofs.lemmas.Lagrange.{interpolated-lt}
use Rattle.gf_field.proofs.lemmas.FragmentLaws.{fragments_exist, fragments_of-is, length-string_at, string_at-byte, row-at, zeros-at, element_or_zero, numbers_elements, decoded-fragments, length-decoded}

-- ---- fragments
pub length-fragments_of : (n m : ℕ) (D : List ℕ) → length (fragments_of n m D) ≡ n
unfolding fragments_of
length-fragments_of n m D = length-map-range_with_len _ 0 n

pub fragment-at : (n m i : ℕ) (D d : List ℕ) → i < n → get_or (fragments_of n m D) i d ≡ string (fragments_of n m D) i
fragment-at n m i D d h = let l = length-fragments_of n m D in get_or_default (fragments_of n m D) i d [] (omega arith)

pub length-fragment : (n m i : ℕ) (D : List ℕ) → i < n → length (string (fragments_of n m D) i) ≡ string_len m (length D)
unfolding fragments_of
length-fragment n m i D h = ap length (get_or-map-range_with_len _ 0 n i i [] h (omega arith)) ∙ length-string_at (string_len m (length D)) _ _ i

pub fragment_bytes : (n m i : ℕ) (D : List ℕ) → IsShape n m → AreElements D → i < n → AreElements (string (fragments_of n m D) i)
fragment_bytes n m i D s hD h =
    let f = fragments_exist n m D s hD in
    let len = length-fragment n m i D h in
    let few = s.few in
    All-from_get_or (λ x. x < 256) (string (fragments_of n m D) i) 0
    (λ j hj. let p = f.places j (omega arith) in subst (λ x. x < 256) (p.3 i h) (value_at-lt p.0 i p.1.elements (omega arith)))

pub fragments_are_strings : (n m : ℕ) (D : List ℕ) → IsShape n m → AreElements D → AreStrings n (string_len m (length D)) (fragments_of n m D)
fragments_are_strings n m D s hD =
    let l = length-fragments_of n m D in
    record {
      count = l;
      lengths = λ i d hi. ap length (fragment-at n m i D d (omega arith)) ∙ length-fragment n m i D (omega arith);
      bytes = λ i d hi. subst AreElements (sym (fragment-at n m i D d (omega arith))) (fragment_bytes n m i D s hD (omega arith));
    }

-- ---- parts
pub elements_of_strings : (ss : List (List ℕ)) → All AreElements ss → HaveElements ss
elements_of_strings ss h k j =
    elim (cases_lt k (length ss)) [
      | inl within ↦ element_or_zero (string ss k) j (h k [] within)
      | inr past ↦ let e : byte ss k j ≡ 0 = ap (λ r. get_or r j 0) (get_or_past ss k [] past) in omega arith
    ]

concat_elements : (ss : List (List ℕ)) → All AreElements ss → AreElements (concat ss)
concat_elements [] h = All-nil (λ x. x < 256)
concat_elements (s ∷ ss) h =
    All-append (λ x. x < 256) s (concat ss) (All-head AreElements s ss h) (concat_elements ss (All-tail AreElements s ss h))

pub string_at_bytes : (L x : ℕ) (xs : List ℕ) (ss : List (List ℕ)) → AreElements xs → AreDistinct xs → HaveElements ss → x < 256 → AreElements (string_at L xs ss x)
string_at_bytes L x xs ss hx dx h lt =
    let len = length-string_at L xs ss x in
    All-from_get_or (λ z. z < 256) (string_at L xs ss x) 0
    (λ j hj. subst (λ z. z < 256) (sym (string_at-byte L xs ss x j (omega arith))) (interpolated-lt xs (λ k. byte ss k j) x hx dx (λ k hk. h k j) lt))

pub decoded_bytes : (n m size : ℕ) (xs : List ℕ) (ss : List (List ℕ)) → IsShape n m → AreParts n m (string_len m size) xs ss → HaveElements ss
    → AreElements (decoded m size xs ss)
unfolding decoded
decoded_bytes n m size xs ss s p h =
    let L = string_len m size in
    let few = s.few in
    let enough = s.enough in
    let hx = numbers_elements n m L xs ss few p in
    let l = length-map-range_with_len (string_at L xs ss) 0 m in
    All-take (λ x. x < 256) size (concat (map (string_at L xs ss) (range_with_len 0 m)))
    (concat_elements (map (string_at L xs ss) (range_with_len 0 m))
    (λ k d hk. subst AreElements (sym (get_or-map-range_with_len (string_at L xs ss) 0 m k k d (omega arith) (omega arith)))
    (string_at_bytes L k xs ss hx p.distinct h (omega arith))))

pub decoded_is_block : (n m size : ℕ) (xs : List ℕ) (ss : List (List ℕ)) → IsShape n m → AreParts n m (string_len m size) xs ss → All AreElements ss
    → (length (decoded m size xs ss) ≡ size) × AreElements (decoded m size xs ss)
decoded_is_block n m size xs ss s p h = (length-decoded m size xs ss s.some, decoded_bytes n m size xs ss s p (elements_of_strings ss h))

pub AreDistinct-ascending : (xs : List ℕ) → AllPairs (λ x y. x < y) xs → AreDistinct xs
AreDistinct-ascending xs h i j d hij hj = let lt = h i j d hij hj in λ same. omega arith

-- strings under the numbers of fragments, each that fragment
pub decoded-fragments_of : (n m size : ℕ) (xs : List ℕ) (ss : List (List ℕ)) (D : List ℕ) → IsShape n m → AreElements D → length D ≡ size
    → length xs ≡ m → length ss ≡ m → All (λ i. i < n) xs → AreDistinct xs
    → ((k : ℕ) → k < m → string ss k ≡ string (fragments_of n m D) (get_or xs k 0)) → decoded m size xs ss ≡ D
decoded-fragments_of n m size xs ss D s hD e lx ls below distinct each =
    let own : (k : ℕ) → k < m → get_or xs k 0 < n = λ k hk. below k 0 (omega arith) in
    let bytes : All AreElements ss = All-from_get_or AreElements ss [] (λ k hk. subst AreElements (sym (each k (omega arith))) (fragment_bytes n m (get_or xs k 0) D s hD (own k (omega arith)))) in
    let parts : AreParts n m (string_len m size) xs ss = record {
      numbers_count = lx;
      count = ls;
      below = below;
      distinct = distinct;
      lengths = All-from_get_or (λ z. length z ≡ string_len m size) ss []
          (λ k hk. ap length (each k (omega arith)) ∙ length-fragment n m (get_or xs k 0) D (own k (omega arith)) ∙ ap (string_len m) e);
    } in
    let fragments : AreFragmentsOf n m D xs ss = record { all = fragments_of n m D; fragments = fragments_exist n m D s hD; each = each } in
    decoded-fragments n m size xs ss D s (elements_of_strings ss bytes) e parts fragments

pub ascending_fragments_decode : (n m : ℕ) (D xs : List ℕ) → IsShape n m → AreElements D → length xs ≡ m → All (λ i. i < n) xs → IsStrictlyIncreasing xs
    → decoded m (length D) xs (map (string (fragments_of n m D)) xs) ≡ D
ascending_fragments_decode n m D xs s hD l below up =
    decoded-fragments_of n m (length D) xs (map (string (fragments_of n m D)) xs) D s hD refl l (length-map xs (string (fragments_of n m D)) ∙ l) below
    (AreDistinct-ascending xs (AllPairs-from_increasing xs up))
    (λ k hk. get_or-map (string (fragments_of n m D)) xs k 0 [] (omega arith))

-- ---- the block of zeros
value_at-zeros : (m x : ℕ) → value_at (replicate m 0) x ≡ 0
unfolding value_at
value_at-zeros m x =
    let l : length {A = ℕ} (replicate m 0) ≡ m = length-replicate m 0 in
    sum_below-zero _ _ (λ k hk. ap (λ c. product c (power x k)) (get_or-replicate m k 0 0 (omega arith)) ∙ product-zero_left (power x k))

zeros_polynomial : (m : ℕ) → IsPolynomial m (replicate m 0)
zeros_polynomial m = record { terms = length-replicate m 0; elements = All-replicate (λ x. x < 256) m 0 (omega arith) }

pub fragments_of-zeros : (n m size : ℕ) → IsShape n m → fragments_of n m (replicate size 0) ≡ replicate n (replicate (string_len m size) 0)
fragments_of-zeros n m size s =
    let D : List ℕ = replicate size 0 in
    let L = string_len m size in
    let zeros : List (List ℕ) = replicate n (replicate L 0) in
    let len : length D ≡ size = length-replicate size 0 in
    let same : string_len m (length D) ≡ L = ap (string_len m) len in
    let at : (i j : ℕ) → i < n → byte zeros i j ≡ 0 = λ i j hi. ap (λ r. get_or r j 0) (get_or-replicate n i (replicate L 0) [] hi) ∙ zeros-at L j in
    let is : IsFragments n m D zeros = record {
      count = length-replicate n (replicate L 0);
      lengths = All-replicate (λ f. length f ≡ string_len m (length D)) n (replicate L 0) (length-replicate L 0 ∙ sym same);
      places = λ j hj. (
        replicate m 0,
        zeros_polynomial m,
        λ k hk. value_at-zeros m k ∙ sym (row-at m D k j hj ∙ zeros-at size (k * string_len m (length D) + j)),
        λ i hi. value_at-zeros m i ∙ sym (at i j hi),
      );
    } in
    sym (fragments_of-is n m D zeros s (All-replicate (λ x. x < 256) size 0 (omega arith)) is)
