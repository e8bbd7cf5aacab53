-- The fragments of a block exist and are unique, and so are the rows of parts.
use Rattle.std.proofs.Common.{◌≡◌, ℕ, zero, suc, ◌+◌, ◌-◌, ◌*◌, ◌/◌, ◌%◌, ◌<◌, ◌≤◌, inl, inr, List, [], ◌∷◌, ◌++◌, length, get_or, take, drop, map, replicate, refl, sym, ap, subst, ◌∙◌, arith, length-append, length-take-le}
use Rattle.std.specs.List.{range_with_len, concat, slice_range}
use Rattle.std.proofs.lemmas.Bool.{cases_lt}
use Rattle.std.proofs.lemmas.Nat.{row_fits, div_below, mod_below, div-add-mod'}
use Rattle.std.proofs.lemmas.Grind.{div_ceil_times}
use Rattle.std.proofs.Math.Nat.{mul_comm}
use Rattle.std.proofs.lemmas.List.{length-drop, length-take, length-replicate, get_or-take, get_or-drop, get_or_append_left, get_or-append_right, get_or-append-add, get_or-replicate, get_or_past, ext_get_or}
use Rattle.std.proofs.lemmas.List.FromFn.{length-map-range_with_len, get_or-map-range_with_len, length-range_with_len, get_or-range_with_len}
use Rattle.gf_field.specs.Polynomials.{value_at, AreElements, AreDistinct, IsPolynomial}
use Rattle.gf_field.specs.Interpolation.{interpolated}
use Rattle.gf_field.specs.Fragments.{IsShape, string_len, byte, HaveElements, padded, row, IsFragments, AreParts, IsRows, IsDecoded, string_at, rows_of, fragments_of, decoded, AreFragmentsOf}
use Rattle.gf_field.proofs.lemmas.Lagrange.{same_polynomial, through, through_polynomial, value_at-through, interpolated-at_point}

-- ---- the numbers 0 to m - 1 as points
pub range_elements : (m : ℕ) → m ≤ 256 → AreElements (range_with_len 0 m)
range_elements m h k d hk =
    let e = get_or-range_with_len 0 m k d (omega (arith, length-range_with_len 0 m)) in
    let l = length-range_with_len 0 m in omega arith

pub range_distinct : (m : ℕ) → AreDistinct (range_with_len 0 m)
range_distinct m i j d hij hj =
    let l = length-range_with_len 0 m in
    let e = get_or-range_with_len 0 m i d (omega arith) in
    let f = get_or-range_with_len 0 m j d (omega arith) in λ same. omega arith

range_at : (m k : ℕ) → k < m → get_or (range_with_len 0 m) k 0 ≡ k
range_at m k h = let e = get_or-range_with_len 0 m k 0 h in omega arith

-- ---- rows of a block
pub zeros-at : (n i : ℕ) → get_or {A = ℕ} (replicate n 0) i 0 ≡ 0
zeros-at n i =
    elim (cases_lt i n) [
      | inl pad ↦ get_or-replicate n i 0 0 pad
      | inr end ↦ get_or_past (replicate n 0) i 0 (let l : length {A = ℕ} (replicate n 0) ≡ n = length-replicate n 0 in omega arith)
    ]

pub padded-at : (len : ℕ) (D : List ℕ) (i : ℕ) → get_or (padded len D) i 0 ≡ get_or D i 0
padded-at len D i =
    elim (cases_lt i (length D)) [
      | inl within ↦ get_or_append_left D (replicate (len - length D) 0) 0 i within
      | inr past ↦
          get_or-append_right D (replicate (len - length D) 0) (length D) i 0 refl past
          ∙ zeros-at (len - length D) (i - length D)
          ∙ sym (get_or_past D i 0 past)
    ]

pub length-padded : (len : ℕ) (D : List ℕ) → length D ≤ len → length (padded len D) ≡ len
length-padded len D h =
    length-append D (replicate (len - length D) 0) ∙ ap (λ n. length D + n) (length-replicate (len - length D) 0) ∙ omega arith

-- the strings hold the block
pub string_len_holds : (m size : ℕ) → 1 ≤ m → size ≤ m * string_len m size
string_len_holds m size h = let e = (div_ceil_times size m h).0 in let c = mul_comm m (string_len m size) in omega (arith, e, c)

pub length-cut : (k m L : ℕ) (s : List ℕ) → k < m → length s ≡ m * L → length (slice_range s (k * L) (k * L + L)) ≡ L
length-cut k m L s hk h =
    let room : k * L + L ≤ m * L = row_fits k L m L hk (omega arith) in
    let rest = length-drop (k * L) s in
    length-take (k * L + L - k * L) (drop (k * L) s) ∙ omega arith

pub length-row : (m : ℕ) (D : List ℕ) (k : ℕ) → 1 ≤ m → k < m → length (row m D k) ≡ string_len m (length D)
length-row m D k h hk =
    let L = string_len m (length D) in
    let whole = length-padded (m * L) D (string_len_holds m (length D) h) in
    length-cut k m L (padded (m * L) D) hk whole

pub row-at : (m : ℕ) (D : List ℕ) (k j : ℕ) → j < string_len m (length D) → get_or (row m D k) j 0 ≡ get_or D (k * string_len m (length D) + j) 0
row-at m D k j h =
    let L = string_len m (length D) in
    get_or-take (k * L + L - k * L) (drop (k * L) (padded (m * L) D)) j 0 (omega arith)
    ∙ get_or-drop (k * L) (padded (m * L) D) j 0
    ∙ padded-at (m * L) D (k * L + j)

pub length-rows_of : (m : ℕ) (D : List ℕ) → length (rows_of m D) ≡ m
unfolding rows_of
length-rows_of m D = length-map-range_with_len (row m D) 0 m

pub rows_of-at : (m : ℕ) (D : List ℕ) (k : ℕ) (d : List ℕ) → k < m → get_or (rows_of m D) k d ≡ row m D k
unfolding rows_of
rows_of-at m D k d h = get_or-map-range_with_len (row m D) 0 m k k d h (omega arith)

-- an element or 0
pub element_or_zero : (D : List ℕ) (i : ℕ) → AreElements D → get_or D i 0 < 256
element_or_zero D i h =
    elim (cases_lt i (length D)) [
      | inl within ↦ h i 0 within
      | inr past ↦ subst (λ x. x < 256) (sym (get_or_past D i 0 past)) (omega arith)
    ]

-- ---- strings by Lagrange's formula
pub length-string_at : (L : ℕ) (xs : List ℕ) (ss : List (List ℕ)) (x : ℕ) → length (string_at L xs ss x) ≡ L
unfolding string_at
length-string_at L xs ss x = length-map-range_with_len (λ j. interpolated xs (λ k. byte ss k j) x) 0 L

pub string_at-byte : (L : ℕ) (xs : List ℕ) (ss : List (List ℕ)) (x j : ℕ) → j < L → get_or (string_at L xs ss x) j 0 ≡ interpolated xs (λ k. byte ss k j) x
unfolding string_at
string_at-byte L xs ss x j h = get_or-map-range_with_len (λ j. interpolated xs (λ k. byte ss k j) x) 0 L j j 0 h (omega arith)

abbrev strings_at : ℕ → List ℕ → List (List ℕ) → ℕ → List (List ℕ)
strings_at L xs ss n = map (string_at L xs ss) (range_with_len 0 n)

strings_at-item : (L : ℕ) (xs : List ℕ) (ss : List (List ℕ)) (n k : ℕ) (d : List ℕ) → k < n → get_or (strings_at L xs ss n) k d ≡ string_at L xs ss k
strings_at-item L xs ss n k d h = get_or-map-range_with_len (string_at L xs ss) 0 n k k d h (omega arith)

strings_at-byte : (L : ℕ) (xs : List ℕ) (ss : List (List ℕ)) (n k j : ℕ) → k < n → j < L → byte (strings_at L xs ss n) k j ≡ interpolated xs (λ k. byte ss k j) k
strings_at-byte L xs ss n k j hk hj = ap (λ s. get_or s j 0) (strings_at-item L xs ss n k [] hk) ∙ string_at-byte L xs ss k j hj

strings_at-lengths : (L : ℕ) (xs : List ℕ) (ss : List (List ℕ)) (n k : ℕ) (d : List ℕ) → k < length (strings_at L xs ss n) → length (get_or (strings_at L xs ss n) k d) ≡ L
strings_at-lengths L xs ss n k d h =
    let l = length-map-range_with_len (string_at L xs ss) 0 n in
    ap length (strings_at-item L xs ss n k d (omega arith)) ∙ length-string_at L xs ss k

-- two lists of strings of one length with the same bytes
same_strings : (n L : ℕ) (fs gs : List (List ℕ)) → length fs ≡ n → length gs ≡ n
    → ((k : ℕ) → k < n → length (get_or fs k []) ≡ L) → ((k : ℕ) → k < n → length (get_or gs k []) ≡ L)
    → ((k j : ℕ) → k < n → j < L → byte fs k j ≡ byte gs k j) → fs ≡ gs
same_strings n L fs gs ef eg lf lg h =
    ext_get_or [] fs gs (ef ∙ sym eg)
    (λ k hk. let low : k < n = omega arith in
    ext_get_or 0 (get_or fs k []) (get_or gs k []) (lf k low ∙ sym (lg k low))
    (λ j hj. h k j low (let l = lf k low in omega arith)))

-- ---- fragments
pub fragments_exist : (n m : ℕ) (D : List ℕ) → IsShape n m → AreElements D → IsFragments n m D (fragments_of n m D)
unfolding fragments_of
fragments_exist n m D s hD =
    let L = string_len m (length D) in
    let xs = range_with_len 0 m in
    let some = s.some in
    let enough = s.enough in
    let few = s.few in
    let hx : AreElements xs = range_elements m (omega arith) in
    let dx : AreDistinct xs = range_distinct m in
    let lx : length xs ≡ m = length-range_with_len 0 m in
    record {
      count = length-map-range_with_len (string_at L xs (rows_of m D)) 0 n;
      lengths = strings_at-lengths L xs (rows_of m D) n;
      places = λ j hj.
          let y : ℕ → ℕ = λ k. byte (rows_of m D) k j in
          let is_row : (k : ℕ) → k < m → y k ≡ get_or (row m D k) j 0 = λ k hk. ap (λ r. get_or r j 0) (rows_of-at m D k [] hk) in
          let hy : (k : ℕ) → k < length xs → y k < 256 =
          λ k hk. subst (λ z. z < 256) (sym (is_row k (omega arith) ∙ row-at m D k j hj)) (element_or_zero D (k * L + j) hD) in
          let p : IsPolynomial m (through xs y) = subst (λ m. IsPolynomial m (through xs y)) lx (through_polynomial xs y hx dx hy) in (
            through xs y,
            p,
            λ k hk.
                value_at-through xs y k hx dx hy (omega arith)
                ∙ ap (interpolated xs y) (sym (range_at m k hk))
                ∙ interpolated-at_point xs y k hx dx (omega arith) (hy k (omega arith))
                ∙ is_row k hk,
            λ i hi. value_at-through xs y i hx dx hy (omega arith) ∙ sym (strings_at-byte L xs (rows_of m D) n i j hi hj),
          );
    }

pub fragments_unique : (n m : ℕ) (D : List ℕ) (fs gs : List (List ℕ)) → IsShape n m → IsFragments n m D fs → IsFragments n m D gs → fs ≡ gs
fragments_unique n m D fs gs s f g =
    let some = s.some in
    let enough = s.enough in
    let few = s.few in
    same_strings n (string_len m (length D)) fs gs f.count g.count
    (λ k hk. f.lengths k [] (let c = f.count in omega arith))
    (λ k hk. g.lengths k [] (let c = g.count in omega arith))
    (λ k j hk hj.
    let p = f.places j hj in
    let q = g.places j hj in
    let same : p.0 ≡ q.0 =
    same_polynomial m (range_with_len 0 m) p.0 q.0 (length-range_with_len 0 m) (range_elements m (omega arith)) (range_distinct m) p.1 q.1
    (λ i hi. subst (λ x. value_at p.0 x ≡ value_at q.0 x) (sym (range_at m i hi)) (p.2 i hi ∙ sym (q.2 i hi))) in
    sym (p.3 k hk) ∙ ap (λ c. value_at c k) same ∙ q.3 k hk)

pub fragments_of-is : (n m : ℕ) (D : List ℕ) (fs : List (List ℕ)) → IsShape n m → AreElements D → IsFragments n m D fs → fs ≡ fragments_of n m D
fragments_of-is n m D fs s hD f = fragments_unique n m D fs (fragments_of n m D) s f (fragments_exist n m D s hD)

-- ---- rows that parts determine
pub numbers_elements : (n m L : ℕ) (xs : List ℕ) (ss : List (List ℕ)) → n ≤ 16 → AreParts n m L xs ss → AreElements xs
numbers_elements n m L xs ss few p k d hk = let b = p.below k d hk in omega arith

pub rows_exist : (n m L : ℕ) (xs : List ℕ) (ss : List (List ℕ)) → IsShape n m → AreParts n m L xs ss → HaveElements ss → IsRows m L xs ss (strings_at L xs ss m)
rows_exist n m L xs ss s p h =
    let some = s.some in
    let enough = s.enough in
    let few = s.few in
    let hx : AreElements xs = numbers_elements n m L xs ss few p in
    let dx : AreDistinct xs = p.distinct in
    let lx : length xs ≡ m = p.numbers_count in
    record {
      count = length-map-range_with_len (string_at L xs ss) 0 m;
      lengths = strings_at-lengths L xs ss m;
      places = λ j hj.
          let y : ℕ → ℕ = λ k. byte ss k j in
          let hy : (k : ℕ) → k < length xs → y k < 256 = λ k hk. h k j in
          let q : IsPolynomial m (through xs y) = subst (λ m. IsPolynomial m (through xs y)) lx (through_polynomial xs y hx dx hy) in (
            through xs y,
            q,
            λ k hk.
                value_at-through xs y (get_or xs k 0) hx dx hy (hx k 0 (omega arith))
                ∙ interpolated-at_point xs y k hx dx (omega arith) (h k j),
            λ k hk. value_at-through xs y k hx dx hy (omega arith) ∙ sym (strings_at-byte L xs ss m k j hk hj),
          );
    }

pub rows_unique : (n m L : ℕ) (xs : List ℕ) (ss rows others : List (List ℕ)) → IsShape n m → AreParts n m L xs ss → IsRows m L xs ss rows → IsRows m L xs ss others → rows ≡ others
rows_unique n m L xs ss rows others s parts f g =
    let few = s.few in
    same_strings m L rows others f.count g.count
    (λ k hk. f.lengths k [] (let c = f.count in omega arith))
    (λ k hk. g.lengths k [] (let c = g.count in omega arith))
    (λ k j hk hj.
    let p = f.places j hj in
    let q = g.places j hj in
    let same : p.0 ≡ q.0 =
    same_polynomial m xs p.0 q.0 parts.numbers_count (numbers_elements n m L xs ss few parts) parts.distinct p.1 q.1
    (λ i hi. p.2 i hi ∙ sym (q.2 i hi)) in
    sym (p.3 k hk) ∙ ap (λ c. value_at c k) same ∙ q.3 k hk)

pub decoded_exists : (n m size : ℕ) (xs : List ℕ) (ss : List (List ℕ)) → IsShape n m → AreParts n m (string_len m size) xs ss → HaveElements ss
    → IsDecoded m size xs ss (decoded m size xs ss)
unfolding decoded
decoded_exists n m size xs ss s p h =
    record { rows = strings_at (string_len m size) xs ss m; determined = rows_exist n m (string_len m size) xs ss s p h; first = refl }

pub decoded_unique : (n m size : ℕ) (xs : List ℕ) (ss : List (List ℕ)) (D E : List ℕ) → IsShape n m → AreParts n m (string_len m size) xs ss
    → IsDecoded m size xs ss D → IsDecoded m size xs ss E → D ≡ E
decoded_unique n m size xs ss D E s p d e =
    d.first ∙ ap (λ rows. take size (concat rows)) (rows_unique n m (string_len m size) xs ss d.rows e.rows s p d.determined e.determined) ∙ sym e.first

-- ---- rows one after the other
pub concat_at : (L : ℕ) (rows : List (List ℕ)) (k j : ℕ) → ((i : ℕ) → i < length rows → length (get_or rows i []) ≡ L) → k < length rows → j < L
    → get_or (concat rows) (k * L + j) 0 ≡ byte rows k j
concat_at L [] k j h hk hj = absurd (omega arith)
concat_at L (r ∷ rows) zero j h hk hj =
    let len : length r ≡ L = h 0 (omega arith) in
    ap (λ i. get_or (r ++ concat rows) i 0) (let e : 0 * L + j ≡ j = omega arith in e) ∙ get_or_append_left r (concat rows) 0 j (omega arith)
concat_at L (r ∷ rows) (suc k) j h hk hj =
    let len : length r ≡ L = h 0 (omega arith) in
    let place : suc k * L + j ≡ length r + (k * L + j) = omega (arith, len) in
    ap (λ i. get_or (r ++ concat rows) i 0) place
    ∙ get_or-append-add r (concat rows) (k * L + j) 0
    ∙ concat_at L rows k j (λ i hi. h (suc i) (omega arith)) (omega arith) hj

pub length-concat : (L : ℕ) (rows : List (List ℕ)) → ((i : ℕ) → i < length rows → length (get_or rows i []) ≡ L) → length (concat rows) ≡ length rows * L
length-concat L [] h = omega arith
length-concat L (r ∷ rows) h =
    let len : length r ≡ L = h 0 (omega arith) in
    let rest = length-concat L rows (λ i hi. h (suc i) (omega arith)) in
    length-append r (concat rows) ∙ omega (arith, len, rest)

place_within : (i L m : ℕ) → i < m * L → (0 < L) × (i / L < m) × (i % L < L) × (i / L * L + i % L ≡ i)
place_within i zero m h = absurd (omega (arith, h))
place_within i (suc L) m h = (omega arith, div_below i (suc L) m (omega arith) h, mod_below i (suc L) (omega arith), div-add-mod' i (suc L))

take_concat : (L m : ℕ) (D : List ℕ) (rows : List (List ℕ)) → length rows ≡ m → ((i : ℕ) → i < length rows → length (get_or rows i []) ≡ L)
    → ((k j : ℕ) → k < m → j < L → byte rows k j ≡ get_or D (k * L + j) 0) → length D ≤ m * L → take (length D) (concat rows) ≡ D
take_concat L m D rows count lengths same room =
    let whole : length (concat rows) ≡ m * L = length-concat L rows lengths ∙ ap (λ n. n * L) count in
    let size : length (take (length D) (concat rows)) ≡ length D = length-take-le (length D) (concat rows) (omega arith) in
    ext_get_or 0 (take (length D) (concat rows)) D size
    (λ i hi.
    let low : i < length D = omega arith in
    let p = place_within i L m (omega arith) in
    get_or-take (length D) (concat rows) i 0 low
    ∙ ap (λ n. get_or (concat rows) n 0) (sym p.3)
    ∙ concat_at L rows (i / L) (i % L) lengths (let l = p.1 in omega arith) p.2
    ∙ same (i / L) (i % L) p.1 p.2
    ∙ ap (λ n. get_or D n 0) p.3)

pub take-rows_of : (m : ℕ) (D : List ℕ) → 1 ≤ m → take (length D) (concat (rows_of m D)) ≡ D
take-rows_of m D h =
    take_concat (string_len m (length D)) m D (rows_of m D) (length-rows_of m D)
    (λ i hi. let l = length-rows_of m D in ap length (rows_of-at m D i [] (omega arith)) ∙ length-row m D i h (omega arith))
    (λ k j hk hj. ap (λ r. get_or r j 0) (rows_of-at m D k [] hk) ∙ row-at m D k j hj)
    (string_len_holds m (length D) h)

pub fragments_decode : (n m : ℕ) (D : List ℕ) (xs : List ℕ) (ss : List (List ℕ)) → IsShape n m → AreParts n m (string_len m (length D)) xs ss
    → AreFragmentsOf n m D xs ss → IsDecoded m (length D) xs ss D
fragments_decode n m D xs ss s p f =
    let L = string_len m (length D) in
    let some = s.some in
    record {
      rows = rows_of m D;
      determined = record {
        count = length-rows_of m D;
        lengths = λ k d hk. let l = length-rows_of m D in ap length (rows_of-at m D k d (omega arith)) ∙ length-row m D k some (omega arith);
        places = λ j hj.
            let q = f.fragments.places j hj in (
              q.0,
              q.1,
              λ k hk. q.3 (get_or xs k 0) (let l = p.numbers_count in p.below k 0 (omega arith)) ∙ sym (ap (λ r. get_or r j 0) (f.each k hk)),
              λ k hk. q.2 k hk ∙ sym (ap (λ r. get_or r j 0) (rows_of-at m D k [] hk)),
            );
      };
      first = sym (take-rows_of m D some);
    }

-- ---- the statements of the laws
pub decoded-fragments : (n m size : ℕ) (xs : List ℕ) (ss : List (List ℕ)) (D : List ℕ) → IsShape n m → HaveElements ss → length D ≡ size
    → AreParts n m (string_len m size) xs ss → AreFragmentsOf n m D xs ss → decoded m size xs ss ≡ D
decoded-fragments n m size xs ss D s h e p f =
    let q = subst (λ z. AreParts n m (string_len m z) xs ss) (sym e) p in
    let d = subst (λ z. IsDecoded m z xs ss D) e (fragments_decode n m D xs ss s q f) in
    decoded_unique n m size xs ss (decoded m size xs ss) D s p (decoded_exists n m size xs ss s p h) d

pub length-decoded : (m size : ℕ) (xs : List ℕ) (ss : List (List ℕ)) → 1 ≤ m → length (decoded m size xs ss) ≡ size
unfolding decoded
length-decoded m size xs ss h =
    let L = string_len m size in
    let l = length-map-range_with_len (string_at L xs ss) 0 m in
    let whole : length (concat (strings_at L xs ss m)) ≡ m * L =
    length-concat L (strings_at L xs ss m) (λ i hi. strings_at-lengths L xs ss m i [] hi) ∙ ap (λ n. n * L) l in
    length-take-le size (concat (strings_at L xs ss m)) (subst (λ n. size ≤ n) (sym whole) (string_len_holds m size h))
