-- Fragments and decoded blocks, string by string.
use Rattle.std.proofs.Common.{◌≡◌, ℕ, ◌+◌, ◌*◌, ◌<◌, ◌≤◌, List, [], ◌∷◌, ◌++◌, length, get_or, take, map, All, refl, sym, ap, subst, ◌∙◌, arith}
use Rattle.std.specs.List.{range_with_len, concat}
use Rattle.std.proofs.lemmas.List.{append_assoc, append-nil, length-map, get_or-map}
use Rattle.std.specs.Borrow.{Bor}
use Rattle.std.proofs.lemmas.List.Elements.{All-from_get_or}
use Rattle.std.proofs.lemmas.List.FromFn.{map-range_with_len_more, take-map-range_with_len, fill_by_all, length-range_with_len, get_or-range_with_len}
use Rattle.gf_field.specs.Polynomials.{AreElements}
use Rattle.gf_field.specs.Fragments.{Shape, IsShape, HaveElements, string_len, row, rows_of, string_at, fragments_of, decoded}
use Rattle.gf_field.proofs.lemmas.FragmentLaws.{range_elements, range_distinct, length-row, row-at, length-rows_of, rows_of-at, element_or_zero}
use Rattle.gf_field.proofs.lemmas.Blocks.{elements_of_strings}
use Rattle.ida_code.specs.Lent.{lent}
use Rattle.ida_code.proofs.Summed.{string_at-copied}

-- ---- strings that are lent
pub lengths-lent : (refs : List (Bor (List ℕ))) (ss : List (List ℕ)) (L : ℕ) → lent refs ≡ ss → All (λ s. length s ≡ L) ss → All (λ (r : Bor (List ℕ)). length r.now ≡ L) refs
lengths-lent refs ss L e h k d hk =
    let l = length-map refs (λ (r : Bor (List ℕ)). r.now) in
    let f = ap length e in
    ap length (sym (get_or-map (λ (r : Bor (List ℕ)). r.now) refs k d [] hk) ∙ ap (λ z. get_or z k []) e) ∙ h k [] (omega arith)

-- ---- the shape behind a value
pub shape : (n m : ℕ) (s : Shape) → record { n = n; m = m } ≡ s → IsShape n m → IsShape s.n s.m
shape n m s e h = subst (λ (s : Shape). IsShape s.n s.m) e h

pub shape-n : (n m : ℕ) (s : Shape) → record { n = n; m = m } ≡ s → n ≡ s.n
shape-n n m s e = ap (λ (s : Shape). s.n) e

pub shape-m : (n m : ℕ) (s : Shape) → record { n = n; m = m } ≡ s → m ≡ s.m
shape-m n m s e = ap (λ (s : Shape). s.m) e

-- ---- rows as strings
row_elements : (m k : ℕ) (D : List ℕ) → 1 ≤ m → k < m → AreElements D → AreElements (row m D k)
row_elements m k D some hk h =
    let l = length-row m D k some hk in
    All-from_get_or (λ x. x < 256) (row m D k) 0
    (λ j hj. subst (λ x. x < 256) (sym (row-at m D k j (omega arith))) (element_or_zero D (k * string_len m (length D) + j) h))

pub rows_elements : (m : ℕ) (D : List ℕ) → 1 ≤ m → AreElements D → HaveElements (rows_of m D)
rows_elements m D some h =
    let l = length-rows_of m D in
    elements_of_strings (rows_of m D)
    (λ k d hk. subst AreElements (sym (rows_of-at m D k d (omega arith))) (row_elements m k D some (omega arith) h))

pub rows_lengths : (m L : ℕ) (D : List ℕ) → 1 ≤ m → L ≡ string_len m (length D) → All (λ s. length s ≡ L) (rows_of m D)
rows_lengths m L D some is k d hk =
    let l = length-rows_of m D in
    ap length (rows_of-at m D k d (omega arith)) ∙ length-row m D k some (omega arith) ∙ sym is

-- the row of each number is the string there
pub rows_of-strings : (n m L : ℕ) (D : List ℕ) → IsShape n m → AreElements D → L ≡ string_len m (length D)
    → rows_of m D ≡ map (string_at L (range_with_len 0 m) (rows_of m D)) (range_with_len 0 m)
rows_of-strings n m L D s h is =
    let few = s.few in
    let enough = s.enough in
    let some = s.some in
    let count = length-range_with_len 0 m in
    fill_by_all (string_at L (range_with_len 0 m) (rows_of m D)) (rows_of m D) m [] (length-rows_of m D)
    (λ k hk.
    rows_of-at m D k [] hk
    ∙ string_at-copied L k k (range_with_len 0 m) (rows_of m D) (row m D k) (range_elements m (omega arith)) (range_distinct m) (omega arith)
    (get_or-range_with_len 0 m k 0 hk ∙ omega arith)
    (sym (rows_of-at m D k [] hk)) (length-row m D k some hk ∙ sym is) (rows_elements m D some h))

pub rows_taken : (n m L i : ℕ) (D : List ℕ) (shares : List (List ℕ)) → IsShape n m → AreElements D → L ≡ string_len m (length D) → m ≤ i
    → shares ≡ map (string_at L (range_with_len 0 m) (rows_of m D)) (range_with_len 0 i) → take m shares ≡ rows_of m D
rows_taken n m L i D shares s h is le e =
    ap (take m) e ∙ take-map-range_with_len (string_at L (range_with_len 0 m) (rows_of m D)) 0 i m le ∙ sym (rows_of-strings n m L D s h is)

pub strings-more : (L : ℕ) (xs : List ℕ) (ss : List (List ℕ)) (k : ℕ) (s : List ℕ) (out : List (List ℕ)) → out ≡ map (string_at L xs ss) (range_with_len 0 k)
    → s ≡ string_at L xs ss k → out ++ s ∷ [] ≡ map (string_at L xs ss) (range_with_len 0 (k + 1))
strings-more L xs ss k s out h e =
    ap (λ z. z ++ s ∷ []) h ∙ ap (λ z. map (string_at L xs ss) (range_with_len 0 k) ++ z ∷ []) e
    ∙ sym (map-range_with_len_more (string_at L xs ss) 0 k k (omega arith))

pub fragments_of-from : (n m i L : ℕ) (D : List ℕ) (shares : List (List ℕ)) → shares ≡ map (string_at L (range_with_len 0 m) (rows_of m D)) (range_with_len 0 i)
    → i ≡ n → L ≡ string_len m (length D) → shares ≡ fragments_of n m D
unfolding fragments_of
fragments_of-from n m i L D shares e f g =
    e ∙ ap (λ n. map (string_at L (range_with_len 0 m) (rows_of m D)) (range_with_len 0 n)) f
    ∙ ap (λ l. map (string_at l (range_with_len 0 m) (rows_of m D)) (range_with_len 0 n)) g

-- ---- rows one after the other
concat-append : (a b : List (List ℕ)) → concat (a ++ b) ≡ concat a ++ concat b
concat-append [] b = refl
concat-append (r ∷ a) b = ap (λ z. r ++ z) (concat-append a b) ∙ sym (append_assoc r (concat a) (concat b))

pub concat-more : (L : ℕ) (xs : List ℕ) (ss : List (List ℕ)) (k : ℕ) (out : List ℕ) → out ≡ concat (map (string_at L xs ss) (range_with_len 0 k))
    → out ++ string_at L xs ss k ≡ concat (map (string_at L xs ss) (range_with_len 0 (k + 1)))
concat-more L xs ss k out h =
    ap (λ z. z ++ string_at L xs ss k) h
    ∙ ap (λ z. concat (map (string_at L xs ss) (range_with_len 0 k)) ++ z) (sym (append-nil (string_at L xs ss k)))
    ∙ sym (concat-append (map (string_at L xs ss) (range_with_len 0 k)) (string_at L xs ss k ∷ []))
    ∙ ap concat (sym (map-range_with_len_more (string_at L xs ss) 0 k k (omega arith)))

pub decoded-from : (size m k L : ℕ) (xs : List ℕ) (ss : List (List ℕ)) (d out : List ℕ) → d ≡ take size out → out ≡ concat (map (string_at L xs ss) (range_with_len 0 k))
    → k ≡ m → L ≡ string_len m size → d ≡ decoded m size xs ss
unfolding decoded
decoded-from size m k L xs ss d out e f g h =
    e ∙ ap (take size) (f ∙ ap (λ n. concat (map (string_at L xs ss) (range_with_len 0 n))) g ∙ ap (λ l. concat (map (string_at l xs ss) (range_with_len 0 m))) h)
