-- A block cut in rows.
use Rattle.std.proofs.Common.{◌≡◌, ℕ, ◌+◌, ◌*◌, ◌<◌, ◌≤◌, List, [], ◌∷◌, ◌++◌, length, get_or, take, drop, min, map, refl, sym, ap, ◌∙◌, arith}
use Rattle.std.specs.List.{range_with_len}
use Rattle.std.proofs.lemmas.List.{ext_get_or, take_min, drop_min, drop-drop, get_or-take, get_or-drop, length-take}
use Rattle.std.proofs.lemmas.List.FromFn.{map-range_with_len_more}
use Rattle.gf_field.specs.Fragments.{string_len, padded, row, rows_of}
use Rattle.gf_field.proofs.lemmas.FragmentLaws.{length-padded, padded-at, length-row, row-at}

-- a row is what the block has in its place, padded
pub row-padded : (m : ℕ) (D : List ℕ) (k L : ℕ) → 1 ≤ m → k < m → L ≡ string_len m (length D) → padded L (take L (drop (k * L) D)) ≡ row m D k
row-padded m D k L some hk is =
    let held = take L (drop (k * L) D) in
    let within : length held ≤ L = let l = length-take L (drop (k * L) D) in omega arith in
    let len = length-padded L held within in
    ext_get_or 0 (padded L held) (row m D k) (len ∙ is ∙ sym (length-row m D k some hk))
    (λ j hj.
    let low : j < L = omega arith in
    padded-at L held j
    ∙ get_or-take L (drop (k * L) D) j 0 low
    ∙ get_or-drop (k * L) D j 0
    ∙ ap (λ l. get_or D (k * l + j) 0) is
    ∙ sym (row-at m D k j (let s = is in omega arith)))

pub rows-more : (m k L n : ℕ) (D rest held new : List ℕ) (rows : List (List ℕ)) → 1 ≤ m → k < m → L ≡ string_len m (length D)
    → n ≡ min L (length rest) → rest ≡ drop (k * L) D → held ≡ take n rest → new ≡ padded L held
    → rows ≡ map (row m D) (range_with_len 0 k) → rows ++ new ∷ [] ≡ map (row m D) (range_with_len 0 (k + 1))
rows-more m k L n D rest held new rows some hk is least at cut e h =
    let whole : held ≡ take L (drop (k * L) D) = cut ∙ ap (λ i. take i rest) least ∙ take_min L rest ∙ ap (take L) at in
    let last : new ≡ row m D k = e ∙ ap (padded L) whole ∙ row-padded m D k L some hk is in
    ap (λ r. rows ++ r ∷ []) last ∙ ap (λ z. z ++ row m D k ∷ []) h ∙ sym (map-range_with_len_more (row m D) 0 k k (omega arith))

pub rest-more : (k L n : ℕ) (D rest after : List ℕ) → n ≡ min L (length rest) → rest ≡ drop (k * L) D → after ≡ drop n rest → after ≡ drop ((k + 1) * L) D
rest-more k L n D rest after least at e =
    e ∙ ap (λ i. drop i rest) least ∙ drop_min L rest ∙ ap (drop L) at ∙ drop-drop L (k * L) D
    ∙ ap (λ i. drop i D) (let f : k * L + L ≡ (k + 1) * L = omega arith in f)

pub first-rows : (m : ℕ) (D : List ℕ) → map (row m D) (range_with_len 0 m) ≡ rows_of m D
unfolding rows_of
first-rows m D = refl
