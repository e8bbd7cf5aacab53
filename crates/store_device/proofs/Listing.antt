-- Lists that a loop goes through, element by element.
use Rattle.std.proofs.Common.{◌≡◌, ℕ, suc, ◌+◌, ◌<◌, ◌≤◌, List, [], ◌∷◌, ◌++◌, length, map, take, get_or, set, sym, ◌∙◌, ap, arith}
use Rattle.std.proofs.lemmas.List.{take_all, take_more, map-append, map-set, get_or-set_other, length-map}
use Rattle.std.proofs.Math.Seq.{take-suc-set}

-- one element more was taken
pub more_taken : {X Y : Type 0} (f : X → Y) (xs : List X) (i : ℕ) (d : X) (ys new : List Y) (y : Y) → i < length xs
    → ys ≡ map f (take i xs) → new ≡ ys ++ y ∷ [] → y ≡ f (get_or xs i d) → new ≡ map f (take (i + 1) xs)
more_taken {Y = Y} f xs i d ys new y l so_far is this =
    is ∙ ap (λ (l : List Y). l ++ y ∷ []) so_far ∙ ap (λ (v : Y). map f (take i xs) ++ v ∷ []) this
    ∙ sym (map-append f (take i xs) (get_or xs i d ∷ [])) ∙ sym (ap (map f) (take_more xs i d l))

-- those behind the one that is changed stay
pub rest_stays : {X : Type 0} (xs ys : List X) (i : ℕ) (y : X) → ((k : ℕ) (d : X) → i ≤ k → get_or xs k d ≡ get_or ys k d)
    → (k : ℕ) (d : X) → i + 1 ≤ k → get_or (set xs i y) k d ≡ get_or ys k d
rest_stays xs ys i y same k d l = get_or-set_other xs i k y d (λ (e : k ≡ i). absurd (omega arith)) ∙ same k d (omega arith)

-- one element more is as it is to be
pub more_set : {X Y : Type 0} (f : X → Y) (xs : List X) (zs : List Y) (i : ℕ) (y : X) (e : Y) → i < length xs → i < length zs
    → take i (map f xs) ≡ take i zs → f y ≡ get_or zs i e → take (i + 1) (map f (set xs i y)) ≡ take (i + 1) zs
more_set {Y = Y} f xs zs i y e l m so_far this =
    let next : i + 1 ≡ suc i = omega arith in
    ap (take (i + 1)) (map-set f xs i y) ∙ ap (λ (n : ℕ). take n (set (map f xs) i (f y))) next
    ∙ take-suc-set (map f xs) i (f y) (let n = length-map xs f in omega arith)
    ∙ ap (λ (l : List Y). l ++ f y ∷ []) so_far ∙ ap (λ (v : Y). take i zs ++ v ∷ []) this ∙ sym (take_more zs i e m)

-- all of them are
pub all_set : {Y : Type 0} (xs zs : List Y) (i : ℕ) → length xs ≤ i → length zs ≤ i → take i xs ≡ take i zs → xs ≡ zs
all_set xs zs i l m same = sym (take_all i xs l) ∙ same ∙ take_all i zs m
