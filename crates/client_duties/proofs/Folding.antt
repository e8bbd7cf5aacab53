-- Numbers that are put in order one after the other, and items for numbers from 0 on.
use Rattle.std.proofs.Common.{◌≡◌, ℕ, suc, ◌+◌, ◌<◌, List, [], ◌∷◌, ◌++◌, length, map, fold, drop, drop-cons, get_or, refl, sym, ap, ◌∙◌, append_assoc, arith}
use Rattle.std.specs.List.{flat_map, range_with_len}
use Rattle.std.proofs.lemmas.List.{map_push, append-nil}
use Rattle.std.specs.Ordering.{nat_cmp}
use Rattle.std.specs.BTreeSet.{insert_key}
use Rattle.lists.proofs.lemmas.Members.{range_more}

pub fold_append : (start : List ℕ) (xs ys : List ℕ) → fold (insert_key nat_cmp) start (xs ++ ys) ≡ fold (insert_key nat_cmp) (fold (insert_key nat_cmp) start xs) ys
fold_append start [] ys = refl
fold_append start (x ∷ xs) ys = fold_append (insert_key nat_cmp start x) xs ys

-- what f gives at one number more
pub one_at : {A : Type 0} (f : ℕ → A) (n : ℕ) → map f (range_with_len 0 (n + 1)) ≡ map f (range_with_len 0 n) ++ f n ∷ []
one_at f n = ap (map f) (range_more n) ∙ map_push f (range_with_len 0 n) n

pub one_more : {A : Type 0} (old : List A) (f : ℕ → A) (n : ℕ) → (old ++ map f (range_with_len 0 n)) ++ f n ∷ [] ≡ old ++ map f (range_with_len 0 (n + 1))
one_more old f n = append_assoc old (map f (range_with_len 0 n)) (f n ∷ []) ∙ ap (λ (xs : List _). old ++ xs) (sym (one_at f n))

flat_last : {A : Type 0} (f : ℕ → List A) (xs : List ℕ) (n : ℕ) → flat_map f (xs ++ n ∷ []) ≡ flat_map f xs ++ f n
flat_last f [] n = append-nil (f n)
flat_last f (x ∷ xs) n = ap (λ (ys : List _). f x ++ ys) (flat_last f xs n) ∙ sym (append_assoc (f x) (flat_map f xs) (f n))

pub many_more : {A : Type 0} (old : List A) (f : ℕ → List A) (n : ℕ) → (old ++ flat_map f (range_with_len 0 n)) ++ f n ≡ old ++ flat_map f (range_with_len 0 (n + 1))
many_more old f n =
    append_assoc old (flat_map f (range_with_len 0 n)) (f n)
    ∙ ap (λ (xs : List _). old ++ xs) (sym (flat_last f (range_with_len 0 n) n) ∙ ap (flat_map f) (sym (range_more n)))

-- the items from a place on are the one that stands there, and those after it
pub from_place : {A : Type 0} (xs : List A) (k : ℕ) (x : A) → k < length xs → x ≡ get_or xs k x → drop k xs ≡ x ∷ drop (k + 1) xs
from_place xs k x l e =
    let on : suc k ≡ k + 1 = omega arith in
    drop-cons xs k x l ∙ ap (λ (n : ℕ). get_or xs k x ∷ drop n xs) on ∙ ap (λ (y : _). y ∷ drop (k + 1) xs) (sym e)
