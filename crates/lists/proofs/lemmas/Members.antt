-- What is known of the members of lists, and of lists with one item more or another one.
use Rattle.std.proofs.Common.{◌≡◌, ◌⊎◌, ℕ, zero, suc, ◌<◌, Bool, true, false, cond, filter, List, [], ◌∷◌, ◌++◌, map, length, refl, sym, ap, subst, ◌∙◌, inl, inr, arith, ◌+◌, ◌-◌}
use Rattle.std.specs.Prelude.{slice_get, slice_set, All}
use Rattle.std.specs.declared.option.Option.TheVariants.{Some}
use Rattle.std.specs.List.{Contains, AllByRecursion, range_with_len}
use Rattle.std.proofs.lemmas.Option.{slice_get-get_or, slice_get_within, get_or_from_slice_get}
use Rattle.std.proofs.lemmas.List.{map-id}
use Rattle.std.proofs.lemmas.List.FromFn.{map-range_with_len_more}

pub Contains-head : {X : Type 0} (x : X) (xs : List X) → Contains (x ∷ xs) x
Contains-head x xs = (0, omega arith, refl)

pub Contains-none : {X : Type 0} (x : X) → Contains [] x → ⊥
Contains-none x h = let l : h.0 < 0 = h.1 in omega arith

pub Contains-rest : {X : Type 0} (x y : X) (xs : List X) → Contains xs x → Contains (y ∷ xs) x
Contains-rest x y xs h = (suc h.0, omega (arith, h.1), h.2)

pub Contains-cons_cases : {X : Type 0} (x y : X) (xs : List X) → Contains (y ∷ xs) x → (x ≡ y) ⊎ Contains xs x
Contains-cons_cases x y xs (zero, l, e) = inl (sym e)
Contains-cons_cases x y xs (suc k, l, e) = inr (k, omega (arith, l), e)

pub Contains-one : {X : Type 0} (x y : X) → Contains (y ∷ []) x → x ≡ y
Contains-one x y h = elim (Contains-cons_cases x y [] h) [ inl e ↦ e | inr r ↦ absurd (Contains-none x r) ]

pub Contains-map_cases : {X Y : Type 0} (f : X → Y) (xs : List X) (y : Y) → Contains (map f xs) y → (x : X) × Contains xs x × (y ≡ f x)
Contains-map_cases f [] y h = absurd (Contains-none y h)
Contains-map_cases f (x ∷ xs) y h =
    let rest = Contains-map_cases f xs y in
    elim (Contains-cons_cases y (f x) (map f xs) h) [ inl e ↦ (x, Contains-head x xs, e) | inr r ↦ (let q = rest r in (q.0, Contains-rest q.0 x xs q.1, q.2)) ]

pub Contains-map : {X Y : Type 0} (f : X → Y) (xs : List X) (x : X) → Contains xs x → Contains (map f xs) (f x)
Contains-map f [] x h = absurd (Contains-none x h)
Contains-map f (z ∷ xs) x h =
    let rest = Contains-map f xs x in
    elim (Contains-cons_cases x z xs h) [ inl e ↦ rw e (Contains-head (f z) (map f xs)) | inr r ↦ Contains-rest (f x) (f z) (map f xs) (rest r) ]

-- what a filter leaves is what passes
pub filter_is : {X : Type 0} (p : X → Bool) (xs : List X) (x : X) → Contains (filter p xs) x → Contains xs x × (p x ≡ true)
filter_is p [] x h = absurd (Contains-none x h)
filter_is p (y ∷ ys) x h = at (p y) refl h (filter_is p ys x)
  where
    at : (b : Bool) → p y ≡ b → Contains (cond b (y ∷ filter p ys) (filter p ys)) x → (Contains (filter p ys) x → Contains ys x × (p x ≡ true)) → Contains (y ∷ ys) x × (p x ≡ true)
    at true e k rest = elim (Contains-cons_cases x y (filter p ys) k) [ inl f ↦ (rw f (Contains-head y ys), rw f e) | inr f ↦ (let r = rest f in (Contains-rest x y ys r.0, r.1)) ]
    at false e k rest = let r = rest k in (Contains-rest x y ys r.0, r.1)

pub filter_has : {X : Type 0} (p : X → Bool) (xs : List X) (x : X) → Contains xs x → p x ≡ true → Contains (filter p xs) x
filter_has p [] x h e = absurd (Contains-none x h)
filter_has p (y ∷ ys) x h e = elim (Contains-cons_cases x y ys h) [ inl f ↦ here (p y) refl f | inr f ↦ at (p y) (filter_has p ys x f e) ]
  where
    here : (b : Bool) → p y ≡ b → x ≡ y → Contains (cond b (y ∷ filter p ys) (filter p ys)) x
    here true g f = rw f (Contains-head y (filter p ys))
    here false g f = absurd (let k : p x ≡ false = rw f g in cc)

    at : (b : Bool) → Contains (filter p ys) x → Contains (cond b (y ∷ filter p ys) (filter p ys)) x
    at true k = Contains-rest x y (filter p ys) k
    at false k = k

-- the elements of a list
pub all_from_members : {X : Type 0} (P : X → Type 0) (xs : List X) → ((x : X) → Contains xs x → P x) → AllByRecursion P xs
all_from_members P [] h = tt
all_from_members P (x ∷ xs) h = (h x (Contains-head x xs), all_from_members P xs (λ y k. h y (Contains-rest y x xs k)))

pub member_of_all : {X : Type 0} (P : X → Type 0) (xs : List X) → AllByRecursion P xs → (x : X) → Contains xs x → P x
member_of_all P [] h x there = absurd (Contains-none x there)
member_of_all P (y ∷ xs) h x there = elim (Contains-cons_cases x y xs there) [ inl is ↦ subst P (sym is) h.0 | inr then ↦ member_of_all P xs h.1 x then ]

pub all_push : {X : Type 0} (P : X → Type 0) (xs : List X) (x : X) → AllByRecursion P xs → P x → AllByRecursion P (xs ++ x ∷ [])
all_push P [] x h p = (p, tt)
all_push P (y ∷ xs) x h p = (h.0, all_push P xs x h.1 p)

-- the new item stands where it was put
pub slice_get-set : {A : Type 0} (xs : List A) (k : ℕ) (x y : A) → slice_get xs k ≡ Some x → slice_get (slice_set xs k y) k ≡ Some y
slice_get-set [] k x y at = absurd cc
slice_get-set (z ∷ xs) zero x y at = refl
slice_get-set (z ∷ xs) (suc k) x y at = slice_get-set xs k x y at

-- what a list contains stands at a place
pub place_of : {A : Type 0} (xs : List A) (x : A) → Contains xs x → (k : ℕ) × (slice_get xs k ≡ Some x)
place_of xs x (k, lt, is) = (k, slice_get-get_or xs k x lt ∙ ap (λ y. Some y) is)

pub slice_get-pushed : {A : Type 0} (xs : List A) (x : A) → slice_get (xs ++ x ∷ []) (length xs) ≡ Some x
slice_get-pushed [] x = refl
slice_get-pushed (z ∷ xs) x = slice_get-pushed xs x

pub nil_of_length : {A : Type 0} (xs : List A) → 0 ≡ length xs → xs ≡ []
nil_of_length [] is = refl
nil_of_length (x ∷ xs) is = absurd (omega arith)

-- what has a number when one more stands at the end
pub slice_get-push : {A : Type 0} (xs : List A) (x : A) (k : ℕ) (y : A) → slice_get xs k ≡ Some y → slice_get (xs ++ x ∷ []) k ≡ Some y
slice_get-push [] x k y e = absurd (cc)
slice_get-push (z ∷ zs) x zero y e = e
slice_get-push (z ∷ zs) x (suc k) y e = slice_get-push zs x k y e

pub slice_get-front : {A : Type 0} (xs : List A) (x : A) (i : ℕ) → i < length xs → slice_get (xs ++ x ∷ []) i ≡ slice_get xs i
slice_get-front [] x i lt = absurd (omega arith)
slice_get-front (y ∷ xs) x zero lt = refl
slice_get-front (y ∷ xs) x (suc i) lt = slice_get-front xs x i (omega arith)

-- an element of a list and of one that begins with it
pub slice_get-append_left : {X : Type 0} (xs ys : List X) (k : ℕ) (x : X) → slice_get xs k ≡ Some x → slice_get (xs ++ ys) k ≡ Some x
slice_get-append_left [] ys k x h = absurd (cc)
slice_get-append_left (y ∷ xs) ys zero x h = h
slice_get-append_left (y ∷ xs) ys (suc k) x h = slice_get-append_left xs ys k x h

pub all_at_place : {A : Type 0} (P : A → Type 0) (xs : List A) (k : ℕ) (x : A) → All P xs → slice_get xs k ≡ Some x → P x
all_at_place P xs k x all at = subst P (get_or_from_slice_get xs k x x at) (all k x (slice_get_within xs k x at))

pub slice_get-seam : {A : Type 0} (xs : List A) (y : A) (ys : List A) → slice_get (xs ++ y ∷ ys) (length xs) ≡ Some y
slice_get-seam [] y ys = refl
slice_get-seam (x ∷ xs) y ys = slice_get-seam xs y ys

-- what has a number, put in its place again, changes nothing
pub slice_set-there : {A : Type 0} (xs : List A) (i : ℕ) (x : A) → slice_get xs i ≡ Some x → slice_set xs i x ≡ xs
slice_set-there [] i x e = absurd (cc)
slice_set-there (z ∷ zs) zero x e = let q : x ≡ z = cc in λ j. q j ∷ zs
slice_set-there (z ∷ zs) (suc i) x e = λ j. z ∷ slice_set-there zs i x e j

-- the item at a place within a list
pub at_place : {A : Type 0} (xs : List A) (i : ℕ) → i < length xs → (x : A) × (slice_get xs i ≡ Some x)
at_place [] i lt = absurd (omega arith)
at_place (x ∷ xs) zero lt = (x, refl)
at_place (x ∷ xs) (suc i) lt = at_place xs i (omega arith)

pub Contains-slice_get : {A : Type 0} (xs : List A) (k : ℕ) (x : A) → slice_get xs k ≡ Some x → Contains xs x
Contains-slice_get xs k x at = (k, slice_get_within xs k x at, get_or_from_slice_get xs k x x at)

pub append_inj : (x y a b : List ℕ) → length x ≡ length y → x ++ a ≡ y ++ b → (x ≡ y) × (a ≡ b)
append_inj [] [] a b l e = (refl, e)
append_inj [] (c ∷ ys) a b l e = absurd (omega (arith, l))
append_inj (c ∷ xs) [] a b l e = absurd (omega (arith, l))
append_inj (c ∷ xs) (d ∷ ys) a b l e =
    let heads : c ≡ d = cc in
    let tails : xs ++ a ≡ ys ++ b = cc in
    let rest = append_inj xs ys a b (omega (arith, l)) tails in
    (rw (heads, rest.0) refl, rest.1)

pub range_more : (k : ℕ) → range_with_len 0 (k + 1) ≡ range_with_len 0 k ++ k ∷ []
range_more k =
    sym (map-id (range_with_len 0 (k + 1))) ∙ map-range_with_len_more (λ x. x) 0 k k (omega arith) ∙ ap (λ z. z ++ k ∷ []) (map-id (range_with_len 0 k))
