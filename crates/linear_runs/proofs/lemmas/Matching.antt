-- Lists with the same members, each once, and what filters and maps leave of such lists.
use Rattle.std.proofs.Common.{◌≡◌, Bool, true, false, cond, filter, map, List, [], ◌∷◌, ◌++◌, Option, ◌||◌, refl, sym, ap, ◌∙◌, inl, inr}
use Rattle.std.specs.declared.option.Option.TheVariants.{None, Some}
use Rattle.std.specs.List.{Contains, filter_map, cons_option, list_any}
use Rattle.std.specs.List.Sorted.{IsPermutation}
use Rattle.std.proofs.lemmas.List.Sorted.{IsPermutation-refl, IsPermutation-cons, IsPermutation-trans, IsPermutation-sym, IsPermutation-middle, IsPermutation-append, IsPermutation-append_left, IsPermutation-append_comm, Contains-permutation}
use Rattle.std.proofs.lemmas.Bool.{or_cases}
use Rattle.std.proofs.lemmas.List.{append_assoc}
use Rattle.lists.proofs.lemmas.Members.{Contains-head, Contains-none, Contains-rest, Contains-cons_cases, Contains-map_cases, filter_is}

-- no member stands twice
abbrev pub Once : {X : Type 0} → List X → Type 0
Once [] = Unit {0}
Once (x ∷ xs) = (Contains xs x → ⊥) × Once xs

-- ys is x and these others, among which x isn't
pub record Without {X : Type 0} (ys : List X) (x : X) : Type 0 where
  pub others : List X
  pub moved : IsPermutation ys (x ∷ others)
  pub once : Once others
  pub gone : Contains others x → ⊥
  pub back : (z : X) → Contains others z → Contains ys z

pub without_member : {X : Type 0} (ys : List X) (x : X) → Once ys → Contains ys x → Without ys x
without_member [] x once there = absurd (Contains-none x there)
without_member {X} (y ∷ ys) x once there =
    let rest = without_member ys x once.1 in
    elim (Contains-cons_cases x y ys there) [ inl e ↦ here e | inr k ↦ later k (rest k) ]
  where
    here : x ≡ y → Without (y ∷ ys) x
    here e = record {
      others = ys;
      moved = rw e (IsPermutation-refl (y ∷ ys));
      once = once.1;
      gone = λ k. once.0 (let g = rw e at k in g);
      back = λ z k. Contains-rest z y ys k;
    }

    later : Contains ys x → Without ys x → Without (y ∷ ys) x
    later k w = record {
      others = y ∷ w.others;
      moved = IsPermutation-trans _ _ _ (IsPermutation-cons y ys (x ∷ w.others) w.moved) (IsPermutation-middle (y ∷ []) x w.others);
      once = (λ l. once.0 (w.back y l), w.once);
      gone = λ l. elim (Contains-cons_cases x y w.others l) [ inl e ↦ once.0 (let g = rw e at k in g) | inr m ↦ w.gone m ];
      back = λ z l. elim (Contains-cons_cases z y w.others l) [ inl e ↦ rw e (Contains-head y ys) | inr m ↦ Contains-rest z y ys (w.back z m) ];
    }

-- two lists with the same members, each once, are one in another order
pub same_members : {X : Type 0} (xs ys : List X) → Once xs → Once ys → ((x : X) → Contains xs x → Contains ys x) → ((x : X) → Contains ys x → Contains xs x) → IsPermutation xs ys
same_members [] [] a b to from = IsPermutation-refl []
same_members [] (y ∷ ys) a b to from = absurd (Contains-none y (from y (Contains-head y ys)))
same_members {X} (x ∷ xs) ys a b to from =
    let w = without_member ys x b (to x (Contains-head x xs)) in
    IsPermutation-trans _ _ _
    (IsPermutation-cons x xs w.others (same_members xs w.others a.1 w.once (onto w) (back w)))
    (IsPermutation-sym _ _ w.moved)
  where
    onto : (w : Without ys x) (z : X) → Contains xs z → Contains w.others z
    onto w z k = elim (Contains-cons_cases z x w.others (Contains-permutation ys (x ∷ w.others) z w.moved (to z (Contains-rest z x xs k)))) [
      | inl e ↦ absurd (a.0 (let g = rw e at k in g))
      | inr m ↦ m
    ]

    back : (w : Without ys x) (z : X) → Contains w.others z → Contains xs z
    back w z k = elim (Contains-cons_cases z x xs (from z (w.back z k))) [
      | inl e ↦ absurd (w.gone (let g = rw e at k in g))
      | inr m ↦ m
    ]

pub once_filter : {X : Type 0} (p : X → Bool) (xs : List X) → Once xs → Once (filter p xs)
once_filter p [] h = tt
once_filter p (x ∷ xs) h = at (p x) (once_filter p xs h.1)
  where
    at : (b : Bool) → Once (filter p xs) → Once (cond b (x ∷ filter p xs) (filter p xs))
    at true k = (λ l. h.0 (filter_is p xs x l).0, k)
    at false k = k

-- a map that tells members apart
pub once_map : {X Y : Type 0} (f : X → Y) (xs : List X) → Once xs → ((x y : X) → Contains xs x → Contains xs y → f x ≡ f y → x ≡ y) → Once (map f xs)
once_map f [] h one = tt
once_map f (x ∷ xs) h one = (
  λ l. let m = Contains-map_cases f xs (f x) l in
      let e = one x m.0 (Contains-head x xs) (Contains-rest m.0 x xs m.1) m.2 in
      h.0 (rw e m.1),
  once_map f xs h.1 (λ a b k l. one a b (Contains-rest a x xs k) (Contains-rest b x xs l)),
)

-- what a filter_map gives is made of a member
pub filter_map_is : {X Y : Type 0} (f : X → Option Y) (xs : List X) (y : Y) → Contains (filter_map f xs) y → (x : X) × Contains xs x × (f x ≡ Some y)
filter_map_is f [] y h = absurd (Contains-none y h)
filter_map_is {X} {Y} f (x ∷ xs) y h = at (f x) refl h (filter_map_is f xs y)
  where
    later : (z : X) × Contains xs z × (f z ≡ Some y) → (z : X) × Contains (x ∷ xs) z × (f z ≡ Some y)
    later k = (k.0, Contains-rest k.0 x xs k.1, k.2)

    at : (o : Option Y) → f x ≡ o → Contains (cons_option o (filter_map f xs)) y → (Contains (filter_map f xs) y → (z : X) × Contains xs z × (f z ≡ Some y)) → (z : X) × Contains (x ∷ xs) z × (f z ≡ Some y)
    at None e k rest = later (rest k)
    at (Some v) e k rest = elim (Contains-cons_cases y v (filter_map f xs) k) [ inl g ↦ (x, Contains-head x xs, e ∙ ap (λ z. Some z) (sym g)) | inr m ↦ later (rest m) ]

pub filter_map_has : {X Y : Type 0} (f : X → Option Y) (xs : List X) (x : X) (y : Y) → Contains xs x → f x ≡ Some y → Contains (filter_map f xs) y
filter_map_has f [] x y h e = absurd (Contains-none x h)
filter_map_has {X} {Y} f (z ∷ xs) x y h e = elim (Contains-cons_cases x z xs h) [ inl g ↦ here (f z) (ap f (sym g) ∙ e) | inr k ↦ at (f z) (filter_map_has f xs x y k e) ]
  where
    here : (o : Option Y) → o ≡ Some y → Contains (cons_option o (filter_map f xs)) y
    here o g = rw g (Contains-head y (filter_map f xs))

    at : (o : Option Y) → Contains (filter_map f xs) y → Contains (cons_option o (filter_map f xs)) y
    at None k = k
    at (Some v) k = Contains-rest y v (filter_map f xs) k

pub once_made : {X Y : Type 0} (f : X → Option Y) (xs : List X) → Once xs → ((x z : X) (y : Y) → Contains xs x → Contains xs z → f x ≡ Some y → f z ≡ Some y → x ≡ z) → Once (filter_map f xs)
once_made f [] h one = tt
once_made {X} {Y} f (x ∷ xs) h one = at (f x) refl (once_made f xs h.1 (λ a b y k l. one a b y (Contains-rest a x xs k) (Contains-rest b x xs l)))
  where
    at : (o : Option Y) → f x ≡ o → Once (filter_map f xs) → Once (cons_option o (filter_map f xs))
    at None e k = k
    at (Some v) e k = (
      λ l. let m = filter_map_is f xs v l in
          let g = one x m.0 v (Contains-head x xs) (Contains-rest m.0 x xs m.1) e m.2 in
          h.0 (rw g m.1),
      k,
    )

-- a test that one passes, or none
pub any_is : {X : Type 0} (p : X → Bool) (xs : List X) → list_any p xs ≡ true → (x : X) × Contains xs x × (p x ≡ true)
any_is p [] h = absurd (cc)
any_is p (x ∷ xs) h =
    let rest = any_is p xs in
    elim (or_cases (p x) (list_any p xs) h) [ inl e ↦ (x, Contains-head x xs, e) | inr k ↦ (let r = rest k in (r.0, Contains-rest r.0 x xs r.1, r.2)) ]

pub any_has : {X : Type 0} (p : X → Bool) (xs : List X) (x : X) → Contains xs x → p x ≡ true → list_any p xs ≡ true
any_has p [] x h e = absurd (Contains-none x h)
any_has p (y ∷ ys) x h e =
    elim (Contains-cons_cases x y ys h) [ inl g ↦ here (ap p (sym g) ∙ e) | inr k ↦ rw (any_has p ys x k e) (at (p y)) ]
  where
    here : p y ≡ true → p y || list_any p ys ≡ true
    here g = rw g refl

    at : (b : Bool) → b || true ≡ true
    at true = refl
    at false = refl

-- a filter of a map is a map of a filter
pub filter_map_of : {X Y : Type 0} (f : X → Y) (p : Y → Bool) (q : X → Bool) → ((x : X) → p (f x) ≡ q x) → (xs : List X) → filter p (map f xs) ≡ map f (filter q xs)
filter_map_of f p q same [] = refl
filter_map_of {X} f p q same (x ∷ xs) = rw (same x, filter_map_of f p q same xs) (at (q x))
  where
    at : (b : Bool) → cond b (f x ∷ map f (filter q xs)) (map f (filter q xs)) ≡ map f (cond b (x ∷ filter q xs) (filter q xs))
    at true = refl
    at false = refl

pub map_same : {X Y : Type 0} (f g : X → Y) (xs : List X) → ((x : X) → Contains xs x → f x ≡ g x) → map f xs ≡ map g xs
map_same f g [] h = refl
map_same {X} {Y} f g (x ∷ xs) h = rw (h x (Contains-head x xs), map_same f g xs (λ y k. h y (Contains-rest y x xs k))) refl

-- two lists that are made of parts
pub permutation_of_parts : {X : Type 0} (all known left own rest other both : List X) → IsPermutation all (known ++ left) → IsPermutation known own → IsPermutation both (other ++ own) → IsPermutation rest other → IsPermutation (all ++ rest) (both ++ left)
permutation_of_parts all known left own rest other both a b c d =
    IsPermutation-trans _ _ _ (IsPermutation-append all (known ++ left) rest other a d)
    (IsPermutation-trans _ _ _ (IsPermutation-append_left other (known ++ left) (own ++ left) (IsPermutation-append_left left known own b))
    (IsPermutation-trans _ _ _ (IsPermutation-append_comm (own ++ left) other)
    (rw (← append_assoc) (IsPermutation-append_left left (other ++ own) both (IsPermutation-sym _ _ c)))))

pub filter_none : {X : Type 0} (p : X → Bool) (xs : List X) → ((x : X) → Contains xs x → p x ≡ true → ⊥) → filter p xs ≡ []
filter_none p [] h = refl
filter_none {X} p (x ∷ xs) h = at (p x) refl (filter_none p xs (λ y k. h y (Contains-rest y x xs k)))
  where
    at : (b : Bool) → p x ≡ b → filter p xs ≡ [] → cond b (x ∷ filter p xs) (filter p xs) ≡ []
    at true e k = absurd (h x (Contains-head x xs) e)
    at false e k = k
