-- What `filter_map` lists.
use Rattle.std.proofs.Common.{◌≡◌, Bool, true, false, cond, List, [], ◌∷◌, ◌++◌, map, filter, Option, refl, inl, inr}
use Rattle.std.specs.declared.option.Option.TheVariants.{None, Some}
use Rattle.std.specs.List.{Contains, filter_map, cons_option}
use Rattle.lists.proofs.lemmas.Members.{Contains-head, Contains-none, Contains-rest, Contains-cons_cases}

module _ {X Y : Type 0} (f : X → Option Y) where
  -- what is listed was given for some element
  pub listed_from : (xs : List X) (y : Y) → Contains (filter_map f xs) y → (x : X) × Contains xs x × (f x ≡ Some y)
  listed_from [] y h = absurd (Contains-none y h)
  listed_from (x ∷ xs) y h = at (f x) refl h (listed_from xs y)
    where
      at : (o : Option Y) → f x ≡ o → Contains (cons_option o (filter_map f xs)) y → (Contains (filter_map f xs) y → (z : X) × Contains xs z × (f z ≡ Some y)) → (z : X) × Contains (x ∷ xs) z × (f z ≡ Some y)
      at None e k rest = let r = rest k in (r.0, Contains-rest r.0 x xs r.1, r.2)
      at (Some w) e k rest =
          elim (Contains-cons_cases y w (filter_map f xs) k)
          [ inl q ↦ (x, Contains-head x xs, rw q e) | inr l ↦ (let r = rest l in (r.0, Contains-rest r.0 x xs r.1, r.2)) ]

  -- what is given for an element is listed
  pub listed_to : (xs : List X) (x : X) (y : Y) → Contains xs x → f x ≡ Some y → Contains (filter_map f xs) y
  listed_to [] x y h e = absurd (Contains-none x h)
  listed_to (z ∷ xs) x y h e = elim (Contains-cons_cases x z xs h) [ inl q ↦ here (f z) (rw (← q) e) | inr l ↦ there (f z) (listed_to xs x y l e) ]
    where
      here : (o : Option Y) → o ≡ Some y → Contains (cons_option o (filter_map f xs)) y
      here o q = rw q (Contains-head y (filter_map f xs))

      there : (o : Option Y) → Contains (filter_map f xs) y → Contains (cons_option o (filter_map f xs)) y
      there None k = k
      there (Some w) k = Contains-rest y w (filter_map f xs) k

  -- one more element, for which something is given
  pub listed-push : (xs : List X) (x : X) (y : Y) → f x ≡ Some y → filter_map f (xs ++ x ∷ []) ≡ filter_map f xs ++ y ∷ []
  listed-push [] x y e = rw e refl
  listed-push (z ∷ xs) x y e = rw (listed-push xs x y e) (at (f z))
    where
      at : (o : Option Y) → cons_option o (filter_map f xs ++ y ∷ []) ≡ cons_option o (filter_map f xs) ++ y ∷ []
      at None = refl
      at (Some w) = refl

  -- another function that gives the same for each element
  pub listed-same : (g : X → Option Y) (xs : List X) → ((x : X) → Contains xs x → f x ≡ g x) → filter_map f xs ≡ filter_map g xs
  listed-same g [] h = refl
  listed-same g (x ∷ xs) h =
      let rest = listed-same g xs (λ z k. h z (Contains-rest z x xs k)) in
      rw (h x (Contains-head x xs), rest) refl

  -- of the elements that pass, where what is given for an element passes as the element does
  pub listed-filter : (p : X → Bool) (q : Y → Bool) (xs : List X) → ((x : X) (y : Y) → Contains xs x → f x ≡ Some y → q y ≡ p x) → ((x : X) → Contains xs x → (y : Y) × (f x ≡ Some y)) → filter_map f (filter p xs) ≡ filter q (filter_map f xs)
  listed-filter p q [] h g = refl
  listed-filter p q (x ∷ xs) h g =
      let rest = listed-filter p q xs (λ z y k. h z y (Contains-rest z x xs k)) (λ z k. g z (Contains-rest z x xs k)) in
      let y = g x (Contains-head x xs) in
      at (p x) (h x y.0 (Contains-head x xs) y.1) y.1 rest
    where
      at : (b : Bool) {y : Y} → q y ≡ b → f x ≡ Some y → filter_map f (filter p xs) ≡ filter q (filter_map f xs) → filter_map f (cond b (x ∷ filter p xs) (filter p xs)) ≡ filter q (cons_option (f x) (filter_map f xs))
      at true {y} e k rest = rw (k, e, rest) refl
      at false {y} e k rest = rw (k, e, rest) refl

  -- where each element is read off what is given for it, reading the list gives the elements
  pub read-listed : (g : Y → X) (xs : List X) → ((x : X) → Contains xs x → (y : Y) × (f x ≡ Some y) × (g y ≡ x)) → map g (filter_map f xs) ≡ xs
  read-listed g [] h = refl
  read-listed g (x ∷ xs) h =
      let rest = read-listed g xs (λ z k. h z (Contains-rest z x xs k)) in
      let y = h x (Contains-head x xs) in
      rw (y.1, rest, y.2) refl
