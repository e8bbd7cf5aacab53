-- Members of lists.
use Rattle.std.proofs.Common.{◌≡◌, ◌⊎◌, ℕ, zero, suc, ◌<◌, List, [], ◌∷◌, ◌++◌, take, Option, refl, sym, ap, inl, inr, arith}
use Rattle.std.specs.declared.option.Option.TheVariants.{None, Some}
use Rattle.std.specs.List.{Contains}
use Rattle.std.proofs.lemmas.List.Elements.{Contains-append_cases, Contains-append_left, Contains-push}
use Rattle.protocol.specs.Count.{collect, one_more}
use Rattle.lists.proofs.lemmas.Members.{Contains-head, Contains-none, Contains-rest, Contains-cons_cases, Contains-one}

pub append_nil : {X : Type 0} (xs : List X) → xs ≡ xs ++ []
append_nil [] = refl
append_nil {X} (x ∷ xs) = ap (λ (l : List X). x ∷ l) (append_nil xs)

pub one_more_cases : {X : Type 0} (xs : List X) (o : Option X) (x : X) → Contains (one_more xs o) x → Contains xs x ⊎ (o ≡ Some x)
one_more_cases xs None x h = inl h
one_more_cases xs (Some y) x h = elim (Contains-append_cases xs (y ∷ []) x h) [ inl l ↦ inl l | inr r ↦ inr (ap Some (sym (Contains-one x y r))) ]

pub one_more_left : {X : Type 0} (xs : List X) (o : Option X) (x : X) → Contains xs x → Contains (one_more xs o) x
one_more_left xs None x h = h
one_more_left xs (Some y) x h = Contains-append_left xs (y ∷ []) x h

pub one_more_new : {X : Type 0} (xs : List X) (o : Option X) (x : X) → o ≡ Some x → Contains (one_more xs o) x
one_more_new xs o x e = rw e (Contains-push xs x)

-- what stands in a collected list was given at a number below n
pub Contains-collect : {X : Type 0} (n : ℕ) (f : ℕ → Option X) (x : X) → Contains (collect n f) x → (i : ℕ) × (i < n) × (f i ≡ Some x)
Contains-collect zero f x h = absurd (Contains-none x h)
Contains-collect (suc k) f x h =
    let rest = Contains-collect k f x in
    elim (one_more_cases (collect k f) (f k) x h) [ inl l ↦ (let r = rest l in (r.0, omega (arith, r.1), r.2)) | inr e ↦ (k, omega arith, e) ]

pub Contains-take : {X : Type 0} (n : ℕ) (xs : List X) (x : X) → Contains (take n xs) x → Contains xs x
Contains-take zero xs x h = absurd (Contains-none x h)
Contains-take (suc n) [] x h = h
Contains-take (suc n) (y ∷ xs) x h =
    let rest = Contains-take n xs x in
    elim (Contains-cons_cases x y (take n xs) h) [ inl e ↦ rw e (Contains-head y xs) | inr k ↦ Contains-rest x y xs (rest k) ]

-- what is given at a number below n stands in the collected list
pub Contains-collected : {X : Type 0} (n : ℕ) (f : ℕ → Option X) (x : X) (i : ℕ) → i < n → f i ≡ Some x → Contains (collect n f) x
Contains-collected zero f x i l e = absurd (omega arith)
Contains-collected (suc k) f x i l e =
    let rest = λ (h : i < k). Contains-collected k f x i h e in
    let c : (i < k) ⊎ (i ≡ k) = grind arith in
    elim c [ inl h ↦ one_more_left (collect k f) (f k) x (rest h) | inr h ↦ one_more_new (collect k f) (f k) x (rw h at e) ]
