-- Lists side by side, and what stands at their places.
use Rattle.std.proofs.Common.{◌≡◌, ◌≢◌, ℕ, zero, suc, ◌+◌, ◌<◌, ◌≤◌, List, [], ◌∷◌, ◌++◌, length, map, refl, sym, ap, subst, ◌∙◌, arith, inl, inr, length-append, get_or, append_assoc, append-nil, take, drop}
use Rattle.std.specs.declared.option.Option.TheVariants.{Some}
use Rattle.std.specs.Prelude.{◌⊎◌, All, slice_get, slice_set}
use Rattle.std.specs.List.{AllZip}
use Rattle.std.proofs.Math.Seq.{take-append_seam}
use Rattle.std.proofs.lemmas.List.Elements.{All-nil, All-push}
use Rattle.std.proofs.lemmas.Option.{slice_get-get_or, get_or_from_slice_get, slice_get_within}
use Rattle.thread_work.specs.Pairwise.{Beside}
use Rattle.lists.proofs.lemmas.Members.{nil_of_length, all_at_place, slice_get-seam, at_place}

pub at_head : {A : Type 0} (x y : A) (xs : List A) → slice_get (x ∷ xs) 0 ≡ Some y → x ≡ y
at_head x y xs at = cc

pub slice_get-unique : {A : Type 0} (xs : List A) (i : ℕ) (x y : A) → slice_get xs i ≡ Some x → slice_get xs i ≡ Some y → x ≡ y
slice_get-unique xs i x y a b = let e : Some x ≡ Some y = sym a ∙ b in cc

pub all_from_places : {A : Type 0} (P : A → Type 0) (xs : List A) → ((k : ℕ) (x : A) → slice_get xs k ≡ Some x → P x) → All P xs
all_from_places P xs f k d lt = f k (get_or xs k d) (slice_get-get_or xs k d lt)

moved_on : {A : Type 0} (z : A) (xs : List A) (i : ℕ) (x y : A) → (slice_get xs i ≡ Some x) ⊎ ((i ≡ length xs) × (x ≡ y)) → (slice_get (z ∷ xs) (suc i) ≡ Some x) ⊎ ((suc i ≡ length (z ∷ xs)) × (x ≡ y))
moved_on z xs i x y (inl h) = inl h
moved_on z xs i x y (inr h) = inr (ap suc h.0, h.1)

pub get_snoc : {A : Type 0} (xs : List A) (y : A) (i : ℕ) (x : A) → slice_get (xs ++ y ∷ []) i ≡ Some x → (slice_get xs i ≡ Some x) ⊎ ((i ≡ length xs) × (x ≡ y))
get_snoc [] y zero x at = let e : x ≡ y = cc in inr (refl, e)
get_snoc [] y (suc i) x at = absurd cc
get_snoc (z ∷ xs) y zero x at = inl at
get_snoc (z ∷ xs) y (suc i) x at = moved_on z xs i x y (get_snoc xs y i x at)

pub get_map : {A B : Type 0} (f : A → B) (xs : List A) (k : ℕ) (x : A) → slice_get xs k ≡ Some x → slice_get (map f xs) k ≡ Some (f x)
get_map f [] k x at = absurd cc
get_map f (y ∷ xs) zero x at = let e : y ≡ x = cc in ap (λ z. Some (f z)) e
get_map f (y ∷ xs) (suc k) x at = get_map f xs k x at

pub map_get : {A B : Type 0} (f : A → B) (xs : List A) (k : ℕ) (y : B) → slice_get (map f xs) k ≡ Some y → (x : A) × (slice_get xs k ≡ Some x) × (f x ≡ y)
map_get f [] k y at = absurd cc
map_get f (x ∷ xs) zero y at = let e : f x ≡ y = cc in (x, refl, e)
map_get f (x ∷ xs) (suc k) y at = map_get f xs k y at

-- lists side by side
module _ {X Y : Type 0} (R : ℕ → X → Y → Type 0) where
  pub none_beside : Beside R [] []
  none_beside = record { count = refl; each = λ i x y a b. absurd cc }

  push_each : (xs : List X) (ys : List Y) (x : X) (y : Y) (i : ℕ) (a : X) (b : Y) → Beside R xs ys → R (length xs) x y
      → (slice_get xs i ≡ Some a) ⊎ ((i ≡ length xs) × (a ≡ x)) → (slice_get ys i ≡ Some b) ⊎ ((i ≡ length ys) × (b ≡ y)) → R i a b
  push_each xs ys x y i a b beside is (inl p) (inl q) = beside.each i a b p q
  push_each xs ys x y i a b beside is (inl p) (inr q) = absurd (let lt = slice_get_within xs i a p in omega (arith, lt, beside.count, q.0))
  push_each xs ys x y i a b beside is (inr p) (inl q) = absurd (let lt = slice_get_within ys i b q in omega (arith, lt, beside.count, p.0))
  push_each xs ys x y i a b beside is (inr p) (inr q) = subst (λ k. R k a b) (sym p.0) (subst (λ u. R (length xs) u b) (sym p.1) (subst (λ u. R (length xs) x u) (sym q.1) is))

  pub push_beside : (xs : List X) (ys : List Y) (x : X) (y : Y) → Beside R xs ys → R (length xs) x y → Beside R (xs ++ x ∷ []) (ys ++ y ∷ [])
  push_beside xs ys x y beside is = record {
    count = omega (arith, beside.count, length-append xs (x ∷ []), length-append ys (y ∷ []));
    each = λ i a b p q. push_each xs ys x y i a b beside is (get_snoc xs x i a p) (get_snoc ys y i b q);
  }

  pub beside_right : (xs : List X) (ys : List Y) (i : ℕ) (x : X) → Beside R xs ys → slice_get xs i ≡ Some x → (y : Y) × (slice_get ys i ≡ Some y) × R i x y
  beside_right xs ys i x beside at =
      let lt = slice_get_within xs i x at in
      let y = at_place ys i (omega (arith, lt, beside.count)) in
      (y.0, y.1, beside.each i x y.0 at y.1)

  pub beside_left : (xs : List X) (ys : List Y) (i : ℕ) (y : Y) → Beside R xs ys → slice_get ys i ≡ Some y → (x : X) × (slice_get xs i ≡ Some x) × R i x y
  beside_left xs ys i y beside at =
      let lt = slice_get_within ys i y at in
      let x = at_place xs i (omega (arith, lt, beside.count)) in
      (x.0, x.1, beside.each i x.0 y x.1 at)

pub all_zip : {X Y : Type 0} (R : X → Y → Type 0) (xs : List X) (ys : List Y) → length xs ≡ length ys → ((i : ℕ) (x : X) (y : Y) → slice_get xs i ≡ Some x → slice_get ys i ≡ Some y → R x y) → AllZip R xs ys
all_zip R [] [] count f = tt
all_zip R [] (y ∷ ys) count f = absurd (omega arith)
all_zip R (x ∷ xs) [] count f = absurd (omega arith)
all_zip R (x ∷ xs) (y ∷ ys) count f = (f 0 x y refl refl, all_zip R xs ys (omega arith) (λ i a b p q. f (suc i) a b p q))

-- a list of which the first items were taken, and so many are left
abbrev pub Walked : {A : Type 0} → List A → List A → List A → ℕ → Type 0
Walked all done rest n = (all ≡ done ++ rest) × (n ≡ length rest)

pub walk_begin : {A : Type 0} (all rest : List A) (n len : ℕ) → rest ≡ all → n ≡ len → len ≡ length all → Walked all [] rest n
walk_begin all rest n len is few count = (sym is, few ∙ count ∙ ap length (sym is))

pub walk_on : {A : Type 0} (all done rest next : List A) (x : A) (n m : ℕ) → Walked all done rest n → rest ≡ x ∷ next → m + 1 ≡ n → Walked all (done ++ x ∷ []) next m
walk_on all done rest next x n m walked is one =
    let few = ap length is in (
      walked.0 ∙ ap (λ l. done ++ l) is ∙ sym (append_assoc done (x ∷ []) next),
      omega (arith, few, walked.1, one),
    )

pub walk_end : {A : Type 0} (all done rest : List A) (n : ℕ) → Walked all done rest n → n ≡ 0 → all ≡ done
walk_end all done rest n walked none = walked.0 ∙ ap (λ l. done ++ l) (nil_of_length rest (sym none ∙ walked.1)) ∙ append-nil done

-- what holds of all items holds of the one that is taken next
pub walked_at : {A : Type 0} (P : A → Type 0) (all done rest next : List A) (x : A) (n : ℕ) → Walked all done rest n → rest ≡ x ∷ next → All P all → P x
walked_at P all done rest next x n walked is each = all_at_place P (done ++ x ∷ next) (length done) x (subst (All P) (walked.0 ∙ ap (λ l. done ++ l) is) each) (slice_get-seam done x next)

-- a list that is filled while another one is walked
module _ {X Y : Type 0} (R : ℕ → X → Y → Type 0) where
  pub none_filled : (ys : List Y) → ys ≡ [] → Beside R [] ys
  none_filled ys none = subst (Beside R []) (sym none) (none_beside R)

  pub one_filled : (xs : List X) (x : X) (ys zs : List Y) (y : Y) → zs ≡ ys ++ y ∷ [] → Beside R xs ys → R (length xs) x y → Beside R (xs ++ x ∷ []) zs
  one_filled xs x ys zs y is beside one = subst (Beside R (xs ++ x ∷ [])) (sym is) (push_beside R xs ys x y beside one)

  pub all_filled : (all done rest : List X) (n : ℕ) (ys : List Y) → Walked all done rest n → n ≡ 0 → Beside R done ys → Beside R all ys
  all_filled all done rest n ys walked none beside = subst (λ l. Beside R l ys) (sym (walk_end all done rest n walked none)) beside

pub all_of_nil : {A : Type 0} (P : A → Type 0) (xs : List A) → xs ≡ [] → All P xs
all_of_nil P xs none = subst (All P) (sym none) (All-nil P)

pub all_of_push : {A : Type 0} (P : A → Type 0) (xs ys : List A) (x : A) → ys ≡ xs ++ x ∷ [] → All P xs → P x → All P ys
all_of_push P xs ys x is all one = subst (All P) (sym is) (All-push P xs x all one)

-- there is room for the items that are left, at first and after one more
pub room_first : {Y : Type 0} (ys : List Y) (len left all cap : ℕ) → ys ≡ [] → len ≡ length ys → left ≡ all → all ≤ cap → len + left ≤ cap
room_first ys len left all cap none is same room = let few = ap length none in omega (arith, few, is, same, room)

pub room_one : (len left next now cap more : ℕ) → len + left ≤ cap → next + 1 ≡ left → now ≡ len + 1 → more ≡ cap → now + next ≤ more
room_one len left next now cap more room one is same = omega arith

pub room_some : (len left next cap : ℕ) → len + left ≤ cap → next + 1 ≡ left → len < cap
room_some len left next cap room one = omega arith

-- what a slice of a whole vector was written, the vector has
pub written_back : {A : Type 0} (n : ℕ) (xs ys : List A) → length xs ≡ n → take n (xs ++ drop (length xs) ys) ≡ xs
written_back n xs ys is = ap (λ m. take m (xs ++ drop (length xs) ys)) (sym is) ∙ take-append_seam xs (drop (length xs) ys)

-- what each place was made
pub made_beside : {A : Type 0} (R : ℕ → A → A → Type 0) (S : A → A → Type 0) (old new : List A) → length new ≡ length old → ((i : ℕ) (d : A) → i < length old → S (get_or old i d) (get_or new i d)) → ((i : ℕ) (x y : A) → S x y → R i x y)
    → Beside R old new
made_beside R S old new count made gives = record {
  count = sym count;
  each = λ i x y a b.
      let lt = slice_get_within old i x a in
      let s : S (get_or old i x) (get_or new i x) = made i x lt in
      gives i x y (subst (λ u. S u y) (get_or_from_slice_get old i x x a) (subst (S (get_or old i x)) (get_or_from_slice_get new i y x b) s));
}

-- what stands in a list of which one item was replaced
moved_up : {A : Type 0} (xs : List A) (k i : ℕ) (x y : A) → ((i ≡ k) × (x ≡ y)) ⊎ ((i ≢ k) × (slice_get xs i ≡ Some x)) → ((suc i ≡ suc k) × (x ≡ y)) ⊎ ((suc i ≢ suc k) × (slice_get xs i ≡ Some x))
moved_up xs k i x y (inl h) = inl (ap suc h.0, h.1)
moved_up xs k i x y (inr h) = inr ((λ e. h.0 (omega arith)), h.1)

pub slice_get-set_cases : {A : Type 0} (xs : List A) (k i : ℕ) (x y : A) → slice_get (slice_set xs k y) i ≡ Some x → ((i ≡ k) × (x ≡ y)) ⊎ ((i ≢ k) × (slice_get xs i ≡ Some x))
slice_get-set_cases [] k i x y is = inr (absurd cc)
slice_get-set_cases (z ∷ xs) zero zero x y is = inl (refl, cc)
slice_get-set_cases (z ∷ xs) zero (suc i) x y is = inr ((λ e. omega arith), is)
slice_get-set_cases (z ∷ xs) (suc k) zero x y is = inr ((λ e. omega arith), is)
slice_get-set_cases (z ∷ xs) (suc k) (suc i) x y is = moved_up xs k i x y (slice_get-set_cases xs k i x y is)

pub all_of_beside : {A : Type 0} (P : A → Type 0) (xs ys : List A) → Beside (λ (i : ℕ) (x y : A). P y) xs ys → All P ys
all_of_beside {A = A} P xs ys beside = all_from_places P ys (λ k y at. (beside_left (λ (i : ℕ) (x y : A). P y) xs ys k y beside at).2)
