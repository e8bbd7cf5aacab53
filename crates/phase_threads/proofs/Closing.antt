-- Hands from which chits were taken, and the vaults closed with them.
use Rattle.std.proofs.Common.{◌≡◌, ◌≢◌, ℕ, zero, suc, ◌+◌, ◌≤◌, ◌<◌, List, [], ◌∷◌, ◌++◌, length, map, drop, refl, sym, ap, subst, ◌∙◌, arith, inl, inr, add-one, length-append}
use Rattle.std.specs.declared.option.Option.TheVariants.{None, Some}
use Rattle.std.specs.Prelude.{◌⊎◌, All, slice_get, slice_set, reverse}
use Rattle.std.proofs.lemmas.List.{reverse-append, reverse-reverse}
use Rattle.std.proofs.lemmas.Option.{slice_get_within}
use Rattle.receipt_lock.specs.Chits.{Holder as Chit, Deposit}
use Rattle.locked_nodes.specs.declared.charter.Item.{Item}
use Rattle.thread_work.specs.Pairwise.{Beside}
use Rattle.phase_threads.specs.Phased.{AreTaken, AreChitsOf}
use Rattle.thread_work.proofs.lemmas.Places.{slice_get-unique, all_from_places, get_snoc, slice_get-set_cases, get_map, map_get, beside_right, beside_left}
use Rattle.lists.proofs.lemmas.Members.{all_at_place, slice_get-seam, at_place}

-- lists that end alike
tail_same : {A : Type 0} (a b x y : A) (xs ys : List A) → a ∷ (xs ++ x ∷ []) ≡ b ∷ (ys ++ y ∷ []) → xs ++ x ∷ [] ≡ ys ++ y ∷ []
tail_same a b x y xs ys is = cc

snoc_same : {A : Type 0} (xs ys : List A) (x y : A) → xs ++ x ∷ [] ≡ ys ++ y ∷ [] → (xs ≡ ys) × (x ≡ y)
snoc_same [] [] x y is = let e : x ≡ y = cc in (refl, e)
snoc_same [] (b ∷ ys) x y is = absurd (let n = ap length is in omega (arith, n, length-append ys (y ∷ [])))
snoc_same (a ∷ xs) [] x y is = absurd (let n = ap length is in omega (arith, n, length-append xs (x ∷ [])))
snoc_same (a ∷ xs) (b ∷ ys) x y is =
    let more = snoc_same xs ys x y (tail_same a b x y xs ys is) in
    let head : a ≡ b = cc in
    ((λ i. head i ∷ more.0 i), more.1)

drop_at : {A : Type 0} (xs : List A) (k : ℕ) (x : A) → slice_get xs k ≡ Some x → drop k xs ≡ x ∷ drop (suc k) xs
drop_at [] k x at = absurd cc
drop_at (y ∷ xs) zero x at = let e : y ≡ x = cc in ap (λ z. z ∷ xs) e
drop_at (y ∷ xs) (suc k) x at = drop_at xs k x at

-- the portions without the chits of the first vaults, so many
abbrev pub AreWithout : ℕ → List (List (Chit Item)) → List (List (Chit Item)) → Type 0
AreWithout m portions now = Beside (λ i h g. g ≡ reverse (drop m (reverse h))) portions now

pub all_portions : (portions : List (List (Chit Item))) → AreWithout 0 portions portions
all_portions portions = record { count = refl; each = λ i h g a b. sym (slice_get-unique portions i h g a b) ∙ sym (reverse-reverse h) }

-- the chit of the next vault is the last of its portion
module _ (portions now : List (List (Chit Item))) (first : List (Deposit Item)) (v : Deposit Item) (rest : List (Deposit Item)) (own : All (λ h. map (λ c. c.vault) (reverse h) ≡ map (λ v. v.id) (first ++ v ∷ rest)) portions) where
  chit_of : (h : List (Chit Item)) → map (λ c. c.vault) (reverse h) ≡ map (λ v. v.id) (first ++ v ∷ rest) → (x : Chit Item) × (slice_get (reverse h) (length first) ≡ Some x) × (x.vault ≡ v.id)
  chit_of h is =
      let at : slice_get (map (λ (c : Chit Item). c.vault) (reverse h)) (length first) ≡ Some v.id =
      ap (λ l. slice_get l (length first)) is ∙ get_map (λ (d : Deposit Item). d.id) (first ++ v ∷ rest) (length first) v (slice_get-seam first v rest) in
      map_get (λ (c : Chit Item). c.vault) (reverse h) (length first) v.id at

  last_of : (h g : List (Chit Item)) → g ≡ reverse (drop (length first) (reverse h)) → (x : Chit Item) → slice_get (reverse h) (length first) ≡ Some x → g ≡ reverse (drop (suc (length first)) (reverse h)) ++ x ∷ []
  last_of h g is x at = is ∙ ap reverse (drop_at (reverse h) (length first) x at) ∙ reverse-append (x ∷ []) (drop (suc (length first)) (reverse h))

  pub none_empty : AreWithout (length first) portions now → All (λ (h : List (Chit Item)). 0 < length h) now
  none_empty without = all_from_places (λ (h : List (Chit Item)). 0 < length h) now (λ i g at.
      let h = beside_left (λ i h g. g ≡ reverse (drop (length first) (reverse h))) portions now i g without at in
      let x = chit_of h.0 (all_at_place (λ h. map (λ c. c.vault) (reverse h) ≡ map (λ v. v.id) (first ++ v ∷ rest)) portions i h.0 own h.1) in
      let e = ap length (last_of h.0 g h.2 x.0 x.1) in
      omega (arith, e, length-append (reverse (drop (suc (length first)) (reverse h.0))) (x.0 ∷ [])))

  module _ (new : List (List (Chit Item))) (chits : List (Chit Item)) (without : AreWithout (length first) portions now) (taken : AreTaken now new chits) where
    both : (i : ℕ) (h : List (Chit Item)) (g : List (Chit Item)) (x : Chit Item) → slice_get portions i ≡ Some h → slice_get new i ≡ Some g → slice_get chits i ≡ Some x
        → (g ≡ reverse (drop (suc (length first)) (reverse h))) × (slice_get (reverse h) (length first) ≡ Some x) × (x.vault ≡ v.id)
    both i h g x at there here =
        let was = beside_right (λ i h g. g ≡ reverse (drop (length first) (reverse h))) portions now i h without at in
        let y = chit_of h (all_at_place (λ h. map (λ c. c.vault) (reverse h) ≡ map (λ v. v.id) (first ++ v ∷ rest)) portions i h own at) in
        let cut = last_of h was.0 was.2 y.0 y.1 in
        let one = snoc_same (reverse (drop (suc (length first)) (reverse h))) g y.0 x (sym cut ∙ taken.each i was.0 g x was.1 there here) in
        (sym one.0, y.1 ∙ ap (λ z. Some z) one.1, ap (λ (z : Chit Item). z.vault) (sym one.1) ∙ y.2)

    new_at : (i : ℕ) (h : List (Chit Item)) → slice_get portions i ≡ Some h → (g : List (Chit Item)) × (slice_get new i ≡ Some g)
    new_at i h at = let lt = slice_get_within portions i h at in at_place new i (omega (arith, lt, without.count, taken.count))

    chit_at : (i : ℕ) (h : List (Chit Item)) → slice_get portions i ≡ Some h → (x : Chit Item) × (slice_get chits i ≡ Some x)
    chit_at i h at = let lt = slice_get_within portions i h at in at_place chits i (omega (arith, lt, without.count, taken.all))

    portion_at : (i : ℕ) (x : Chit Item) → slice_get chits i ≡ Some x → (h : List (Chit Item)) × (slice_get portions i ≡ Some h)
    portion_at i x at = let lt = slice_get_within chits i x at in at_place portions i (omega (arith, lt, without.count, taken.all))

    pub without_more : AreWithout (length first + 1) portions new
    without_more = record {
      count = without.count ∙ sym taken.count;
      each = λ i h g at there. let x = chit_at i h at in subst (λ m. g ≡ reverse (drop m (reverse h))) (sym (add-one (length first))) (both i h g x.0 at there x.1).0;
    }

    pub chits_are : AreChitsOf (length first) portions chits
    chits_are = record {
      count = without.count ∙ sym taken.all;
      each = λ i h x at here. let g = new_at i h at in (both i h g.0 x at g.1 here).1;
    }

    pub chits_own : All (λ (c : Chit Item). c.vault ≡ v.id) chits
    chits_own = all_from_places (λ (c : Chit Item). c.vault ≡ v.id) chits (λ i x here. let h = portion_at i x here in let g = new_at i h.0 h.1 in (both i h.0 g.0 x h.1 g.1 here).2)

    pub chits_rest : All (λ h. All (λ (c : Chit Item). c.holds ≡ None) (reverse h)) portions → All (λ (c : Chit Item). c.holds ≡ None) chits
    chits_rest rests = all_from_places (λ (c : Chit Item). c.holds ≡ None) chits (λ i x here.
        let h = portion_at i x here in
        let g = new_at i h.0 h.1 in
        all_at_place (λ (c : Chit Item). c.holds ≡ None) (reverse h.0) (length first) x (all_at_place (λ h. All (λ (c : Chit Item). c.holds ≡ None) (reverse h)) portions i h.0 rests h.1) (both i h.0 g.0 x h.1 g.1 here).1)

-- the first portions, so many, have given their last chits
abbrev pub HaveGiven : ℕ → List (List (Chit Item)) → List (List (Chit Item)) → List (Chit Item) → Type 0
HaveGiven i old portions chits = (k : ℕ) (was now : List (Chit Item)) (x : Chit Item) → k < i → slice_get old k ≡ Some was → slice_get portions k ≡ Some now → slice_get chits k ≡ Some x → was ≡ now ++ x ∷ []

-- and the others are as they were
abbrev pub AreWhole : ℕ → List (List (Chit Item)) → List (List (Chit Item)) → Type 0
AreWhole i old portions = (k : ℕ) (was : List (Chit Item)) → i ≤ k → slice_get portions k ≡ Some was → slice_get old k ≡ Some was

module _ (old portions : List (List (Chit Item))) (chits : List (Chit Item)) (i : ℕ) (portion now : List (Chit Item)) (x : Chit Item) (given : HaveGiven i old portions chits) (whole : AreWhole i old portions) (count : length chits ≡ i) (at : slice_get portions i ≡ Some portion)
    (popped : portion ≡ now ++ x ∷ []) where
  given_at : (k : ℕ) (w n : List (Chit Item)) (y : Chit Item) → k < i + 1 → slice_get old k ≡ Some w → ((k ≡ i) × (n ≡ now)) ⊎ ((k ≢ i) × (slice_get portions k ≡ Some n)) → (slice_get chits k ≡ Some y) ⊎ ((k ≡ length chits) × (y ≡ x)) → w ≡ n ++ y ∷ []
  given_at k w n y lt was (inl p) (inl q) = absurd (let few = slice_get_within chits k y q in omega (arith, few, count, p.0))
  given_at k w n y lt was (inl p) (inr q) =
      let there : slice_get old i ≡ Some w = subst (λ m. slice_get old m ≡ Some w) p.0 was in
      slice_get-unique old i w portion there (whole i portion (omega arith) at) ∙ popped ∙ (λ j. sym p.1 j ++ sym q.1 j ∷ [])
  given_at k w n y lt was (inr p) (inl q) = given k w n y (let apart = p.0 in omega arith) was p.1 q
  given_at k w n y lt was (inr p) (inr q) = absurd (p.0 (omega (arith, q.0, count)))

  pub given_more : HaveGiven (i + 1) old (slice_set portions i now) (chits ++ x ∷ [])
  given_more k w n y lt was there here = given_at k w n y lt was (slice_get-set_cases portions i k n now there) (get_snoc chits x k y here)

  whole_at : (k : ℕ) (w : List (Chit Item)) → i + 1 ≤ k → ((k ≡ i) × (w ≡ now)) ⊎ ((k ≢ i) × (slice_get portions k ≡ Some w)) → slice_get old k ≡ Some w
  whole_at k w le (inl p) = absurd (let e = p.0 in omega arith)
  whole_at k w le (inr p) = whole k w (omega arith) p.1

  pub whole_more : AreWhole (i + 1) old (slice_set portions i now)
  whole_more k w le there = whole_at k w le (slice_get-set_cases portions i k w now there)

-- a portion that has yet to give has a chit
pub has_chit : (old portions : List (List (Chit Item))) (i : ℕ) (portion : List (Chit Item)) → All (λ (h : List (Chit Item)). 0 < length h) old → AreWhole i old portions → slice_get portions i ≡ Some portion → 0 < length portion
has_chit old portions i portion some whole at = all_at_place (λ (h : List (Chit Item)). 0 < length h) old i portion some (whole i portion (omega arith) at)

pub all_given : (old portions : List (List (Chit Item))) (chits : List (Chit Item)) (n : ℕ) → length portions ≡ length old → length chits ≡ n → n ≡ length old → HaveGiven n old portions chits → AreTaken old portions chits
all_given old portions chits n count all is given = record { count = count; all = all ∙ is; each = λ k was now x a b c. given k was now x (let lt = slice_get_within old k was a in omega (arith, lt, is)) a b c }
