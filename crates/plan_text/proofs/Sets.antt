-- Sets of what lines name, and lists that grow by what one more line names.
use Rattle.std.proofs.Common.{◌≡◌, ℕ, ◌+◌, Bool, true, false, ◌||◌, ◌&&◌, cond, eqb, List, [], ◌∷◌, ◌++◌, length, Option, Some, None, refl, sym, ap, subst, ◌∙◌, arith, inl, inr, length-append}
use Rattle.std.specs.declared.cmp.Ordering.{Ordering}
use Rattle.std.specs.declared.cmp.Ordering.TheVariants.{Less, Equal, Greater}
use Rattle.std.specs.Prelude.{nat_eq, is_some}
use Rattle.std.specs.Cmp.{IsEquivalence}
use Rattle.std.specs.List.{AllByRecursion, IsDistinct, list_any, filter_map, cons_option}
use Rattle.std.specs.Ordering.{nat_cmp, ordering_then, is_eq, eq_by_cmp}
use Rattle.std.specs.BTreeSet.{BTreeSet, contains, btree_set_len, IsOrdered}
use Rattle.std.specs.Set.{is_member, distinct_count}
use Rattle.std.proofs.lemmas.Bool.{cases_Bool, cases_lt, lt-ltb, le-ltb, eq-eqb, ne_eqb}
use Rattle.std.proofs.lemmas.Cmp.{nat_eq_equiv, on_equiv, and_equiv}
use Rattle.std.proofs.lemmas.List.{append-nil}
use Rattle.std.proofs.lemmas.List.Elements.{filter_map-append}
use Rattle.std.proofs.lemmas.List.Folds.{list_any-append}
use Rattle.std.proofs.lemmas.Map.Keys.{IsDistinct-push, IsDistinct-from_sorted}
use Rattle.std.proofs.lemmas.Map.Made.{length-from_keys}
use Rattle.plan_words.specs.Named.{pair_eq}
use Rattle.plan_text.specs.Plans.{is_among}
use Rattle.plan_text.specs.Reading.{HasAll, pair_cmp}
use Rattle.plan_text.specs.Sets.{has, IsAdded}

-- ---- orders and equalities

pub nat_tie : (x y : ℕ) → is_eq (nat_cmp x y) ≡ nat_eq y x
nat_tie x y =
    elim (cases_lt x y) [
      | inl lt ↦ rw (lt-ltb x y lt, ne_eqb y x (λ e. omega arith)) refl
      | inr le ↦ elim (cases_lt y x) [
        | inl gt ↦ rw (le-ltb x y le, ne_eqb x y (λ e. omega arith), ne_eqb y x (λ e. omega arith)) refl
        | inr ge ↦ rw (le-ltb x y le, eq-eqb x y (omega arith), eq-eqb y x (omega arith)) refl
      ]
    ]

both_equal : (o p : Ordering) → is_eq (ordering_then o p) ≡ (is_eq o && is_eq p)
both_equal Less p = refl
both_equal Equal p = refl
both_equal Greater p = refl

pub pair_tie : (x y : ℕ × ℕ) → is_eq (pair_cmp x y) ≡ pair_eq y x
pair_tie x y = both_equal (nat_cmp x.0 y.0) (nat_cmp x.1 y.1) ∙ rw (nat_tie x.0 y.0, nat_tie x.1 y.1) refl

pub pair_laws : IsEquivalence pair_eq
pair_laws = and_equiv (on_equiv (λ (p : ℕ × ℕ). p.0) nat_eq_equiv) (on_equiv (λ (p : ℕ × ℕ). p.1) nat_eq_equiv)

-- ---- sets

pub has_is : {K : Type 0} (cmp : K → K → Ordering) (eq : K → K → Bool) (set : BTreeSet K) (keys : List K) → HasAll cmp eq set keys → (o : Option K) → has cmp set o ≡ is_among eq o keys
has_is cmp eq set keys h None = refl
has_is cmp eq set keys h (Some k) = h k

or_later : (a b : Bool) → cond a true b ≡ (b || (a || false))
or_later true true = refl
or_later true false = refl
or_later false true = refl
or_later false false = refl

-- a set and what it has, with what one more line names
pub has_more : {K : Type 0} (cmp : K → K → Ordering) (eq : K → K → Bool) → ((x y : K) → is_eq (cmp x y) ≡ eq y x) → (old new : BTreeSet K) (keys : List K) (o : Option K)
    → HasAll cmp eq old keys → IsAdded cmp old new o → HasAll cmp eq new (keys ++ cons_option o [])
has_more cmp eq tie old new keys None h added q = ap (λ s. contains cmp s q) added ∙ h q ∙ ap (λ ks. is_member eq ks q) (sym (append-nil keys))
has_more cmp eq tie old new keys (Some k) h added q =
    added.0.0 q ∙ ap (λ b. cond b true (contains cmp old q)) (tie k q) ∙ ap (cond (eq q k) true) (h q) ∙ or_later (eq q k) (is_member eq keys q)
    ∙ sym (list_any-append (eq q) keys (k ∷ []))

-- ---- lists

pub more_named : {X Y : Type 0} (g : X → Option Y) (xs : List X) (x : X) → filter_map g (xs ++ x ∷ []) ≡ filter_map g xs ++ cons_option (g x) []
more_named g xs x = filter_map-append g xs (x ∷ [])

pub more_length : {X : Type 0} (xs : List X) (o : Option X) → length (xs ++ cons_option o []) ≡ length xs + cond (is_some o) 1 0
more_length xs None = let e = ap (length {A = _}) (append-nil xs) in omega arith
more_length xs (Some x) = length-append xs (x ∷ [])

pub distinct_more : {K : Type 0} {eq : K → K → Bool} → IsEquivalence eq → (xs : List K) (o : Option K) → IsDistinct eq xs → is_among eq o xs ≡ false → IsDistinct eq (xs ++ cons_option o [])
distinct_more {K} {eq} laws xs None h free = subst (IsDistinct eq) (sym (append-nil xs)) h
distinct_more {K} {eq} laws xs (Some x) h free = IsDistinct-push laws xs x h free

-- ---- how many keys a set has

apart_numbers : (x : ℕ) (ys : List ℕ) → AllByRecursion (λ y. eq_by_cmp nat_cmp x y ≡ false) ys → AllByRecursion (λ y. nat_eq x y ≡ false) ys
apart_numbers x [] h = tt
apart_numbers x (y ∷ ys) h = (eqb_turned x y ∙ sym (nat_tie x y) ∙ h.0, apart_numbers x ys h.1)
  where
    eqb_turned : (x y : ℕ) → eqb x y ≡ eqb y x
    eqb_turned x y = elim (cases_Bool (eqb y x)) [ inl e ↦ grind arith | inr e ↦ grind arith ]

distinct_numbers : (xs : List ℕ) → IsDistinct (eq_by_cmp nat_cmp) xs → IsDistinct nat_eq xs
unfolding IsDistinct
distinct_numbers [] h = tt
distinct_numbers (x ∷ xs) h = (apart_numbers x xs h.0, distinct_numbers xs h.1)

-- a set has as many keys as there are different ones among those that it has
pub len_is : (set : BTreeSet ℕ) (keys : List ℕ) → IsOrdered nat_cmp set → HasAll nat_cmp nat_eq set keys → btree_set_len set ≡ distinct_count nat_eq keys
len_is set keys ordered h =
    length-from_keys nat_eq_equiv set.keys keys (distinct_numbers set.keys (IsDistinct-from_sorted nat_cmp set.keys ordered)) (λ q. same_any q set.keys ∙ h q)
  where
    same_any : (q : ℕ) (ks : List ℕ) → is_member nat_eq ks q ≡ list_any (λ k. is_eq (nat_cmp q k)) ks
    same_any q [] = refl
    same_any q (k ∷ ks) = rw (nat_tie q k, same_any q ks) (ap (λ b. b || list_any (λ x. is_eq (nat_cmp q x)) ks) (turned q k))
      where
        turned : (x y : ℕ) → eqb x y ≡ eqb y x
        turned x y = elim (cases_Bool (eqb y x)) [ inl e ↦ grind arith | inr e ↦ grind arith ]
