-- What comparisons say: one after another, and of two numbers.
use Rattle.std.proofs.Common.{◌≡◌, ℕ, ◌<◌, true, false, eqb, ltb, List, ◌∷◌, refl, inl, inr, arith}
use Rattle.std.specs.declared.cmp.Ordering.{Ordering}
use Rattle.std.specs.declared.cmp.Ordering.TheVariants.{Less, Equal, Greater}
use Rattle.std.specs.Ordering.{nat_cmp, is_le, is_lt, is_eq, is_gt, ordering_then}
use Rattle.std.specs.BTreeSet.{insert_key}
use Rattle.std.proofs.lemmas.Bool.{cases_Bool, eqb-true}
use Rattle.std.proofs.lemmas.Bool.Decides.{nat_tests}

pub nat_less : (x y : ℕ) → x < y → nat_cmp x y ≡ Less
nat_less x y h = let e : ltb x y ≡ true = grind (arith, nat_tests) in rw e refl

pub less_of_nat_cmp : (x y : ℕ) → nat_cmp x y ≡ Less → x < y
less_of_nat_cmp x y e = grind (arith, nat_tests)

pub lt_less : (o : Ordering) → is_lt o ≡ true → o ≡ Less
lt_less Less h = refl
lt_less Equal h = absurd (cc)
lt_less Greater h = absurd (cc)

pub le_not_gt : (o : Ordering) → is_le o ≡ true → is_gt o ≡ false
le_not_gt Less h = refl
le_not_gt Equal h = refl
le_not_gt Greater h = absurd (cc)

pub not_gt_le : (o : Ordering) → is_gt o ≡ false → is_le o ≡ true
not_gt_le Less h = refl
not_gt_le Equal h = refl
not_gt_le Greater h = absurd (cc)

pub eq_equal : (o : Ordering) → is_eq o ≡ true → o ≡ Equal
eq_equal Less h = absurd (cc)
eq_equal Equal h = refl
eq_equal Greater h = absurd (cc)

pub then_assoc : (a b c : Ordering) → ordering_then (ordering_then a b) c ≡ ordering_then a (ordering_then b c)
then_assoc Less b c = refl
then_assoc Equal b c = refl
then_assoc Greater b c = refl

pub then_equal : (a c : Ordering) → ordering_then a c ≡ Equal → (a ≡ Equal) × (c ≡ Equal)
then_equal Less c h = absurd (cc)
then_equal Equal c h = (refl, h)
then_equal Greater c h = absurd (cc)

pub insert_key_cases : (x : ℕ) (xs : List ℕ) (k : ℕ) (P : List ℕ → Type 0) → P (k ∷ x ∷ xs) → (k ≡ x → P (x ∷ xs)) → P (x ∷ insert_key nat_cmp xs k) → P (insert_key nat_cmp (x ∷ xs) k)
insert_key_cases x xs k P before here after =
    elim (cases_Bool (ltb k x)) [
      | inl lt ↦ rw lt before
      | inr ge ↦ elim (cases_Bool (eqb k x)) [ inl same ↦ rw (ge, same) (here (eqb-true k x same)) | inr other ↦ rw (ge, other) after ]
    ]
