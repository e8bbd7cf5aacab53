-- Numbers that are put in their places one after the other ascend.
use Rattle.std.proofs.Common.{◌≡◌, ℕ, ◌<◌, List, [], ◌∷◌, inl, inr, arith, ltb, eqb}
use Rattle.std.proofs.lemmas.Bool.{cases_Bool}
use Rattle.std.specs.Prelude.{fold}
use Rattle.std.specs.List.{AllByRecursion}
use Rattle.std.specs.List.Sorted.{IsStrictlySortedBy}
use Rattle.std.specs.Ordering.{nat_cmp}
use Rattle.std.specs.BTreeSet.{insert_key}
use Rattle.std.specs.declared.cmp.Ordering.TheVariants.{Less}
use Rattle.std.proofs.lemmas.Bool.Decides.{nat_tests}
use Rattle.wire_forms.specs.Liars.{IsAscending}
use Rattle.plan_words.specs.Named.{lying_nodes, lying_clients}
use Rattle.plan_followed.specs.Laws.{OfPlans, HasLiars}
use Rattle.command_texts.specs.ScriptLiars.{HasScriptLiars}
use Rattle.lists.proofs.lemmas.Orders.{nat_less, less_of_nat_cmp}

inserted : (x : ℕ) (xs : List ℕ) (k : ℕ) (P : List ℕ → Type 0) → (k < x → P (k ∷ x ∷ xs)) → P (x ∷ xs) → (x < k → P (x ∷ insert_key nat_cmp xs k)) → P (insert_key nat_cmp (x ∷ xs) k)
inserted x xs k P before here after =
    elim (cases_Bool (ltb k x)) [
      | inl lt ↦ rw lt (before (grind (arith, nat_tests)))
      | inr ge ↦ elim (cases_Bool (eqb k x)) [ inl same ↦ rw (ge, same) here | inr other ↦ rw (ge, other) (after (grind (arith, nat_tests))) ]
    ]

all_inserted : (P : ℕ → Type 0) (ks : List ℕ) (k : ℕ) → AllByRecursion P ks → P k → AllByRecursion P (insert_key nat_cmp ks k)
all_inserted P [] k h p = (p, tt)
all_inserted P (x ∷ xs) k h p = inserted x xs k (AllByRecursion P) (λ l. (p, h)) h (λ l. (h.0, all_inserted P xs k h.1 p))

all_above : (x k : ℕ) (xs : List ℕ) → k < x → AllByRecursion (λ y. nat_cmp x y ≡ Less) xs → AllByRecursion (λ y. nat_cmp k y ≡ Less) xs
all_above x k [] l h = tt
all_above x k (y ∷ ys) l h = (nat_less k y (let m = less_of_nat_cmp x y h.0 in omega (arith, l, m)), all_above x k ys l h.1)

insert_ascends : (ks : List ℕ) (k : ℕ) → IsAscending ks → IsAscending (insert_key nat_cmp ks k)
unfolding IsStrictlySortedBy
insert_ascends [] k h = (tt, tt)
insert_ascends (x ∷ xs) k h = inserted x xs k IsAscending (λ l. ((nat_less k x l, all_above x k xs l h.0), h)) h (λ l. (all_inserted (λ y. nat_cmp x y ≡ Less) xs k h.0 (nat_less x k l), insert_ascends xs k h.1))

fold_ascends : (numbers ks : List ℕ) → IsAscending ks → IsAscending (fold (insert_key nat_cmp) ks numbers)
fold_ascends [] ks h = h
fold_ascends (n ∷ ns) ks h = fold_ascends ns (insert_key nat_cmp ks n) (insert_ascends ks n h)

pub declares : OfPlans HasLiars → OfPlans HasScriptLiars
unfolding IsStrictlySortedBy
declares law plan fits =
    record {
      may_lie = law plan fits;
      ascending = rw fits.liars (fold_ascends (lying_nodes plan.rules) [] tt, fold_ascends (lying_clients plan.rules) [] tt);
    }
