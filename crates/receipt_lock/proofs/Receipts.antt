-- One receipt for each entry.
use Rattle.std.proofs.Common.{◌≡◌, ℕ, zero, suc, ◌+◌, ◌<◌, ◌≤◌, true, List, [], ◌∷◌, ◌++◌, length, Some, refl, ap, subst, ◌∙◌, arith}
use Rattle.std.proofs.lemmas.Bool.Decides.{nat_tests}
use Rattle.std.specs.Prelude.{All, count_by, slice_get, nat_eq, if◌then◌else◌}
use Rattle.std.proofs.lemmas.List.Sums.{sum_by-append, sum_by-cons}
use Rattle.std.proofs.lemmas.List.Elements.{All-cons, All-head, All-nil, All-tail}
use Rattle.std.proofs.lemmas.Option.{same_Some}
use native.Mathlib.Decide.{ℕ_discrete}
use Rattle.receipt_lock.specs.Tickets.{once_from, times_placed, AllStand}
use Rattle.receipt_lock.specs.Chits.{Holder, all_mine}
use Rattle.receipt_lock.specs.Receipts.{IsSettled, IsReceipt, EachHasOneReceipt, EachReceiptStands, AddsUp}
use Rattle.receipt_lock.proofs.Counts.{counts}

module _ {A : Type 0} (P : A → Type 0) where
  all_front : (xs ys : List A) → All P (xs ++ ys) → All P xs
  all_front [] ys all = All-nil P
  all_front (x ∷ xs) ys all =
      All-cons P x xs (All-head P x (xs ++ ys) all) (all_front xs ys (All-tail P x (xs ++ ys) all))

  all_back : (xs ys : List A) → All P (xs ++ ys) → All P ys
  all_back [] ys all = all
  all_back (x ∷ xs) ys all = all_back xs ys (All-tail P x (xs ++ ys) all)

  all_got : (xs : List A) (k : ℕ) (x : A) → All P xs → slice_get xs k ≡ Some x → P x
  all_got [] k x all is = absurd (cc)
  all_got (y ∷ xs) zero x all is = subst P (same_Some y x is) (All-head P y xs all)
  all_got (y ∷ xs) (suc k) x all is = all_got xs k x (All-tail P y xs all) is

module _ {A : Type 0} where
  length_counts : (xs : List A) → count_by (λ x. true) xs ≡ length xs
  length_counts [] = refl
  length_counts (x ∷ xs) = omega (arith, sum_by-cons (λ (x : A). 1) x xs, length_counts xs)

counted_once : (a p : ℕ) → a ≡ p → ◌≡◌ {A = ℕ} (if nat_eq a p then 1 else 0) 1
counted_once a p same = grind (arith, nat_tests)

in_range : (low high p : ℕ) → 1 ≤ once_from low high p → low ≤ p
in_range low high p one = grind (arith, nat_tests)

once_there : (low high p : ℕ) → low ≤ p → p < high → once_from low high p ≡ 1
once_there low high p above below = grind (arith, nat_tests)

module _ {E : Type 0} where
  -- the one receipt for a place, in a list of receipts
  One : ℕ → List (ℕ × E) → Type 0
  One p xs =
      (k : ℕ) × (e : E) × (slice_get xs k ≡ Some (p, e)) × ((l : ℕ) (f : E) → slice_get xs l ≡ Some (p, f) → l ≡ k)

  at_head : (p : ℕ) (m : ℕ × E) (xs : List (ℕ × E)) → times_placed p (m ∷ xs) ≡ (if nat_eq m.0 p then 1 else 0) + times_placed p xs
  at_head p m xs = sum_by-cons (λ (m : ℕ × E). if nat_eq m.0 p then 1 else 0) m xs

  got_counts : (p : ℕ) (xs : List (ℕ × E)) (k : ℕ) (e : E) → slice_get xs k ≡ Some (p, e) → 1 ≤ times_placed p xs
  got_counts p [] k e is = absurd (cc)
  got_counts p (m ∷ xs) zero e is =
      let same : m.0 ≡ p = ap (λ (m : ℕ × E). m.0) (same_Some m (p, e) is) in
      omega (arith, at_head p m xs, counted_once m.0 p same)
  got_counts p (m ∷ xs) (suc k) e is = omega (arith, at_head p m xs, got_counts p xs k e is)

  one_in : (p : ℕ) (xs : List (ℕ × E)) → times_placed p xs ≡ 1 → One p xs
  unfolding One
  one_in p [] is = absurd (omega (arith, is))
  one_in p (m ∷ xs) is =
      elim (ℕ_discrete m.0 p) [
        | yes same ↦
            let none : times_placed p xs ≡ 0 = omega (arith, at_head p m xs, counted_once m.0 p same, is) in
            (0, m.1, ap (λ q. Some (q, m.1)) same, here none)
        | no apart ↦
            let zero_here : ◌≡◌ {A = ℕ} (if nat_eq m.0 p then 1 else 0) 0 = grind (arith, nat_tests) in
            let rest = one_in p xs (omega (arith, at_head p m xs, zero_here, is)) in
            (suc rest.0, rest.1, rest.2, later rest.0 rest.3 apart)
      ]
    where
      here : times_placed p xs ≡ 0 → (l : ℕ) (f : E) → slice_get (m ∷ xs) l ≡ Some (p, f) → l ≡ 0
      here none zero f at = refl
      here none (suc l) f at = absurd (omega (arith, none, got_counts p xs l f at))

      later : (k : ℕ) → ((l : ℕ) (f : E) → slice_get xs l ≡ Some (p, f) → l ≡ k) → ¬ (m.0 ≡ p) → (l : ℕ) (f : E) → slice_get (m ∷ xs) l ≡ Some (p, f) → l ≡ suc k
      later k only apart zero f at = absurd (apart (ap (λ (m : ℕ × E). m.0) (same_Some m (p, f) at)))
      later k only apart (suc l) f at = ap suc (only l f at)

  both : (p : ℕ) (c : Holder E) (chits : List (Holder E)) → times_placed p (all_mine (c ∷ chits)) ≡ times_placed p c.mine + times_placed p (all_mine chits)
  both p c chits = sum_by-append (λ (m : ℕ × E). if nat_eq m.0 p then 1 else 0) c.mine (all_mine chits)

  receipt_counts : (p : ℕ) (chits : List (Holder E)) (i k : ℕ) (e : E) → IsReceipt chits i k p e → 1 ≤ times_placed p (all_mine chits)
  receipt_counts p [] i k e is = absurd (cc)
  receipt_counts p (c ∷ chits) zero k e is =
      let at = ap (λ (c : Holder E). slice_get c.mine k) (same_Some c is.0 is.1) ∙ is.2 in
      omega (arith, both p c chits, got_counts p c.mine k e at)
  receipt_counts p (c ∷ chits) (suc i) k e is =
      omega (arith, both p c chits, receipt_counts p chits i k e (is.0, is.1, is.2))

  receipt_stands : (now : List E) (chits : List (Holder E)) (i k p : ℕ) (e : E) → AllStand now (all_mine chits) → IsReceipt chits i k p e → slice_get now p ≡ Some e
  receipt_stands now [] i k p e stand is = absurd (cc)
  receipt_stands now (c ∷ chits) zero k p e stand is =
      let P : ℕ × E → Type 0 = λ m. slice_get now m.0 ≡ Some m.1 in
      let at = ap (λ (c : Holder E). slice_get c.mine k) (same_Some c is.0 is.1) ∙ is.2 in
      all_got P c.mine k (p, e) (all_front P c.mine (all_mine chits) stand) at
  receipt_stands now (c ∷ chits) (suc i) k p e stand is =
      let P : ℕ × E → Type 0 = λ m. slice_get now m.0 ≡ Some m.1 in
      receipt_stands now chits i k p e (all_back P c.mine (all_mine chits) stand) (is.0, is.1, is.2)

  -- the one receipt for a place, in the chits
  OneOf : ℕ → List (Holder E) → Type 0
  OneOf p chits =
      (i k : ℕ) × (e : E) × IsReceipt chits i k p e × ((j l : ℕ) (f : E) → IsReceipt chits j l p f → (j ≡ i) × (l ≡ k))

  one_of : (p : ℕ) (chits : List (Holder E)) → times_placed p (all_mine chits) ≡ 1 → OneOf p chits
  unfolding One OneOf
  one_of p [] is = absurd (omega (arith, is))
  one_of p (c ∷ chits) is =
      elim (ℕ_discrete (times_placed p c.mine) 1) [
        | yes one ↦
            let found = one_in p c.mine one in
            let none : times_placed p (all_mine chits) ≡ 0 = omega (arith, both p c chits, one, is) in
            (0, found.0, found.1, (c, refl, found.2), here found.0 found.3 none)
        | no other ↦
            let none : times_placed p c.mine ≡ 0 = omega (arith, both p c chits, other, is) in
            let rest = one_of p chits (omega (arith, both p c chits, none, is)) in
            (suc rest.0, rest.1, rest.2, rest.3, later rest.0 rest.1 rest.4 none)
      ]
    where
      here : (k : ℕ) → ((l : ℕ) (f : E) → slice_get c.mine l ≡ Some (p, f) → l ≡ k) → times_placed p (all_mine chits) ≡ 0 → (j l : ℕ) (f : E) → IsReceipt (c ∷ chits) j l p f → (j ≡ 0) × (l ≡ k)
      here k only none zero l f at = (refl, only l f (ap (λ (c : Holder E). slice_get c.mine l) (same_Some c at.0 at.1) ∙ at.2))
      here k only none (suc j) l f at = absurd (omega (arith, none, receipt_counts p chits j l f (at.0, at.1, at.2)))

      later : (i k : ℕ) → ((j l : ℕ) (f : E) → IsReceipt chits j l p f → (j ≡ i) × (l ≡ k)) → times_placed p c.mine ≡ 0 → (j l : ℕ) (f : E) → IsReceipt (c ∷ chits) j l p f → (j ≡ suc i) × (l ≡ k)
      later i k only none zero l f at =
          absurd (omega (arith, none, got_counts p c.mine l f (ap (λ (c : Holder E). slice_get c.mine l) (same_Some c at.0 at.1) ∙ at.2)))
      later i k only none (suc j) l f at = let r = only j l f (at.0, at.1, at.2) in (ap suc r.0, r.1)

  pub each_has_one : (begun now : List E) (chits : List (Holder E)) → IsSettled begun now chits → EachHasOneReceipt begun now chits
  unfolding OneOf
  each_has_one begun now chits is place above below =
      let one = one_of place chits (is.once place ∙ once_there (length begun) (length now) place above below) in
      record {
        chit = one.0;
        receipt = one.1;
        entry = one.2;
        stands = receipt_stands now chits one.0 one.1 place one.2 is.stand one.3;
        there = one.3;
        only = one.4;
      }

  pub each_stands : (begun now : List E) (chits : List (Holder E)) → IsSettled begun now chits → EachReceiptStands begun now chits
  each_stands begun now chits is i k place e at =
      let some = receipt_counts place chits i k e at in
      (in_range (length begun) (length now) place (omega (arith, some, is.once place)), receipt_stands now chits i k place e is.stand at)

  pub adds_up : (begun now : List E) (chits : List (Holder E)) → IsSettled begun now chits → AddsUp begun now chits
  adds_up begun now chits is test =
      omega (arith, counts test begun now (all_mine chits) is.begins is.stand is.once)

  pub count_up : (begun now : List E) (chits : List (Holder E)) → IsSettled begun now chits → length now ≡ length begun + length (all_mine chits)
  count_up begun now chits is =
      omega (arith, adds_up begun now chits is (λ e. true), length_counts now, length_counts begun, length_counts (all_mine chits))
