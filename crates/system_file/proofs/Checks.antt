-- What a read that is held against a check shows.
use Rattle.std.proofs.Common.{◌≡◌, ◌≢◌, ◌⊎◌, inl, inr, ℕ, ◌+◌, ◌<◌, ◌≤◌, Bool, true, false, not, ◌&&◌, ◌==◌, IsTrue, List, ◌∷◌, length, take, drop, refl, sym, ◌∙◌, ap, subst, arith, eq-eqb, ne_eqb}
use Rattle.std.proofs.lemmas.Bool.{cases_Bool, eqb-true}
use Rattle.sqlite_disk.specs.Digest.{digest, Collide}
use Rattle.sqlite_disk.specs.Disk.{Holds, MoreFaults}
use Rattle.sqlite_disk.specs.Events.{Event, replay, read_under, agrees, counted}
use Rattle.sqlite_disk.proofs.EventLemmas.{Holds-agrees, same_if_agrees, collide_if_passed}

told_true : (a b : Bool) → IsTrue (a && not (not b)) → IsTrue b
told_true true true h = refl
told_true true false h = absurd (cc)
told_true false b h = absurd (cc)

counts_on : (is_fault : Bool) (faults : ℕ) → faults ≤ counted is_fault faults
counts_on true faults = omega arith
counts_on false faults = omega arith

-- these bytes came where n were asked for
module _ (start : List ℕ) (h : List Event) (key check at n : ℕ) (got : List ℕ) (len : length got ≡ n) (some : 0 < n) where
  abbrev old : List ℕ
  old = (replay start h).seen

  abbrev there : List ℕ
  there = take n (drop at old)

  abbrev then_read : List Event
  then_read = read_under key check at n true got ∷ h

  pub fits_holds : digest key got ≡ check → IsTrue (replay start then_read).is_honest → Holds old at got
  fits_holds fits = rw (eq-eqb _ _ len, ne_eqb n 0 (omega (arith, some)), eq-eqb _ _ fits) λ clean.
      Holds-agrees old at got (told_true (replay start h).is_honest _ clean)

  pub fits_faults : digest key got ≡ check → (replay start then_read).faults ≡ (replay start h).faults
  fits_faults fits = rw (eq-eqb _ _ len, ne_eqb n 0 (omega (arith, some)), eq-eqb _ _ fits) refl

  same_there : IsTrue (agrees old at got) → got ≡ there
  same_there same = sym (same_if_agrees old at got same) ∙ ap (λ k. take k (drop at old)) len

  -- bytes that are there and fit the check are taken for no others, unless both have one digest
  pub detects : IsTrue (replay start h).is_honest → at + n ≤ length old → check ≡ digest key there → IsTrue (replay start then_read).is_honest ⊎ Collide key got there
  detects honest within right = elim (cases_Bool (digest key got == check)) [
    | inl fits ↦ elim (cases_Bool (agrees old at got)) [
      | inl same ↦ inl (rw (eq-eqb _ _ len, ne_eqb n 0 (omega (arith, some)), fits, same, honest))
      | inr lied ↦ inr (subst (λ k. Collide key got (take k (drop at old))) len
          (collide_if_passed key old at got (omega (arith, within, len)) (eqb-true _ _ fits ∙ right ∙ ap (λ k. digest key (take k (drop at old))) (sym len)) lied))
    ]
    | inr other ↦ inl (rw (eq-eqb _ _ len, ne_eqb n 0 (omega (arith, some)), other, honest))
  ]

  pub misfit_faults : digest key got ≢ check → check ≡ digest key there → MoreFaults (replay start h).faults (replay start then_read).faults
  misfit_faults other right = elim (cases_Bool (agrees old at got)) [
    | inl same ↦ absurd (other (ap (digest key) (same_there same) ∙ sym right))
    | inr lied ↦ rw (eq-eqb _ _ len, ne_eqb n 0 (omega (arith, some)), ne_eqb _ _ other, lied) (omega arith)
  ]

  pub no_fewer : (replay start h).faults ≤ (replay start then_read).faults
  no_fewer = counts_on _ (replay start h).faults
