-- A read that steps back has fewer versions left to step back over.
use Rattle.std.proofs.Common.{◌≡◌, ℕ, zero, suc, ◌+◌, ◌-◌, ◌<◌, ◌≤◌, Bool, true, false, cond, List, [], ◌∷◌, Option, refl, sym, ◌∙◌, ap, inl, inr, arith}
use Rattle.std.specs.declared.option.Option.TheVariants.{None, Some}
use Rattle.std.specs.List.{Contains, count_by}
use Rattle.std.proofs.lemmas.Bool.{cases_Bool, cases_lt}
use Rattle.std.proofs.lemmas.List.Sums.{sum_by-cons}
use Rattle.lists.proofs.lemmas.Members.{Contains-none, Contains-cons_cases}
use Rattle.stamp_order.specs.declared.Stamp.{Stamp}
use Rattle.stamp_order.specs.declared.Bound.{Bound}
use Rattle.stamp_order.specs.declared.Bound.TheVariants.{All as Every, AtMost, Below}
use Rattle.stamp_order.specs.Stamps.{has, before, up_to, ◌≼◌}
use Rattle.protocol.specs.Reach.{reaches}
use Rattle.protocol.specs.Messages.{Version, Reply}
use Rattle.protocol.specs.Setting.{Setting}
use Rattle.protocol.specs.Operations.{valid, pivot, support, carries, stamps, stamp_of}
use Rattle.protocol.specs.Operations.Stage.{Versions}
use Rattle.protocol.proofs.lemmas.Counting.{count_within, both_true}
use Rattle.protocol.proofs.lemmas.Highest.{highest_is}
use Rattle.protocol.proofs.lemmas.Order.{≼-refl, ≼-trans, ≼-cases, ≼-antisym, before-≼, not_both, before_false, same_stamp-refl, stamps_order}
use Rattle.protocol.proofs.lemmas.Rounds.{valid_was}
use Rattle.block_phases.specs.Phases.{Keeps}
use Rattle.block_phases.specs.Endings.{kept_within, phases_left}

-- ---- how many pass a test, and how many a wider one

abbrev as_number : Bool → ℕ
as_number b = cond b 1 0

one_more : (p q : Bool) → (p ≡ true → q ≡ true) → cond p 1 0 ≤ cond q 1 0
one_more true true wider = omega arith
one_more true false wider = absurd (let e = wider refl in cc)
one_more false q wider = omega arith

count-cons : (p : Version → Bool) (v : Version) (vs : List Version) → count_by p (v ∷ vs) ≡ cond (p v) 1 0 + count_by p vs
count-cons p v vs = sum_by-cons (λ (x : Version). cond (p x) 1 0) v vs

count_wider : (p q : Version → Bool) → ((v : Version) → p v ≡ true → q v ≡ true) → (vs : List Version) → count_by p vs ≤ count_by q vs
count_wider p q wider [] = omega arith
count_wider p q wider (v ∷ vs) =
    let rest = count_wider p q wider vs in
    let here = one_more (p v) (q v) (wider v) in
    omega (arith, rest, here, count-cons p v vs, count-cons q v vs)

count_more : (p q : Version → Bool) → ((v : Version) → p v ≡ true → q v ≡ true) → (vs : List Version) (v : Version) → Contains vs v
    → p v ≡ false → q v ≡ true → count_by p vs < count_by q vs
count_more p q wider [] v there fails passes = absurd (Contains-none v there)
count_more p q wider (u ∷ vs) v there fails passes = elim (Contains-cons_cases v u vs there) [
  | inl same ↦ (
      let a = ap as_number (ap p (sym same) ∙ fails) in
      let d = ap as_number (ap q (sym same) ∙ passes) in
      let rest = count_wider p q wider vs in
      omega (arith, a, d, rest, count-cons p u vs, count-cons q u vs))
  | inr later ↦ (
      let rest = count_more p q wider vs v later fails passes in
      let here = one_more (p u) (q u) (wider u) in
      omega (arith, rest, here, count-cons p u vs, count-cons q u vs))
]

kept_wider : (a d : Bound) → ((x : Stamp) → has a x ≡ true → has d x ≡ true) → (n : ℕ) (kept : Keeps) → kept_within a n kept ≤ kept_within d n kept
kept_wider a d wider zero kept = omega arith
kept_wider a d wider (suc k) kept =
    let rest = kept_wider a d wider k kept in
    let here = count_wider (λ v. has a v.stamp) (λ v. has d v.stamp) (λ v. wider v.stamp) (kept k) in
    omega (arith, rest, here)

kept_more : (a d : Bound) → ((x : Stamp) → has a x ≡ true → has d x ≡ true) → (n : ℕ) (kept : Keeps) (i : ℕ) (v : Version) → i < n
    → Contains (kept i) v → has a v.stamp ≡ false → has d v.stamp ≡ true → kept_within a n kept < kept_within d n kept
kept_more a d wider zero kept i v below there fails passes = absurd (omega (arith, below))
kept_more a d wider (suc k) kept i v below there fails passes = elim (cases_lt i k) [
  | inl l ↦ (
      let rest = kept_more a d wider k kept i v l there fails passes in
      let here = count_wider (λ v. has a v.stamp) (λ v. has d v.stamp) (λ v. wider v.stamp) (kept k) in
      omega (arith, rest, here))
  | inr m ↦ (
      let same : i ≡ k = omega (arith, below, m) in
      let rest = kept_wider a d wider k kept in
      let here = count_more (λ v. has a v.stamp) (λ v. has d v.stamp) (λ v. wider v.stamp) (kept k) v (rw same at there) fails passes in
      omega (arith, rest, here))
]

-- ---- bounds

before_trans : (x p q : Stamp) → before x p ≡ true → p ≼ q → before x q ≡ true
before_trans x p q a d = elim (cases_Bool (before x q)) [
  | inl passes ↦ passes
  | inr fails ↦ absurd (not_both x p a (≼-trans p q x d (before_false q x fails)))
]

not_before_itself : (p : Stamp) → before p p ≡ false
not_before_itself p = elim (cases_Bool (before p p)) [ inl passes ↦ absurd (not_both p p passes (≼-refl p)) | inr fails ↦ fails ]

-- what is below a stamp in a bound is in the bound
below_in : (bound : Bound) (p : Stamp) → has bound p ≡ true → (x : Stamp) → has (Below p) x ≡ true → has bound x ≡ true
below_in Every p inside x is = refl
below_in (AtMost q) p inside x is = ≼-trans x p q (before-≼ x p is) inside
below_in (Below q) p inside x is = before_trans x p q is (before-≼ p q inside)

module _ (n : ℕ) (kept : Keeps) (p : Stamp) (i : ℕ) (v : Version) (below : i < n) (there : Contains (kept i) v) (stamp : v.stamp ≡ p) where
  fewer : (bound : Bound) → has bound p ≡ true → kept_within (Below p) n kept < kept_within bound n kept
  fewer bound inside =
      kept_more (Below p) bound (below_in bound p inside) n kept i v below there (ap (λ (x : Stamp). before x p) stamp ∙ not_before_itself p)
      (ap (has bound) stamp ∙ inside)

  -- what is left when a read asks below a stamp that it found
  pub left_below : (bound : Bound) → has bound p ≡ true → phases_left n kept (Versions (Below p)) < phases_left n kept (Versions bound)
  left_below Every inside = let f = fewer Every inside in omega (arith, f)
  left_below (Below q) inside = let f = fewer (Below q) inside in omega (arith, f)
  left_below (AtMost q) inside =
      let f = kept_wider (Below p) (Below q) (λ x is. before_trans x p q is inside) n kept in
      omega (arith, f)

  -- and when it asks up to one, of which it hadn't asked just that
  pub left_at_most : (bound : Bound) → has bound p ≡ true → ((q : Stamp) → bound ≡ AtMost q → p ≡ q → ⊥)
      → phases_left n kept (Versions (AtMost p)) < phases_left n kept (Versions bound)
  left_at_most Every inside other = let f = fewer Every inside in omega (arith, f)
  left_at_most (Below q) inside other = let f = fewer (Below q) inside in omega (arith, f)
  left_at_most (AtMost q) inside other = elim (≼-cases p q inside) [
    | inl less ↦ (let f = fewer (Below q) less in omega (arith, f))
    | inr same ↦ absurd (other q refl same)
  ]

-- ---- a stamp that was asked for up to it has enough support

module _ (s : Setting) (answers : ℕ → Option Reply) (p : Stamp) where
  pub supported : pivot s answers (AtMost p) ≡ Some p → s.qc - s.t ≤ support s answers (AtMost p) p
  supported is =
      let g = highest_is up_to stamps_order s.n (s.qc - s.t) (stamps s answers (AtMost p)) p is in
      let all = count_within s.n (λ i. reaches up_to p (stamps s answers (AtMost p) i)) (λ i. carries p (valid s i (AtMost p) (answers i))) each in
      let enough = g.3 in
      omega (arith, enough, all)
    where
      carried : (i : ℕ) (o : Option Version) → valid s i (AtMost p) (answers i) ≡ o → reaches up_to p (stamp_of o) ≡ true → carries p o ≡ true
      carried i None e r = absurd cc
      carried i (Some v) e r =
          let u = valid_was s i (AtMost p) (answers i) v e in
          let same : v.stamp ≡ p = ≼-antisym v.stamp p (both_true _ _ u.1).0 r in
          rw same (same_stamp-refl p)

      each : (i : ℕ) → i < s.n → reaches up_to p (stamps s answers (AtMost p) i) ≡ true → carries p (valid s i (AtMost p) (answers i)) ≡ true
      each i l r = carried i (valid s i (AtMost p) (answers i)) refl r
