-- What a node that doesn't lie keeps and answers.
use Rattle.std.proofs.Common.{◌≡◌, ◌⊎◌, ℕ, ◌≤◌, Bool, true, false, cond, not, ◌&&◌, ◌||◌, List, [], ◌∷◌, ◌++◌, length, Option, refl, ◌∙◌, max, ap, inl, inr, arith, eqb, ltb}
use Rattle.std.specs.declared.option.Option.TheVariants.{None, Some}
use Rattle.std.specs.List.{Contains}
use Rattle.std.proofs.lemmas.Bool.Decides.{nat_tests}
use Rattle.stamp_order.specs.declared.Stamp.{Stamp}
use Rattle.stamp_order.specs.declared.Bound.{Bound}
use Rattle.stamp_order.specs.Stamps.{has, up_to, before, same_stamp, ◌≼◌}
use Rattle.stamp_order.specs.declared.Bound.TheVariants.{All as Every, AtMost, Below}
use Rattle.protocol.specs.Messages.{flat, Version, Ask, Request, Reason}
use Rattle.wire_forms.specs.declared.Request.TheVariants.{Time, Read, Write}
use Rattle.wire_forms.specs.declared.Reason.TheVariants.{BadLength, TimeZero, BadVerifier, BadDigest}
use Rattle.protocol.specs.Setting.{Setting, first_stamp, digest_at, same}
use Rattle.protocol.specs.Nodes.{later, greatest_in, greatest_time, keeps, carries, added, added_in, accepts, refusal, outlives, pruned}
use Rattle.protocol.specs.Operations.{is_whole}
use Rattle.protocol.proofs.lemmas.Order.{≼-refl, ≼-trans, before_false, not_both, same_stamp-≡, same_stamp-refl, not_up_to}
use Rattle.lists.proofs.lemmas.Members.{Contains-head, Contains-none, Contains-rest, Contains-cons_cases, filter_is, filter_has}
use Rattle.std.proofs.lemmas.Bool.{or_cases, or_right, cases_Bool}

or_left : (a c : Bool) → a ≡ true → a || c ≡ true
or_left a c h = rw h refl

pub time_at_least : (vs : List Version) (stamp : Stamp) → keeps vs stamp ≡ true → stamp.time ≤ greatest_time vs
time_at_least [] stamp h = absurd (cc)
time_at_least (v ∷ vs) stamp h =
    let rest = time_at_least vs stamp in
    elim (or_cases (same_stamp v.stamp stamp) (keeps vs stamp) h)
    [ inl e ↦ (let q : v.stamp.time ≡ stamp.time = ap (λ (x : Stamp). x.time) (same_stamp-≡ _ _ e) in omega arith) | inr k ↦ omega (arith, rest k) ]

-- the greatest time is one of them, where there are any
pub time_of_one : (vs : List Version) → (greatest_time vs ≡ 0) ⊎ ((v : Version) × Contains vs v × (greatest_time vs ≡ v.stamp.time))
time_of_one [] = inl refl
time_of_one (v ∷ vs) =
    let rest = time_of_one vs in
    let c : (max v.stamp.time (greatest_time vs) ≡ v.stamp.time) ⊎ (max v.stamp.time (greatest_time vs) ≡ greatest_time vs) = grind arith in
    elim c [
      | inl e ↦ inr (v, Contains-head v vs, e)
      | inr e ↦ elim rest [ inl f ↦ inl (e ∙ f) | inr f ↦ inr (f.0, Contains-rest f.0 v vs f.1, e ∙ f.2) ]
    ]

pub keeps-Contains : (vs : List Version) (v : Version) → Contains vs v → keeps vs v.stamp ≡ true
keeps-Contains [] v h = absurd (Contains-none v h)
keeps-Contains (u ∷ vs) v h =
    let rest = keeps-Contains vs v in
    elim (Contains-cons_cases v u vs h)
    [ inl e ↦ rw e (or_left _ _ (same_stamp-refl u.stamp)) | inr k ↦ or_right _ _ (rest k) ]

pub keeps-append : (vs us : List Version) (stamp : Stamp) → keeps vs stamp ≡ true → keeps (vs ++ us) stamp ≡ true
keeps-append [] us stamp h = absurd (cc)
keeps-append (v ∷ vs) us stamp h =
    let rest = keeps-append vs us stamp in
    elim (or_cases (same_stamp v.stamp stamp) (keeps vs stamp) h) [ inl e ↦ or_left _ _ e | inr k ↦ or_right _ _ (rest k) ]

pub keeps-push : (vs : List Version) (v : Version) → keeps (vs ++ v ∷ []) v.stamp ≡ true
keeps-push [] v = or_left _ _ (same_stamp-refl v.stamp)
keeps-push (u ∷ vs) v = or_right _ _ (keeps-push vs v)

-- the greatest in a bound is in it and in the list
pub greatest_in_is : (bound : Bound) (vs : List Version) (v : Version) → greatest_in bound vs ≡ Some v → Contains vs v × (has bound v.stamp ≡ true)
greatest_in_is bound [] v e = absurd (cc)
greatest_in_is bound (u ∷ vs) v e = at (has bound u.stamp) refl e (greatest_in bound vs) refl (greatest_in_is bound vs)
  where
    choose : (w : Version) (b : Bool) → Some (cond b u w) ≡ Some v → (u ≡ v) ⊎ (w ≡ v)
    choose w true e = inl (cc)
    choose w false e = inr (cc)

    at : (b : Bool) → has bound u.stamp ≡ b → cond b (Some (later u (greatest_in bound vs))) (greatest_in bound vs) ≡ Some v → (o : Option Version) → greatest_in bound vs ≡ o
        → ((w : Version) → greatest_in bound vs ≡ Some w → Contains vs w × (has bound w.stamp ≡ true)) → Contains (u ∷ vs) v × (has bound v.stamp ≡ true)
    at true t f None g rest = let q : Some u ≡ Some v = rw g at f in let z : u ≡ v = cc in (rw (← z) (Contains-head u vs), rw (← z) t)
    at true t f (Some w) g rest =
        let q : Some (cond (up_to w.stamp u.stamp) u w) ≡ Some v = rw g at f in
        let r = rest w g in
        elim (choose w (up_to w.stamp u.stamp) q) [ inl z ↦ (rw (← z) (Contains-head u vs), rw (← z) t) | inr z ↦ (rw (← z) (Contains-rest w u vs r.0), rw (← z) r.1) ]
    at false t f o g rest = let r = rest v f in (Contains-rest v u vs r.0, r.1)

abbrev GivenAbove : Option Version → Stamp → Type 0
GivenAbove o stamp = (v : Version) × (o ≡ Some v) × (stamp ≼ v.stamp)

later_some : (u w : Version) (stamp : Stamp) → (stamp ≼ u.stamp) ⊎ (stamp ≼ w.stamp) → (b : Bool) → up_to w.stamp u.stamp ≡ b → stamp ≼ (cond b u w).stamp
later_some u w stamp (inl h) true e = h
later_some u w stamp (inr h) true e = ≼-trans stamp w.stamp u.stamp h e
later_some u w stamp (inl h) false e = ≼-trans stamp u.stamp w.stamp h (not_up_to w.stamp u.stamp e)
later_some u w stamp (inr h) false e = h

later_above : (u : Version) (o : Option Version) (stamp : Stamp) → (stamp ≼ u.stamp) ⊎ GivenAbove o stamp → stamp ≼ (later u o).stamp
later_above u None stamp (inl h) = h
later_above u None stamp (inr h) = absurd (let e = h.1 in cc)
later_above u (Some w) stamp (inl h) = later_some u w stamp (inl h) (up_to w.stamp u.stamp) refl
later_above u (Some w) stamp (inr h) = let e : h.0 ≡ w = (let q = h.1 in cc) in later_some u w stamp (inr (rw e at h.2)) (up_to w.stamp u.stamp) refl

above_at : (u : Version) (o : Option Version) (stamp : Stamp) (b : Bool) → GivenAbove o stamp → GivenAbove (cond b (Some (later u o)) o) stamp
above_at u o stamp true h = (later u o, refl, later_above u o stamp (inr h))
above_at u o stamp false h = h

above_here : (u : Version) (o : Option Version) (stamp : Stamp) (b : Bool) → b ≡ true → stamp ≼ u.stamp → GivenAbove (cond b (Some (later u o)) o) stamp
above_here u o stamp true e h = (later u o, refl, later_above u o stamp (inl h))
above_here u o stamp false e h = absurd (cc)

-- and no accepted one in the bound is greater
pub greatest_in_above : (bound : Bound) (vs : List Version) (stamp : Stamp) → has bound stamp ≡ true → keeps vs stamp ≡ true → GivenAbove (greatest_in bound vs) stamp
greatest_in_above bound [] stamp h k = absurd (cc)
greatest_in_above bound (u ∷ vs) stamp h k =
    let rest = greatest_in_above bound vs stamp h in
    elim (or_cases (same_stamp u.stamp stamp) (keeps vs stamp) k) [
      | inl e ↦ (let q = same_stamp-≡ u.stamp stamp e in above_here u (greatest_in bound vs) stamp (has bound u.stamp) (rw q h) (rw q (≼-refl stamp)))
      | inr q ↦ above_at u (greatest_in bound vs) stamp (has bound u.stamp) (rest q)
    ]

-- a version that isn't refused is whole
pub whole_if_taken : (s : Setting) (i : ℕ) (v : Version) → refusal s i v ≡ None → is_whole s i v ≡ true
whole_if_taken s i v h = tests (eqb (length v.sum) s.n) (eqb (length v.fragment) s.share) (eqb v.stamp.time 0) (same v.stamp.verifier (s.digest (flat v.sum))) (same (s.digest v.fragment) (digest_at s v.sum i)) (ltb 0 v.stamp.time) (λ e. grind (arith, nat_tests)) h
  where
    tests : (a c d e f g : Bool) → (d ≡ false → g ≡ true) → cond (not a || not c) (Some BadLength) (cond d (Some TimeZero) (cond (not e) (Some BadVerifier) (cond (not f) (Some BadDigest) None))) ≡ None
        → a && c && e && f && (g || same_stamp v.stamp (first_stamp s)) ≡ true
    tests true true false true true g k h = or_left _ _ (k refl)
    tests true true false true false g k h = absurd (cc)
    tests true true false false f g k h = absurd (cc)
    tests true true true e f g k h = absurd (cc)
    tests true false d e f g k h = absurd (cc)
    tests false c d e f g k h = absurd (cc)

-- a version that a node accepts was asked to be written, wasn't refused and wasn't kept
pub record IsAccepted (s : Setting) (i : ℕ) (vs : List Version) (ask : Ask) (v : Version) : Type 0 where
  pub asked : ask.request ≡ Write v
  pub fine : refusal s i v ≡ None
  pub new : keeps vs v.stamp ≡ false

added_is : (vs : List Version) (r : Option Reason) (u v : Version) → added r vs u ≡ Some v → (u ≡ v) × (r ≡ None) × (keeps vs v.stamp ≡ false)
added_is vs (Some r) u v e = absurd (cc)
added_is vs None u v e = at (keeps vs u.stamp) refl e
  where
    at : (b : Bool) → keeps vs u.stamp ≡ b → cond b None (Some u) ≡ Some v → (u ≡ v) × (Rattle.std.proofs.Common.◌≡◌ {A = Option Reason} None None) × (keeps vs v.stamp ≡ false)
    at true h f = absurd (cc)
    at false h f = let q : u ≡ v = cc in (q, refl, rw (← q) h)

added_in_is : (s : Setting) (i : ℕ) (vs : List Version) (request : Request) (v : Version) → added_in s i vs request ≡ Some v → (request ≡ Write v) × (refusal s i v ≡ None) × (keeps vs v.stamp ≡ false)
added_in_is s i vs Time v e = absurd (cc)
added_in_is s i vs (Read bound) v e = absurd (cc)
added_in_is s i vs (Write u) v e = let r = added_is vs (refusal s i u) u v e in (ap Write r.0, rw (← r.0) r.1, r.2)

pub accepts_is : (s : Setting) (i : ℕ) (vs : List Version) (ask : Ask) (v : Version) → accepts s i vs ask ≡ Some v → IsAccepted s i vs ask v
accepts_is s i vs ask v e = at (ltb ask.block s.blocks) e
  where
    at : (b : Bool) → cond b (added_in s i vs ask.request) None ≡ Some v → IsAccepted s i vs ask v
    at true f = let r = added_in_is s i vs ask.request v f in record { asked = r.0; fine = r.1; new = r.2 }
    at false f = absurd (cc)

-- a version that isn't refused is kept already, or is added
pub kept_or_added : (s : Setting) (i : ℕ) (vs : List Version) (v : Version) → refusal s i v ≡ None → (keeps vs v.stamp ≡ true) ⊎ (added (refusal s i v) vs v ≡ Some v)
kept_or_added s i vs v e = rw e (at (keeps vs v.stamp) refl)
  where
    at : (b : Bool) → keeps vs v.stamp ≡ b → (keeps vs v.stamp ≡ true) ⊎ (cond b None (Some v) ≡ Some v)
    at true k = inl k
    at false k = inr refl

-- the kept version of a stamp
pub keeps_is : (vs : List Version) (stamp : Stamp) → keeps vs stamp ≡ true → (v : Version) × Contains vs v × (v.stamp ≡ stamp)
keeps_is [] stamp h = absurd (cc)
keeps_is (v ∷ vs) stamp h =
    let rest = keeps_is vs stamp in
    elim (or_cases (same_stamp v.stamp stamp) (keeps vs stamp) h)
    [ inl e ↦ (v, Contains-head v vs, same_stamp-≡ v.stamp stamp e) | inr k ↦ (let r = rest k in (r.0, Contains-rest r.0 v vs r.1, r.2)) ]

-- what a prune leaves
module _ (s : Setting) (stamp : Stamp) (vs : List Version) where
  pub pruned_was : (v : Version) → Contains (pruned s stamp vs) v → Contains vs v
  pruned_was v h = (filter_is (outlives s stamp vs) vs v h).0

  pub pruned_first : keeps vs (first_stamp s) ≡ true → keeps (pruned s stamp vs) (first_stamp s) ≡ true
  pruned_first h =
      let v = keeps_is vs (first_stamp s) h in
      let e : same_stamp v.0.stamp (first_stamp s) ≡ true = rw v.2 (same_stamp-refl (first_stamp s)) in
      let k = keeps-Contains (pruned s stamp vs) v.0 (filter_has (outlives s stamp vs) vs v.0 v.1 (or_left _ _ (or_left _ _ e))) in
      rw v.2 at k

  pub pruned_above : (v : Version) → Contains vs v → before stamp v.stamp ≡ true → Contains (pruned s stamp vs) v
  pruned_above v h e = filter_has (outlives s stamp vs) vs v h (or_right _ _ e)

  -- the greatest up to the stamp stays, and isn't below any other up to it
  pub pruned_greatest : (v : Version) → Contains vs v → v.stamp ≼ stamp → (g : Version) × Contains (pruned s stamp vs) g × (v.stamp ≼ g.stamp) × (g.stamp ≼ stamp)
  pruned_greatest v h e =
      let a = greatest_in_above (AtMost stamp) vs v.stamp e (keeps-Contains vs v h) in
      let r = greatest_in_is (AtMost stamp) vs a.0 a.1 in
      let c : carries a.0.stamp (greatest_in (AtMost stamp) vs) ≡ true = rw a.1 (same_stamp-refl a.0.stamp) in
      (a.0, filter_has (outlives s stamp vs) vs a.0 r.0 (or_left _ _ (or_right _ _ c)), a.2, r.1)

-- a bound has what is below what it has
pub has-down : (bound : Bound) (t u : Stamp) → u ≼ t → has bound t ≡ true → has bound u ≡ true
has-down Every t u h k = refl
has-down (AtMost p) t u h k = ≼-trans u t p h k
has-down (Below p) t u h k = elim (cases_Bool (before u p)) [ inl e ↦ e | inr e ↦ absurd (not_both t p k (≼-trans p u t (before_false p u e) h)) ]
