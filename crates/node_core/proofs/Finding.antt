-- What the versions by stamp say of the list of them.
use Rattle.std.proofs.Common.{◌≡◌, ◌≤◌, ℕ, true, false, List, map, Option, IsSome, IfSome, IfNone, refl, sym, ◌∙◌, ap, subst, inl, inr, arith}
use Rattle.std.specs.declared.option.Option.TheVariants.{None, Some}
use Rattle.std.specs.Option.{is_some, option_map}
use Rattle.std.specs.List.{Contains, slice_get}
use Rattle.std.proofs.lemmas.Option.{slice_get-map}
use Rattle.std.specs.BTreeMap.{BTreeMap}
use Rattle.stamp_order.specs.declared.Stamp.{Stamp}
use Rattle.stamp_order.specs.declared.Bound.{Bound}
use Rattle.stamp_order.specs.declared.Bound.TheVariants.{All as Every}
use Rattle.wire_forms.specs.declared.message.Version.{Version}
use Rattle.protocol.specs.Nodes.{keeps, greatest_in, greatest_time}
use Rattle.protocol.proofs.lemmas.Order.{≼-antisym, ≼-time}
use Rattle.protocol.proofs.lemmas.Keeping.{keeps-Contains, keeps_is, greatest_in_is, greatest_in_above, time_of_one, time_at_least}
use Rattle.node_core.specs.declared.kept.Content.{Content}
use Rattle.node_core.specs.Index.{version_of, content_at, version_at, versions_of, IsIndex, IsLastIn, IsNoneIn}
use Rattle.node_core.proofs.Listing.{listed_from, listed_to, read-listed}
use Rattle.lists.proofs.lemmas.Members.{Contains-slice_get}
use Rattle.lists.proofs.lemmas.Tests.{some_is}
use Rattle.std.proofs.lemmas.Bool.{cases_Bool}

-- a version that is made of something has the stamp that it is made with
made : (stamp : Stamp) (o : Option Content) (v : Version) → option_map (version_of stamp) o ≡ Some v → (IsSome o) × (v.stamp ≡ stamp)
made stamp None v e = absurd (cc)
made stamp (Some content) v e = let is : version_of stamp content ≡ v = cc in (refl, ap (λ (x : Version). x.stamp) (sym is))

made-is_some : (stamp : Stamp) (o : Option Content) → is_some (option_map (version_of stamp) o) ≡ is_some o
made-is_some stamp None = refl
made-is_some stamp (Some content) = refl

-- the version of a stamp has that stamp
pub own : (m : BTreeMap Stamp Content) (stamp : Stamp) (v : Version) → version_at m stamp ≡ Some v → v.stamp ≡ stamp
own m stamp v e = (made stamp (content_at m stamp) v e).1

module _ (order : List Stamp) (m : BTreeMap Stamp Content) (h : IsIndex order m) where
  -- a listed version is the one of its stamp
  pub listed_own : (v : Version) → Contains (versions_of order m) v → version_at m v.stamp ≡ Some v
  listed_own v k =
      let r = listed_from (version_at m) order v k in
      let e : v.stamp ≡ r.0 = own m r.0 v r.2 in
      rw (← e) at r.2

  -- the version of a stamp is listed
  pub listed_at : (stamp : Stamp) (v : Version) → version_at m stamp ≡ Some v → Contains (versions_of order m) v
  listed_at stamp v e = listed_to (version_at m) order stamp v (h.accepted stamp v e) e

  -- no listed version has the time 0
  pub listed_later : (v : Version) → Contains (versions_of order m) v → 1 ≤ v.stamp.time
  listed_later v k = h.later v.stamp v (listed_own v k)

  -- the stamps of the list
  pub listed_stamps : map (λ v. v.stamp) (versions_of order m) ≡ order
  listed_stamps =
      read-listed (version_at m) (λ (v : Version). v.stamp) order
      (λ stamp k. let u = some_is (version_at m stamp) (h.there stamp k) in (u.0, u.1, own m stamp u.0 u.1))

  pub keeps_at : (stamp : Stamp) (v : Version) → version_at m stamp ≡ Some v → keeps (versions_of order m) stamp ≡ true
  keeps_at stamp v e = let k = keeps-Contains (versions_of order m) v (listed_at stamp v e) in rw (own m stamp v e) at k

  pub kept_at : (stamp : Stamp) → keeps (versions_of order m) stamp ≡ true → (v : Version) × (version_at m stamp ≡ Some v)
  kept_at stamp k =
      let r = keeps_is (versions_of order m) stamp k in
      let e = listed_own r.0 r.1 in
      (r.0, rw r.2 at e)

  -- by number the list has the version of the stamp of that number
  numbered : (k : ℕ) → slice_get order k ≡ option_map (λ (v : Version). v.stamp) (slice_get (versions_of order m) k)
  numbered k = sym (ap (λ (l : List Stamp). slice_get l k) listed_stamps) ∙ slice_get-map (λ (v : Version). v.stamp) (versions_of order m) k

  pub none_there : (k : ℕ) → slice_get order k ≡ None → None ≡ slice_get (versions_of order m) k
  none_there k e = at (slice_get (versions_of order m) k) (sym (numbered k) ∙ e)
    where
      at : (o : Option Version) → option_map (λ (v : Version). v.stamp) o ≡ None → None ≡ o
      at None f = refl
      at (Some v) f = absurd (cc)

  pub content_there : (k : ℕ) (stamp : Stamp) → slice_get order k ≡ Some stamp → version_at m stamp ≡ slice_get (versions_of order m) k
  content_there k stamp e = at (slice_get (versions_of order m) k) refl (sym (numbered k) ∙ e)
    where
      at : (o : Option Version) → slice_get (versions_of order m) k ≡ o → option_map (λ (v : Version). v.stamp) o ≡ Some stamp → version_at m stamp ≡ o
      at None g f = absurd (cc)
      at (Some v) g f =
          let is : v.stamp ≡ stamp = cc in
          let own_one = listed_own v (Contains-slice_get (versions_of order m) k v g) in
          subst (λ (q : Stamp). version_at m q ≡ Some v) is own_one

  -- a stamp is kept where something is kept by it
  pub keeps-is_some : (stamp : Stamp) → keeps (versions_of order m) stamp ≡ is_some (content_at m stamp)
  keeps-is_some stamp = at (version_at m stamp) refl ∙ made-is_some stamp (content_at m stamp)
    where
      at : (o : Option Version) → version_at m stamp ≡ o → keeps (versions_of order m) stamp ≡ is_some o
      at (Some v) e = keeps_at stamp v e
      at None e =
          elim (cases_Bool (keeps (versions_of order m) stamp))
          [ inl k ↦ absurd (let r = kept_at stamp k in let f = r.1 in cc) | inr k ↦ k ]

  -- and there is none of one that isn't kept
  pub none_at : (stamp : Stamp) → keeps (versions_of order m) stamp ≡ false → version_at m stamp ≡ None
  none_at stamp k = at (version_at m stamp) refl
    where
      at : (o : Option Version) → version_at m stamp ≡ o → o ≡ None
      at None e = refl
      at (Some v) e = let f = keeps_at stamp v e in absurd (cc)

  found_at : (stamp : Stamp) (content : Content) → content_at m stamp ≡ Some content → version_at m stamp ≡ Some (version_of stamp content)
  found_at stamp content e = ap (option_map (version_of stamp)) e

  -- the greatest version in a bound is that of the greatest stamp in it
  greatest-at : (bound : Bound) (stamp : Stamp) (content : Content) → IsLastIn m bound stamp content → Some (version_of stamp content) ≡ greatest_in bound (versions_of order m)
  greatest-at bound stamp content last =
      let e = found_at stamp content last.found in
      let g = greatest_in_above bound (versions_of order m) stamp last.inside (keeps_at stamp (version_of stamp content) e) in
      let r = greatest_in_is bound (versions_of order m) g.0 g.1 in
      let f = listed_own g.0 r.0 in
      let same : g.0.stamp ≡ stamp = ≼-antisym g.0.stamp stamp (last.above g.0.stamp r.1 (made g.0.stamp (content_at m g.0.stamp) g.0 f).0) g.2 in
      let k : version_at m stamp ≡ Some g.0 = rw same at f in
      let w : Some g.0 ≡ Some (version_of stamp content) = sym k ∙ e in
      sym (g.1 ∙ w)

  -- there is none in a bound where nothing is kept by a stamp in it
  greatest-none : (bound : Bound) → IsNoneIn m bound → greatest_in bound (versions_of order m) ≡ None
  greatest-none bound none = at (greatest_in bound (versions_of order m)) refl
    where
      at : (o : Option Version) → greatest_in bound (versions_of order m) ≡ o → o ≡ None
      at None e = refl
      at (Some v) e =
          let r = greatest_in_is bound (versions_of order m) v e in
          let f = listed_own v r.0 in
          let g : version_at m v.stamp ≡ None = ap (option_map (version_of v.stamp)) (none v.stamp r.1) in
          absurd (cc)

  -- what comes back from the search for the last
  module _ {A : Type 0} (key : A → Stamp) (value : A → Content) (bound : Bound) where
    pub greatest-is : (o : Option A) → IfSome o (λ x. IsLastIn m bound (key x) (value x)) → IfNone o (IsNoneIn m bound) → option_map (λ x. version_of (key x) (value x)) o ≡ greatest_in bound (versions_of order m)
    greatest-is None some none = sym (greatest-none bound none)
    greatest-is (Some x) some none = greatest-at bound (key x) (value x) some

    pub found-later : (o : Option A) → IfSome o (λ x. IsLastIn m bound (key x) (value x)) → IfSome o (λ x. 1 ≤ (key x).time)
    found-later None some = tt
    found-later (Some x) some = h.later (key x) (version_of (key x) (value x)) (found_at (key x) (value x) some.found)

-- the greatest time is that of the greatest version
module _ (vs : List Version) where
  pub time_of_greatest : (v : Version) → greatest_in Every vs ≡ Some v → greatest_time vs ≡ v.stamp.time
  time_of_greatest v e =
      let r = greatest_in_is Every vs v e in
      let low = time_at_least vs v.stamp (keeps-Contains vs v r.0) in
      elim (time_of_one vs) [
        | inl z ↦ omega arith
        | inr u ↦ (
            let g = greatest_in_above Every vs u.0.stamp refl (keeps-Contains vs u.0 u.1) in
            let f = g.1 in
            let same : g.0 ≡ v = cc in
            let high = ≼-time u.0.stamp v.stamp (rw same at g.2) in
            let is = u.2 in
            omega arith)
      ]

  pub no_time : greatest_in Every vs ≡ None → greatest_time vs ≡ 0
  no_time e =
      elim (time_of_one vs) [
        | inl z ↦ z
        | inr u ↦ absurd (let g = greatest_in_above Every vs u.0.stamp refl (keeps-Contains vs u.0 u.1) in let f = g.1 in cc)
      ]
