-- What a version more, and fewer, do to the list of versions.
use Rattle.std.proofs.Common.{◌≡◌, ◌⊎◌, ◌≤◌, Bool, true, false, cond, not, ◌||◌, List, [], ◌∷◌, ◌++◌, filter, refl, sym, ◌∙◌, ap, inl, inr}
use Rattle.std.specs.declared.option.Option.TheVariants.{None, Some}
use Rattle.std.specs.Option.{option_map}
use Rattle.std.specs.Ordering.{is_eq, is_ne}
use Rattle.std.specs.declared.cmp.Ordering.{Ordering}
use Rattle.std.specs.declared.cmp.Ordering.TheVariants.{Less, Equal, Greater}
use Rattle.std.specs.List.{Contains, filter_map}
use Rattle.std.specs.BTreeMap.{BTreeMap}
use Rattle.std.proofs.lemmas.Map.Entries.{lookup-filter-keys}
use Rattle.std.proofs.lemmas.List.Elements.{Contains-append_left, Contains-push, Contains-push_cases}
use Rattle.stamp_order.specs.declared.Stamp.{Stamp}
use Rattle.stamp_order.specs.declared.Bound.TheVariants.{AtMost}
use Rattle.stamp_order.specs.Stamps.{stamp_cmp, before, same_stamp, ◌≼◌}
use Rattle.stamp_order.proofs.lemmas.Orders.{up_to_by_fields}
use Rattle.wire_forms.specs.declared.message.Version.{Version}
use Rattle.protocol.specs.Nodes.{carries, greatest_in}
use Rattle.protocol.proofs.lemmas.Order.{≼-refl, ≼-trans, ≼-antisym, before-≼, before_false, same_stamp-≡, same_stamp-refl}
use Rattle.protocol.proofs.lemmas.Keeping.{keeps-Contains, greatest_in_is, greatest_in_above}
use Rattle.node_core.specs.declared.kept.Content.{Content}
use Rattle.node_core.specs.Index.{compared, is_up_to, is_other, version_of, content_at, version_at, versions_of, IsIndex}
use Rattle.node_core.specs.Seen.{without}
use Rattle.node_core.proofs.Listing.{listed-push, listed-same, listed-filter}
use Rattle.node_core.proofs.Finding.{own}
use Rattle.lists.proofs.lemmas.Members.{Contains-head, Contains-rest, filter_is, filter_has}
use Rattle.lists.proofs.lemmas.Tests.{bool_eq, some_is}
use Rattle.std.proofs.lemmas.Bool.{or_cases, cases_Bool}

pub same_by_fields : (s t : Stamp) → is_eq (compared s t) ≡ same_stamp s t
unfolding same_stamp stamp_cmp
same_by_fields s t = refl

pub filter-same : {X : Type 0} (p q : X → Bool) (xs : List X) → ((x : X) → Contains xs x → p x ≡ q x) → filter p xs ≡ filter q xs
filter-same p q [] h = refl
filter-same p q (x ∷ xs) h = let rest = filter-same p q xs (λ y k. h y (Contains-rest y x xs k)) in rw (h x (Contains-head x xs), rest) refl

pub filter-all : {X : Type 0} (p : X → Bool) (xs : List X) → ((x : X) → Contains xs x → p x ≡ true) → filter p xs ≡ xs
filter-all p [] h = refl
filter-all p (x ∷ xs) h = let rest = filter-all p xs (λ y k. h y (Contains-rest y x xs k)) in rw (h x (Contains-head x xs), rest) refl

or_by : (a b : Bool) → (a ≡ true) ⊎ (b ≡ true) → a || b ≡ true
or_by true b h = refl
or_by false b (inl h) = absurd (cc)
or_by false b (inr h) = h

module _ (order : List Stamp) (m n : BTreeMap Stamp Content) (h : IsIndex order m) where
  -- one version more
  module _ (v : Version) (content : Content) (is : v ≡ version_of v.stamp content) (new : version_at m v.stamp ≡ None) (later : 1 ≤ v.stamp.time) (updates : (q : Stamp) → content_at n q ≡ cond (is_eq (compared v.stamp q)) (Some content) (content_at m q)) where
    updated : (q : Stamp) → version_at n q ≡ cond (is_eq (compared v.stamp q)) (Some v) (version_at m q)
    updated q = ap (option_map (version_of q)) (updates q) ∙ at (is_eq (compared v.stamp q)) refl
      where
        at : (b : Bool) → is_eq (compared v.stamp q) ≡ b → option_map (version_of q) (cond b (Some content) (content_at m q)) ≡ cond b (Some v) (version_at m q)
        at true e =
            let same : v.stamp ≡ q = same_stamp-≡ v.stamp q (sym (same_by_fields v.stamp q) ∙ e) in
            ap (λ s. Some (version_of s content)) (sym same) ∙ ap Some (sym is)
        at false e = refl

    at_new : version_at n v.stamp ≡ Some v
    at_new = updated v.stamp ∙ ap (λ b. cond b (Some v) (version_at m v.stamp)) (same_by_fields v.stamp v.stamp ∙ same_stamp-refl v.stamp)

    -- what is found was found before, or is the new one
    found_then : (q : Stamp) (u : Version) → version_at n q ≡ Some u → (version_at m q ≡ Some u) ⊎ ((v.stamp ≡ q) × (v ≡ u))
    found_then q u e = at (is_eq (compared v.stamp q)) refl (sym (updated q) ∙ e)
      where
        at : (b : Bool) → is_eq (compared v.stamp q) ≡ b → cond b (Some v) (version_at m q) ≡ Some u → (version_at m q ≡ Some u) ⊎ ((v.stamp ≡ q) × (v ≡ u))
        at true same f = inr (same_stamp-≡ v.stamp q (sym (same_by_fields v.stamp q) ∙ same), cc)
        at false same f = inl f

    still : (q : Stamp) (u : Version) → version_at m q ≡ Some u → version_at n q ≡ Some u
    still q u e = updated q ∙ at (is_eq (compared v.stamp q)) refl
      where
        at : (b : Bool) → is_eq (compared v.stamp q) ≡ b → cond b (Some v) (version_at m q) ≡ Some u
        at true same =
            let f : v.stamp ≡ q = same_stamp-≡ v.stamp q (sym (same_by_fields v.stamp q) ∙ same) in
            let g : version_at m v.stamp ≡ Some u = rw f e in
            absurd (cc)
        at false same = e

    pub added_index : IsIndex (order ++ v.stamp ∷ []) n
    added_index = record {
      there = λ q k. elim (Contains-push_cases order v.stamp q k) [
        | inl l ↦ (let u = some_is (version_at m q) (h.there q l) in rw (still q u.0 u.1) refl)
        | inr e ↦ (rw (← e, at_new) refl)
      ];
      accepted = λ q u e. elim (found_then q u e) [
        | inl f ↦ Contains-append_left order (v.stamp ∷ []) q (h.accepted q u f)
        | inr f ↦ (rw (← f.0) (Contains-push order v.stamp))
      ];
      later = λ q u e. elim (found_then q u e) [ inl f ↦ h.later q u f | inr f ↦ (rw (← f.0) later) ];
    }

    pub added_list : versions_of (order ++ v.stamp ∷ []) n ≡ versions_of order m ++ v ∷ []
    added_list =
        let same : filter_map (version_at n) order ≡ filter_map (version_at m) order =
        listed-same (version_at n) (version_at m) order (λ q k. let u = some_is (version_at m q) (h.there q k) in still q u.0 u.1 ∙ sym u.1) in
        listed-push (version_at n) order v.stamp v at_new ∙ ap (λ xs. xs ++ v ∷ []) same

  -- the versions dropped whose stamps don't pass a test
  module _ (passes : Stamp → Bool) (dropped : n.entries ≡ filter (λ e. passes e.0) m.entries) where
    content_dropped : (q : Stamp) → content_at n q ≡ cond (passes q) (content_at m q) None
    content_dropped q =
        rw dropped (lookup-filter-keys (λ k. is_eq (compared q k)) passes (passes q) (λ k e. ap passes (sym (same_stamp-≡ q k (sym (same_by_fields q k) ∙ e)))) m.entries)

    at_dropped : (q : Stamp) → version_at n q ≡ cond (passes q) (version_at m q) None
    at_dropped q = ap (option_map (version_of q)) (content_dropped q) ∙ at (passes q)
      where
        at : (b : Bool) → option_map (version_of q) (cond b (content_at m q) None) ≡ cond b (version_at m q) None
        at true = refl
        at false = refl

    kept_then : (q : Stamp) (u : Version) → version_at n q ≡ Some u → (version_at m q ≡ Some u) × (passes q ≡ true)
    kept_then q u e = at (passes q) refl (sym (at_dropped q) ∙ e)
      where
        at : (b : Bool) → passes q ≡ b → cond b (version_at m q) None ≡ Some u → (version_at m q ≡ Some u) × (passes q ≡ true)
        at true same f = (f, same)
        at false same f = absurd (cc)

    stays : (q : Stamp) → passes q ≡ true → version_at n q ≡ version_at m q
    stays q e = at_dropped q ∙ ap (λ b. cond b (version_at m q) None) e

    pub dropped_index : IsIndex (filter passes order) n
    dropped_index = record {
      there = λ q k. let r = filter_is passes order q k in rw (stays q r.1) (h.there q r.0);
      accepted = λ q u e. let r = kept_then q u e in filter_has passes order q (h.accepted q u r.0) r.1;
      later = λ q u e. h.later q u (kept_then q u e).0;
    }

    pub dropped_list : versions_of (filter passes order) n ≡ filter (λ v. passes v.stamp) (versions_of order m)
    dropped_list =
        listed-same (version_at n) (version_at m) (filter passes order) (λ q k. stays q (filter_is passes order q k).1)
        ∙ listed-filter (version_at m) passes (λ v. passes v.stamp) order (λ q u k e. ap passes (own m q u e)) (λ q k. some_is (version_at m q) (h.there q k))

-- the versions of other stamps
pub other_stamps : (stamp : Stamp) (vs : List Version) → filter (λ v. is_other stamp v.stamp) vs ≡ without stamp vs
other_stamps stamp vs = filter-same (λ v. is_other stamp v.stamp) (λ v. not (same_stamp stamp v.stamp)) vs (λ v k. unequal (compared stamp v.stamp) ∙ ap not (same_by_fields stamp v.stamp))
  where
    unequal : (o : Ordering) → is_ne o ≡ not (is_eq o)
    unequal Less = refl
    unequal Equal = refl
    unequal Greater = refl

-- which versions a prune keeps after the first
module _ (stamp : Stamp) (vs : List Version) where
  pub kept_by : Version → Bool
  kept_by v = carries v.stamp (greatest_in (AtMost stamp) vs) || before stamp v.stamp

  -- they are the greatest up to the stamp, and all above it
  pub kept_from : (g : Version) → greatest_in (AtMost stamp) vs ≡ Some g → filter (λ v. is_up_to g.stamp v.stamp) vs ≡ filter (λ v. carries v.stamp (greatest_in (AtMost stamp) vs) || before stamp v.stamp) vs
  kept_from g e = rw e (filter-same (λ v. is_up_to g.stamp v.stamp) (λ v. same_stamp g.stamp v.stamp || before stamp v.stamp) vs (λ v k. bool_eq _ _ (λ low. to v k (sym (up_to_by_fields g.stamp v.stamp) ∙ low)) (λ b. up_to_by_fields g.stamp v.stamp ∙ from v (or_cases _ _ b))))
    where
      to : (v : Version) → Contains vs v → g.stamp ≼ v.stamp → same_stamp g.stamp v.stamp || before stamp v.stamp ≡ true
      to v k low =
          elim (cases_Bool (before stamp v.stamp)) [
            | inl b ↦ or_by _ _ (inr b)
            | inr b ↦ (
                let above = greatest_in_above (AtMost stamp) vs v.stamp (before_false v.stamp stamp b) (keeps-Contains vs v k) in
                let f = above.1 in
                let is : above.0 ≡ g = cc in
                let eq : g.stamp ≡ v.stamp = ≼-antisym g.stamp v.stamp low (rw is at above.2) in
                (let same : same_stamp g.stamp v.stamp ≡ true = rw eq (same_stamp-refl v.stamp) in or_by _ _ (inl same)))
          ]

      from : (v : Version) → (same_stamp g.stamp v.stamp ≡ true) ⊎ (before stamp v.stamp ≡ true) → g.stamp ≼ v.stamp
      from v (inl s) = rw (same_stamp-≡ g.stamp v.stamp s) (≼-refl v.stamp)
      from v (inr b) = ≼-trans g.stamp stamp v.stamp (greatest_in_is (AtMost stamp) vs g e).1 (before-≼ stamp v.stamp b)

  -- all, where none is up to the stamp
  pub kept_all : greatest_in (AtMost stamp) vs ≡ None → vs ≡ filter (λ v. carries v.stamp (greatest_in (AtMost stamp) vs) || before stamp v.stamp) vs
  kept_all e =
      rw e (sym (filter-all (λ v. before stamp v.stamp) vs (λ v k.
      elim (cases_Bool (before stamp v.stamp)) [
        | inl b ↦ b
        | inr b ↦ absurd (let above = greatest_in_above (AtMost stamp) vs v.stamp (before_false v.stamp stamp b) (keeps-Contains vs v k) in let f = above.1 in cc)
      ])))
