-- What a node answers and keeps of a block of which it keeps the first version and the latest.
use Rattle.std.proofs.Common.{◌≡◌, ℕ, ◌+◌, ◌<◌, Bool, true, false, ◌||◌, List, [], ◌∷◌, ◌++◌, length, refl, ap, ◌⊎◌, inl, inr, arith, eqb, ltb}
use Rattle.std.specs.declared.option.Option.TheVariants.{None, Some}
use Rattle.std.proofs.lemmas.Bool.Decides.{nat_tests}
use Rattle.stamp_order.specs.declared.Stamp.{Stamp}
use Rattle.stamp_order.specs.declared.Bound.TheVariants.{All as Every, AtMost}
use Rattle.stamp_order.specs.Stamps.{up_to, before, same_stamp}
use Rattle.quorum_rules.specs.Limits.{Numbers}
use Rattle.protocol.specs.Messages.{Version}
use Rattle.protocol.specs.Setting.{Setting, IsValid, IsBlock, zeros, first_stamp, verifier_of, digest_at, same}
use Rattle.protocol.specs.Nodes.{first_version, greatest_in, greatest_time, keeps, refusal, added_in, outlives, pruned}
use Rattle.wire_forms.specs.declared.Request.TheVariants.{Write}
use Rattle.protocol.specs.Operations.{is_whole}
use Rattle.protocol.specs.Instance.{setting}
use Rattle.protocol.proofs.lemmas.Order.{≼-refl, ≼-time, before-≼, lower_time, same_stamp-≡, same_stamp-refl}
use Rattle.protocol.proofs.lemmas.Rounds.{same-refl}
use Rattle.protocol.proofs.lemmas.Keeping.{time_at_least}
use Rattle.node_device.specs.Held.{Held, stamp_of, version_of, kept_of, rewritten, the_client}
use Rattle.std.proofs.lemmas.Bool.{eq-eqb, cases_Bool}

-- of two stamps of different times the first is the lower one
pub record AreApart (a z : Stamp) : Type 0 where
  pub up : up_to a z ≡ true
  pub not_down : up_to z a ≡ false
  pub not_before : before z a ≡ false
  pub differ : same_stamp a z ≡ false
  pub other : same_stamp z a ≡ false

pub are_apart : (a z : Stamp) → a.time < z.time → AreApart a z
are_apart a z l = record {
  up = before-≼ a z (lower_time a z l);
  not_down = elim (cases_Bool (up_to z a)) [ inl e ↦ absurd (let t = ≼-time z a e in omega arith) | inr e ↦ e ];
  not_before = elim (cases_Bool (before z a)) [ inl e ↦ absurd (let t = ≼-time z a (before-≼ z a e) in omega arith) | inr e ↦ e ];
  differ = elim (cases_Bool (same_stamp a z)) [ inl e ↦ absurd (let t = ap (λ (s : Stamp). s.time) (same_stamp-≡ a z e) in omega arith) | inr e ↦ e ];
  other = elim (cases_Bool (same_stamp z a)) [ inl e ↦ absurd (let t = ap (λ (s : Stamp). s.time) (same_stamp-≡ z a e) in omega arith) | inr e ↦ e ];
}

-- what is later than the first is the greatest of the two
two_greatest : (first v : Version) → first.stamp.time < v.stamp.time → greatest_in Every (first ∷ v ∷ []) ≡ Some v
two_greatest first v l = let a = are_apart first.stamp v.stamp l in rw a.not_down refl

two_at_most : (first v : Version) → first.stamp.time < v.stamp.time → greatest_in (AtMost v.stamp) (first ∷ v ∷ []) ≡ Some v
two_at_most first v l =
    let a = are_apart first.stamp v.stamp l in
    let r : up_to v.stamp v.stamp ≡ true = ≼-refl v.stamp in
    rw (a.up, r, a.not_down) refl

three_at_most : (first u v : Version) → first.stamp.time < u.stamp.time → u.stamp.time < v.stamp.time → greatest_in (AtMost v.stamp) (first ∷ u ∷ v ∷ []) ≡ Some v
three_at_most first u v l k =
    let a = are_apart first.stamp v.stamp (omega arith) in
    let b = are_apart u.stamp v.stamp k in
    let r : up_to v.stamp v.stamp ≡ true = ≼-refl v.stamp in
    rw (a.up, b.up, r, b.not_down, a.not_down) refl

module _ (s : Setting) (first : Version) (is : first.stamp ≡ first_stamp s) where
  first_time : first.stamp.time ≡ 0
  first_time = ap (λ (t : Stamp). t.time) is

  first_stays : same_stamp first.stamp (first_stamp s) ≡ true
  first_stays = rw is (same_stamp-refl (first_stamp s))

  -- a prune by the later one's stamp keeps both
  pub two_stay : (v : Version) → 0 < v.stamp.time → pruned s v.stamp (first ∷ v ∷ []) ≡ first ∷ v ∷ []
  two_stay v l =
      let greatest = two_at_most first v (omega (arith, first_time, l)) in
      let kept : outlives s v.stamp (first ∷ v ∷ []) v ≡ true = rw (greatest, same_stamp-refl v.stamp) (at (same_stamp v.stamp (first_stamp s)) (before v.stamp v.stamp)) in
      rw (first_stays, kept) refl
    where
      at : (p q : Bool) → p || true || q ≡ true
      at true q = refl
      at false q = refl

  -- and drops one between them
  pub one_goes : (u v : Version) → 0 < u.stamp.time → u.stamp.time < v.stamp.time → pruned s v.stamp (first ∷ u ∷ v ∷ []) ≡ first ∷ v ∷ []
  one_goes u v l k =
      let greatest = three_at_most first u v (omega (arith, first_time, l)) k in
      let a = are_apart (first_stamp s) u.stamp l in
      let b = are_apart u.stamp v.stamp k in
      let kept : outlives s v.stamp (first ∷ u ∷ v ∷ []) v ≡ true = rw (greatest, same_stamp-refl v.stamp) (at (same_stamp v.stamp (first_stamp s)) (before v.stamp v.stamp)) in
      let gone : outlives s v.stamp (first ∷ u ∷ v ∷ []) u ≡ false = rw (greatest, a.other, b.other, b.not_before) refl in
      rw (first_stays, gone, kept) refl
    where
      at : (p q : Bool) → p || true || q ≡ true
      at true q = refl
      at false q = refl

module _ (c : Numbers) (good : IsValid (setting c)) (i : ℕ) (l : i < c.n) (h : Held) (size : IsBlock (setting c) h.value) (un : h.time ≡ 0 → h.value ≡ zeros (setting c)) where
  abbrev s : Setting
  s = setting c

  cases : (h.time ≡ 0) ⊎ ((0 < h.time) × (eqb h.time 0 ≡ false))
  cases =
      let k : (h.time ≡ 0) ⊎ (0 < h.time) = grind arith in
      elim k [ inl e ↦ inl e | inr p ↦ inr (p, grind (arith, nat_tests)) ]

  later_stamp : 0 < h.time → eqb h.time 0 ≡ false → (version_of c i h).stamp.time ≡ h.time
  later_stamp p e = rw e refl

  -- the latest version is the greatest
  pub greatest_is : greatest_in Every (kept_of c i h) ≡ Some (version_of c i h)
  greatest_is = elim cases [
    | inl e ↦ rw (e, un e) refl
    | inr p ↦ (
        let k : kept_of c i h ≡ first_version s i ∷ version_of c i h ∷ [] = rw p.1 refl in
        let t = later_stamp p.0 p.1 in
        rw k (two_greatest (first_version s i) (version_of c i h) (omega (arith, t, p.0))))
  ]

  -- its time is the greatest
  pub time_is : greatest_time (kept_of c i h) ≡ h.time
  time_is = elim cases [ inl e ↦ rw e refl | inr p ↦ rw p.1 (omega arith) ]

  -- and it is a version that the node may keep
  pub whole_is : is_whole s i (version_of c i h) ≡ true
  whole_is =
      let a : eqb (length (s.sum_of h.value)) s.n ≡ true = eq-eqb _ _ (good.length-sum h.value size) in
      let b : eqb (length (s.fragment_of h.value i)) s.share ≡ true = eq-eqb _ _ (good.length-fragment h.value i size l) in
      let d : same (s.digest (s.fragment_of h.value i)) (digest_at s (s.sum_of h.value) i) ≡ true = rw (good.digests h.value i size l) (same-refl (s.digest (s.fragment_of h.value i))) in
      elim cases [
        | inl e ↦ (
            let v : same (stamp_of c h).verifier (verifier_of s h.value) ≡ true = rw (e, un e) (same-refl (verifier_of s (zeros s))) in
            let f : same_stamp (stamp_of c h) (first_stamp s) ≡ true = rw e (same_stamp-refl (first_stamp s)) in
            rw (a, b, v, d, f) (at (ltb 0 (stamp_of c h).time)))
        | inr p ↦ (
            let v : same (stamp_of c h).verifier (verifier_of s h.value) ≡ true = rw p.1 (same-refl (verifier_of s h.value)) in
            let f : ltb 0 (stamp_of c h).time ≡ true = rw p.1 (grind (arith, nat_tests)) in
            rw (a, b, v, d, f) refl)
      ]
    where
      at : (p : Bool) → p || true ≡ true
      at true = refl
      at false = refl

  -- a prune by its stamp changes nothing
  pub prune_same : pruned s (stamp_of c h) (kept_of c i h) ≡ kept_of c i h
  prune_same = elim cases [
    | inl e ↦ rw (e, same_stamp-refl (first_stamp s)) refl
    | inr p ↦ (
        let k : kept_of c i h ≡ first_version s i ∷ version_of c i h ∷ [] = rw p.1 refl in
        let t = later_stamp p.0 p.1 in
        rw k (two_stay s (first_version s i) refl (version_of c i h) (omega (arith, t, p.0))))
  ]

  module _ (value : List ℕ) (is_block : IsBlock s value) where
    abbrev next : Version
    next = record { stamp = record { time = h.time + 1; client = the_client; verifier = verifier_of s value }; sum = s.sum_of value; fragment = s.fragment_of value i }

    -- the next write is taken
    pub not_refused : refusal s i next ≡ None
    not_refused =
        let a : eqb (length (s.sum_of value)) s.n ≡ true = eq-eqb _ _ (good.length-sum value is_block) in
        let b : eqb (length (s.fragment_of value i)) s.share ≡ true = eq-eqb _ _ (good.length-fragment value i is_block l) in
        let d : same (s.digest (s.fragment_of value i)) (digest_at s (s.sum_of value) i) ≡ true = rw (good.digests value i is_block l) (same-refl (s.digest (s.fragment_of value i))) in
        let t : eqb (h.time + 1) 0 ≡ false = grind (arith, nat_tests) in
        rw (a, b, t, same-refl (verifier_of s value), d) refl

    not_kept : keeps (kept_of c i h) next.stamp ≡ false
    not_kept = elim (cases_Bool (keeps (kept_of c i h) next.stamp)) [ inl e ↦ absurd (let m = time_at_least (kept_of c i h) next.stamp e in omega (arith, m, time_is)) | inr e ↦ e ]

    pub is_added : added_in s i (kept_of c i h) (Write next) ≡ Some next
    is_added = rw (not_refused, not_kept) refl

    next_is : version_of c i (rewritten h value) ≡ next
    next_is = let t : eqb (h.time + 1) 0 ≡ false = grind (arith, nat_tests) in rw t refl

    next_kept : kept_of c i (rewritten h value) ≡ first_version s i ∷ next ∷ []
    next_kept = let t : eqb (h.time + 1) 0 ≡ false = grind (arith, nat_tests) in rw t refl

    -- and a prune by its stamp leaves it and the first version
    pub prune_next : pruned s next.stamp (kept_of c i h ++ next ∷ []) ≡ kept_of c i (rewritten h value)
    prune_next = elim cases [
      | inl e ↦ (
          let k : kept_of c i h ++ next ∷ [] ≡ first_version s i ∷ next ∷ [] = rw e refl in
          rw (k, next_kept) (two_stay s (first_version s i) refl next (omega arith)))
      | inr p ↦ (
          let k : kept_of c i h ++ next ∷ [] ≡ first_version s i ∷ version_of c i h ∷ next ∷ [] = rw p.1 refl in
          let t = later_stamp p.0 p.1 in
          rw (k, next_kept) (one_goes s (first_version s i) refl (version_of c i h) next (omega (arith, t, p.0)) (omega (arith, t))))
    ]
