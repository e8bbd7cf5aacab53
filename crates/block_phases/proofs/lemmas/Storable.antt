-- No node refuses what an operation stores: what is written, and what a read gives that repairs it.
use Rattle.std.proofs.Common.{◌≡◌, ℕ, ◌-◌, ◌<◌, ◌≤◌, Bool, true, false, cond, not, ◌||◌, eqb, List, [], ◌∷◌, length, map, Option, refl, sym, ◌∙◌, ap, inl, inr, arith}
use Rattle.std.specs.declared.option.Option.TheVariants.{None, Some}
use Rattle.std.specs.List.{Contains}
use Rattle.std.proofs.lemmas.Bool.{eq-eqb}
use Rattle.std.proofs.lemmas.Bool.Decides.{nat_tests}
use Rattle.std.proofs.lemmas.List.{length-map}
use Rattle.lists.proofs.lemmas.Members.{Contains-head, Contains-map_cases}
use Rattle.stamp_order.specs.declared.Stamp.{Stamp}
use Rattle.stamp_order.specs.declared.Bound.{Bound}
use Rattle.stamp_order.specs.Stamps.{up_to, same_stamp}
use Rattle.wire_forms.specs.declared.Reply.TheVariants.{Found}
use Rattle.wire_forms.specs.declared.Reason.TheVariants.{BadLength, TimeZero, BadVerifier, BadDigest}
use Rattle.protocol.specs.Messages.{flat, IsFormed, Version, Reply}
use Rattle.protocol.specs.Nodes.{refusal}
use Rattle.protocol.specs.Setting.{Setting, IsValid, IsBlock, IsFragment, Sound, first_stamp, same, same_digests}
use Rattle.protocol.specs.Operations.{valid, pivot, support, carriers, chosen, candidate, carries, only_if, numbered, sum_of_first, part_of, stamps, stamp_of, is_whole}
use Rattle.protocol.proofs.lemmas.Counting.{both_true}
use Rattle.protocol.proofs.lemmas.Highest.{highest_is}
use Rattle.protocol.proofs.lemmas.Lists.{Contains-take, Contains-collect}
use Rattle.protocol.proofs.lemmas.Order.{same_stamp-≡, same_stamp-refl, stamps_order}
use Rattle.protocol.proofs.lemmas.Parts.{length_chosen, ascending_chosen}
use Rattle.protocol.proofs.lemmas.Rounds.{same-refl, same_digests-≡, whole_facts, valid_was}

-- no test refuses
none_refuses : (a d e f g : Bool) → a ≡ true → d ≡ true → e ≡ false → f ≡ true → g ≡ true
    → cond (not a || not d) (Some BadLength) (cond e (Some TimeZero) (cond (not f) (Some BadVerifier) (cond (not g) (Some BadDigest) None))) ≡ None
none_refuses true true false true true p q r t u = refl
none_refuses false d e f g p q r t u = absurd cc
none_refuses true false e f g p q r t u = absurd cc
none_refuses true true true f g p q r t u = absurd cc
none_refuses true true false false g p q r t u = absurd cc
none_refuses true true false true false p q r t u = absurd cc

module _ (s : Setting) (good : IsValid s) where
  -- the version of a block, under a stamp of its own that isn't the first
  pub none_refused : (stamp : Stamp) (value : List ℕ) → IsBlock s value → Sound s stamp value → 0 < stamp.time → (i : ℕ) → i < s.n
      → refusal s i (record { stamp = stamp; sum = s.sum_of value; fragment = s.fragment_of value i }) ≡ None
  none_refused stamp value block sound later i below =
      none_refuses _ _ _ _ _
      (eq-eqb (length (s.sum_of value)) s.n (good.length-sum value block))
      (eq-eqb (length (s.fragment_of value i)) s.share (good.length-fragment value i block below))
      (let e : eqb stamp.time 0 ≡ false = grind (arith, nat_tests) in e)
      (ap (λ (x : List ℕ). same x (s.digest (flat (s.sum_of value)))) sound ∙ same-refl (s.digest (flat (s.sum_of value))))
      (ap (λ (x : List ℕ). same (s.digest (s.fragment_of value i)) x) (good.digests value i block below) ∙ same-refl (s.digest (s.fragment_of value i)))

  module _ (answers : ℕ → Option Reply) (formed : (i : ℕ) (v : Version) → answers i ≡ Some (Found v) → IsFormed v) (bound : Bound) where
    -- a node gave the pivot validly
    pub pivot_given : (p : Stamp) → pivot s answers bound ≡ Some p
        → (i : ℕ) × (v : Version) × (i < s.n) × (valid s i bound (answers i) ≡ Some v) × (v.stamp ≡ p)
    pivot_given p is =
        let g = highest_is up_to stamps_order s.n (s.qc - s.t) (stamps s answers bound) p is in
        let v = stamped (valid s g.0 bound (answers g.0)) g.2 in
        (g.0, v.0, g.1, v.1, v.2)
      where
        stamped : (o : Option Version) → stamp_of o ≡ Some p → (v : Version) × (o ≡ Some v) × (v.stamp ≡ p)
        stamped None e = absurd cc
        stamped (Some v) e = (v, refl, cc)

    pivot_time : (p : Stamp) → pivot s answers bound ≡ Some p → same_stamp p (first_stamp s) ≡ false → 0 < p.time
    pivot_time p is other =
        let g = pivot_given p is in
        let u = valid_was s g.0 bound (answers g.0) g.1 g.3 in
        elim (whole_facts s g.0 g.1 (both_true _ _ u.1).1).time [
          | inl l ↦ rw (← g.4) l
          | inr e ↦ absurd (
              let f : p ≡ first_stamp s = sym g.4 ∙ e in
              let t : same_stamp p (first_stamp s) ≡ true = rw f (same_stamp-refl (first_stamp s)) in
              cc)
        ]

    carrier_is : (p : Stamp) (i : ℕ) (o : Option Version) (q : ℕ × Version) → only_if (carries p o) (numbered i o) ≡ Some q
        → (q.0 ≡ i) × (o ≡ Some q.1) × (q.1.stamp ≡ p)
    carrier_is p i None q e = absurd cc
    carrier_is p i (Some v) q e = at (same_stamp v.stamp p) refl e
      where
        at : (b : Bool) → same_stamp v.stamp p ≡ b → cond b (Some (i, v)) None ≡ Some q
            → (q.0 ≡ i) × (Some v ≡ Some q.1) × (q.1.stamp ≡ p)
        at true h f =
            let g : (i, v) ≡ q = cc in (
              sym (ap (λ (x : ℕ × Version). x.0) g),
              ap (λ (x : ℕ × Version). Some x.1) g,
              (let k : v ≡ q.1 = ap (λ (x : ℕ × Version). x.1) g in rw (← k) (same_stamp-≡ v.stamp p h)),
            )
        at false h f = absurd cc

    -- each chosen answer was given validly, and carries the stamp
    pub chosen_is : (p : Stamp) (q : ℕ × Version) → Contains (chosen s answers bound p) q
        → (q.0 < s.n) × (answers q.0 ≡ Some (Found q.1)) × (is_whole s q.0 q.1 ≡ true) × (q.1.stamp ≡ p)
    chosen_is p q h =
        let k = Contains-take s.m (carriers s answers bound p) q h in
        let r = Contains-collect s.n (λ i. only_if (carries p (valid s i bound (answers i))) (numbered i (valid s i bound (answers i)))) q k in
        let t = carrier_is p r.0 (valid s r.0 bound (answers r.0)) q r.2 in
        let u = valid_was s r.0 bound (answers r.0) q.1 t.1 in
        (rw t.0 r.1, rw t.0 u.0, rw t.0 (both_true _ _ u.1).1, t.2)

    part_fits : (p : Stamp) (q : ℕ × List ℕ) → Contains (map part_of (chosen s answers bound p)) q → (q.0 < s.n) × IsFragment s q.1
    part_fits p q h =
        let k = Contains-map_cases part_of (chosen s answers bound p) q h in
        let r = chosen_is p k.0 k.1 in
        let e : q.0 ≡ k.0.0 = ap (λ (x : ℕ × List ℕ). x.0) k.2 in
        let g : q.1 ≡ k.0.1.fragment = ap (λ (x : ℕ × List ℕ). x.1) k.2 in (
          rw e r.0,
          (
            ap (λ (x : List ℕ). length x) g ∙ (whole_facts s k.0.0 k.0.1 r.2).fragment_length,
            (let f = (formed k.0.0 k.0.1 r.1).1 in rw g f),
          ),
        )

    candidate_block : (p : Stamp) → s.qc - s.t ≤ support s answers bound p → IsBlock s (candidate s answers bound p)
    candidate_block p enough =
        good.decoded-block (map part_of (chosen s answers bound p))
        (length-map (chosen s answers bound p) part_of ∙ length_chosen s good answers bound p enough)
        (ascending_chosen s good answers bound p) (part_fits p)

    candidate_sound : (p : Stamp) → IsBlock s (candidate s answers bound p)
        → same_digests (s.sum_of (candidate s answers bound p)) (sum_of_first (chosen s answers bound p)) ≡ true
        → Sound s p (candidate s answers bound p)
    candidate_sound p block h = at (chosen s answers bound p) refl (same_digests-≡ _ _ h)
      where
        long : length (s.sum_of (candidate s answers bound p)) ≡ s.n
        long = good.length-sum (candidate s answers bound p) block

        at : (xs : List (ℕ × Version)) → chosen s answers bound p ≡ xs → s.sum_of (candidate s answers bound p) ≡ sum_of_first (chosen s answers bound p)
            → Sound s p (candidate s answers bound p)
        at [] e f = absurd (
            let g : s.sum_of (candidate s answers bound p) ≡ [] = f ∙ ap sum_of_first e in
            let l : length (s.sum_of (candidate s answers bound p)) ≡ 0 = ap length g in
            omega (arith, long, l, good.quorum_low, good.quorum_high))
        at (q ∷ qs) e f =
            let r = chosen_is p q (rw e (Contains-head q qs)) in
            let v : q.1.stamp.verifier ≡ s.digest (flat q.1.sum) = (whole_facts s q.0 q.1 r.2).verifier in
            let g : s.sum_of (candidate s answers bound p) ≡ q.1.sum = f ∙ ap sum_of_first e in
            sym (ap (λ (x : Stamp). x.verifier) r.3) ∙ v ∙ ap (λ (x : List (List ℕ)). s.digest (flat x)) (sym g)

    -- what a read stores that repairs
    pub candidate_taken : (p : Stamp) → pivot s answers bound ≡ Some p → same_stamp p (first_stamp s) ≡ false
        → s.qc - s.t ≤ support s answers bound p
        → same_digests (s.sum_of (candidate s answers bound p)) (sum_of_first (chosen s answers bound p)) ≡ true
        → (i : ℕ) → i < s.n
        → refusal s i (record { stamp = p; sum = s.sum_of (candidate s answers bound p); fragment = s.fragment_of (candidate s answers bound p) i }) ≡ None
    candidate_taken p is other enough match =
        let block = candidate_block p enough in
        none_refused p (candidate s answers bound p) block (candidate_sound p block match) (pivot_time p is other)
