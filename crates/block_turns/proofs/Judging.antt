-- How a phase of a read ends, by what nodes keep: it steps back no further than to the greatest stamp of operations that ended, and what it
-- gives or stores is a known stamp's value.
use Rattle.std.proofs.Common.{◌≡◌, ℕ, zero, suc, ◌+◌, ◌-◌, ◌<◌, ◌≤◌, Bool, true, false, cond, not, ◌&&◌, ◌||◌, leb, ltb, List, [], ◌∷◌, length, map, Option, refl, sym, ◌∙◌, ap, subst, inl, inr, arith}
use Rattle.std.specs.declared.option.Option.TheVariants.{None, Some}
use Rattle.std.specs.List.{Contains}
use Rattle.std.proofs.lemmas.Bool.{cases_Bool}
use Rattle.std.proofs.lemmas.Bool.Decides.{nat_tests}
use Rattle.std.proofs.lemmas.List.{length-map}
use Rattle.lists.proofs.lemmas.Members.{Contains-head, Contains-map_cases}
use Rattle.stamp_order.specs.declared.Stamp.{Stamp}
use Rattle.stamp_order.specs.declared.Bound.{Bound}
use Rattle.stamp_order.specs.Stamps.{has, up_to, same_stamp, ◌≼◌}
use Rattle.run_words.specs.declared.outcome.Outcome.TheVariants.{Wrote, Spent, Gave, Outvoted}
use Rattle.wire_forms.specs.declared.Reply.TheVariants.{Found, Nothing}
use Rattle.protocol.specs.Count.{count}
use Rattle.protocol.specs.Reach.{reaches}
use Rattle.protocol.specs.Messages.{flat, Version, Reply, IsFormed, IsFormedReply}
use Rattle.protocol.specs.Nodes.{greatest_in, found, keeps}
use Rattle.protocol.specs.Setting.{Setting, IsValid, first_stamp, digest_at, honest, same_digests}
use Rattle.protocol.specs.Operations.{Decision, is_answered, is_whole, is_valid, valid, answered, stamps, stamp_of, pivot, support, chosen, candidate, carries, sum_of_first, part_of, decide_at, decide_pivot}
use Rattle.protocol.specs.Operations.Stage.{Times, Versions, Storing}
use Rattle.protocol.specs.Operations.Decision.{GoesOn, Ends}
use Rattle.protocol.proofs.lemmas.Counting.{count_shared, count_within, count_not, some_passes, both_true}
use Rattle.protocol.proofs.lemmas.Forming.{sum_formed, flat_inj}
use Rattle.protocol.proofs.lemmas.Highest.{highest_above}
use Rattle.protocol.proofs.lemmas.Keeping.{greatest_in_is, greatest_in_above, keeps-Contains}
use Rattle.protocol.proofs.lemmas.Order.{same_stamp-≡, stamps_order}
use Rattle.protocol.proofs.lemmas.Parts.{length_chosen, ascending_chosen}
use Rattle.protocol.proofs.lemmas.Rounds.{same_digests-refl, whole_facts, valid_was, answered_is}
use Rattle.protocol.proofs.lemmas.Tests.{not_true}
use Rattle.block_phases.specs.Phases.{Keeps}
use Rattle.block_phases.specs.Executions.{StampedValue}
use Rattle.block_turns.proofs.KnownValues.{IsKnown, AreApart, IsState, whole_of}
use Rattle.block_phases.proofs.lemmas.Storable.{chosen_is}

-- one of five, by four tests
pick : (G : Decision → Type 0) (a b c d : Bool) (v w x y z : Decision) → (a ≡ true → G v) → (a ≡ false → b ≡ true → G w)
    → (a ≡ false → b ≡ false → c ≡ true → G x) → (a ≡ false → b ≡ false → c ≡ false → d ≡ true → G y)
    → (a ≡ false → b ≡ false → c ≡ false → d ≡ false → G z)
    → G (cond a v (cond b w (cond c x (cond d y z))))
pick G true b c d v w x y z p q r t u = p refl
pick G false true c d v w x y z p q r t u = q refl refl
pick G false false true d v w x y z p q r t u = r refl refl refl
pick G false false false true v w x y z p q r t u = t refl refl refl refl
pick G false false false false v w x y z p q r t u = u refl refl refl refl

below_false : (x y : ℕ) → ltb x y ≡ false → y ≤ x
below_false x y e = grind (arith, nat_tests)

up_true : (x y : ℕ) → leb x y ≡ true → x ≤ y
up_true x y e = grind (arith, nat_tests)

both : (a c : Bool) → a ≡ true → c ≡ true → a && c ≡ true
both a c p q = rw (p, q) refl

-- those that pass one test or the other
bits_or : (a c : Bool) → cond {A = ℕ} (a || c) 1 0 ≤ cond a 1 0 + cond (not a && c) 1 0
bits_or true c = omega arith
bits_or false true = omega arith
bits_or false false = omega arith

pub count_or : (n : ℕ) (p q : ℕ → Bool) → count n (λ i. p i || q i) ≤ count n p + count n (λ i. not (p i) && q i)
count_or zero p q = omega arith
count_or (suc n) p q = omega (arith, count_or n p q, bits_or (p n) (q n))

-- all pass
pub count_all : (n : ℕ) (p : ℕ → Bool) → ((i : ℕ) → i < n → p i ≡ true) → count n p ≡ n
count_all zero p h = refl
count_all (suc n) p h =
    let e : cond {A = ℕ} (p n) 1 0 ≡ 1 = rw (h n (omega arith)) refl in
    omega (arith, count_all n p (λ i l. h i (omega arith)), e)

-- a node that is there keeps what it keeps where it isn't away
pub kept_there : (a c : Bool) → a ≡ false → a || c ≡ true → c ≡ true
kept_there true c e h = absurd cc
kept_there false c e h = h

pub or_kept : (a c : Bool) → c ≡ true → a || c ≡ true
or_kept true c e = refl
or_kept false c e = e

pub away_or : (a c : Bool) → (a ≡ false → c ≡ true) → a || c ≡ true
away_or true c h = refl
away_or false c h = h refl

module _ (s : Setting) (good : IsValid s) (Seen : List ℕ → Type 0) (Ever : ℕ → Type 0) (apart : AreApart s Seen) (known : List StampedValue) (top : StampedValue)
    (away lies : ℕ → Bool) (limit : ℕ) (old : Keeps) (state : IsState s Seen Ever known top away lies limit old) where
  -- how many nodes lie, are away or keep a stamp
  abbrev pub keepers : Keeps → Stamp → ℕ
  keepers kept p = count s.n (λ i. lies i || (away i || keeps (kept i) p))

  -- all but b don't lie
  pub upright_many : s.n ≤ count s.n (λ i. not (lies i)) + s.b
  upright_many = omega (arith, count_not s.n lies, state.few)

  -- enough that don't lie are away or keep the greatest that ended
  pub members_many : s.qc ≤ count s.n (λ i. not (lies i) && (away i || keeps (old i) top.stamp))
  members_many = omega (arith, count_or s.n lies (λ i. away i || keeps (old i) top.stamp), state.complete, state.few)

  -- what a phase that asked for versions may come to
  abbrev pub IsJudged : Decision → Type 0
  IsJudged (GoesOn Times) = ⊥
  IsJudged (GoesOn (Versions bound)) = has bound top.stamp ≡ true
  IsJudged (GoesOn (Storing p value)) = (top.stamp ≼ p) × Contains known (record { stamp = p; value = value })
  IsJudged (Ends (Gave p value how rounds)) =
      (top.stamp ≼ p) × Contains known (record { stamp = p; value = value }) × (s.qc + s.b ≤ keepers old p)
  IsJudged (Ends (Outvoted nodes)) = ⊥
  IsJudged (Ends Spent) = ⊥
  IsJudged (Ends (Wrote p)) = ⊥

  module _ (answers : ℕ → Option Reply) (bound : Bound)
      (heard : (i : ℕ) (r : Reply) → answers i ≡ Some r
      → (i < s.n) × (away i ≡ false) × IsFormedReply r × (r ≡ found (greatest_in bound (old i))))
      (enough : s.n ≤ answered s answers + s.t) (wide : has bound top.stamp ≡ true) (rounds : ℕ) where
    formed : (i : ℕ) (v : Version) → answers i ≡ Some (Found v) → IsFormed v
    formed i v e = (heard i (Found v) e).2

    -- the node keeps what it found
    found_kept : (i : ℕ) (v : Version) → answers i ≡ Some (Found v) → Contains (old i) v × (has bound v.stamp ≡ true)
    found_kept i v e = at (greatest_in bound (old i)) refl
      where
        same : (o : Option Version) → greatest_in bound (old i) ≡ o → Found v ≡ found o
        same o f = (heard i (Found v) e).3 ∙ ap found f

        at : (o : Option Version) → greatest_in bound (old i) ≡ o → Contains (old i) v × (has bound v.stamp ≡ true)
        at None f = absurd (let q : Found v ≡ Nothing = same None f in cc)
        at (Some u) f = greatest_in_is bound (old i) v (let q : Found v ≡ Found u = same (Some u) f in let w : v ≡ u = cc in f ∙ ap Some (sym w))

    -- what an honest node keeps is whole
    whole_kept : (i : ℕ) (v : Version) → i < s.n → lies i ≡ false → away i ≡ false → Contains (old i) v → is_whole s i v ≡ true
    whole_kept i v l honest there k =
        let g = state.grounded i v l honest there k in
        subst (λ (u : Version). is_whole s i u ≡ true) (sym g.2) (whole_of s good Seen g.0 (state.of_known g.0 g.1) i l)

    -- its strings were seen, whoever keeps it
    strings : (i : ℕ) (v : Version) → i < s.n → away i ≡ false → Contains (old i) v → is_whole s i v ≡ true → Seen (flat v.sum) × Seen v.fragment
    strings i v l there k whole = elim (cases_Bool (lies i)) [
      | inl lying ↦ state.lying i v l (state.ever i lying) k whole
      | inr honest ↦ (
          let g = state.grounded i v l honest there k in
          let is = state.of_known g.0 g.1 in
          (subst (λ (u : Version). Seen (flat u.sum)) (sym g.2) is.sum, subst (λ (u : Version). Seen u.fragment) (sym g.2) (is.fragments i l)))
    ]

    -- ---- the pivot isn't below what ended

    valid_is : (i : ℕ) (o : Option Reply) (v : Version) → o ≡ Some (Found v) → is_valid s i bound v ≡ true → valid s i bound o ≡ Some v
    valid_is i o v e h = rw (e, h) refl

    reached : (o : Option Version) (v : Version) → o ≡ Some v → top.stamp ≼ v.stamp → reaches up_to top.stamp (stamp_of o) ≡ true
    reached o v e h = rw e h

    some_pivot : (q : Stamp) × (pivot s answers bound ≡ Some q) × (top.stamp ≼ q)
    some_pivot =
        highest_above up_to stamps_order s.n (s.qc - s.t) (stamps s answers bound) top.stamp
        (λ i. not (lies i) && (away i || keeps (old i) top.stamp)) (λ i. is_answered (answers i)) (omega (arith, good.quorum_low))
        (omega (arith, members_many, enough, good.quorum_low)) each
      where
        each : (i : ℕ) → i < s.n → not (lies i) && (away i || keeps (old i) top.stamp) ≡ true → is_answered (answers i) ≡ true
            → reaches up_to top.stamp (stamps s answers bound i) ≡ true
        each i l m a =
            let c = both_true _ _ m in
            let r = answered_is (answers i) a in
            let there = (heard i r.0 r.1).1 in
            let g = greatest_in_above bound (old i) top.stamp wide (kept_there _ _ there c.1) in
            let f : answers i ≡ Some (Found g.0) = r.1 ∙ ap Some ((heard i r.0 r.1).3 ∙ ap found g.1) in
            let k = greatest_in_is bound (old i) g.0 g.1 in
            let whole = whole_kept i g.0 l (not_true _ c.0) there k.0 in
            let fits : is_valid s i bound g.0 ≡ true = both _ _ k.1 whole in
            reached (valid s i bound (answers i)) g.0 (valid_is i (answers i) g.0 f fits) g.2

    pivot_above : (p : Stamp) → pivot s answers bound ≡ Some p → top.stamp ≼ p
    pivot_above p is =
        let high = some_pivot in
        let e : high.0 ≡ p = (let a = high.1 in cc) in
        subst (λ (q : Stamp). top.stamp ≼ q) e high.2

    -- ---- what enough nodes found is known

    carried : (p : Stamp) (i : ℕ) (o : Option Version) → valid s i bound (answers i) ≡ o → carries p o ≡ true
        → (v : Version) × Contains (old i) v × (v.stamp ≡ p) × (away i ≡ false)
    carried p i None e c = absurd cc
    carried p i (Some v) e c =
        let u = valid_was s i bound (answers i) v e in
        (v, (found_kept i v u.0).0, same_stamp-≡ v.stamp p c, (heard i (Found v) u.0).1)

    -- those that found it keep it
    kept_by : (p : Stamp) → support s answers bound p ≤ keepers old p
    kept_by p =
        count_within s.n (λ i. carries p (valid s i bound (answers i))) (λ i. lies i || (away i || keeps (old i) p)) (λ i l c.
        let v = carried p i (valid s i bound (answers i)) refl c in
        or_kept (lies i) _ (or_kept (away i) _ (subst (λ (t : Stamp). keeps (old i) t ≡ true) v.2 (keeps-Contains (old i) v.0 v.1))))

    module _ (p : Stamp) (some : s.qc - s.t ≤ support s answers bound p) where
      known_as : (i : ℕ) (v : Version) → i < s.n → lies i ≡ false → away i ≡ false → Contains (old i) v → v.stamp ≡ p
          → (x : StampedValue) × Contains known x × (x.stamp ≡ p)
      known_as i v l upright there k e =
          let g = state.grounded i v l upright there k in
          (g.0, g.1, ap (λ (u : Version). u.stamp) (sym g.2) ∙ e)

      known_here : (x : StampedValue) × Contains known x × (x.stamp ≡ p)
      known_here =
          let shared = count_shared s.n (λ i. carries p (valid s i bound (answers i))) (λ i. not (lies i)) in
          let i = some_passes s.n (λ i. carries p (valid s i bound (answers i)) && not (lies i))
          (omega (arith, shared, some, upright_many, good.quorum_low)) in
          let c = both_true _ _ i.2 in
          let v = carried p i.0 (valid s i.0 bound (answers i.0)) refl c.0 in
          known_as i.0 v.0 i.1 (not_true _ c.1) v.3 v.1 v.2

      abbrev x : StampedValue
      x = known_here.0

      is : IsKnown s Seen x
      is = state.of_known x known_here.1

      sum_is : (i : ℕ) (v : Version) → i < s.n → answers i ≡ Some (Found v) → is_whole s i v ≡ true → v.stamp ≡ p → v.sum ≡ s.sum_of x.value
      sum_is i v l e h f =
          let facts = whole_facts s i v h in
          let seen = strings i v l (heard i (Found v) e).1 (found_kept i v e).0 h in
          flat_inj v.sum (s.sum_of x.value) (formed i v e).0 (sum_formed s good x.value is.block) (facts.sum_length ∙ sym (good.length-sum x.value is.block))
          (apart (flat v.sum) (flat (s.sum_of x.value)) seen.0 is.sum
          (sym facts.verifier ∙ ap (λ (t : Stamp). t.verifier) (f ∙ sym known_here.2) ∙ is.sound))

      fragment_is : (i : ℕ) (v : Version) → i < s.n → answers i ≡ Some (Found v) → is_whole s i v ≡ true → v.stamp ≡ p
          → v.fragment ≡ s.fragment_of x.value i
      fragment_is i v l e h f =
          let facts = whole_facts s i v h in
          let seen = strings i v l (heard i (Found v) e).1 (found_kept i v e).0 h in
          apart v.fragment (s.fragment_of x.value i) seen.1 (is.fragments i l)
          (facts.digests ∙ ap (λ (z : List (List ℕ)). digest_at s z i) (sum_is i v l e h f) ∙ good.digests x.value i is.block l)

      part_is : (q : ℕ × List ℕ) → Contains (map part_of (chosen s answers bound p)) q → (q.0 < s.n) × (q.1 ≡ s.fragment_of x.value q.0)
      part_is q h =
          let k = Contains-map_cases part_of (chosen s answers bound p) q h in
          let r = chosen_is s good answers formed bound p k.0 k.1 in
          let e : q.0 ≡ k.0.0 = ap (λ (z : ℕ × List ℕ). z.0) k.2 in
          (rw e r.0, ap (λ (z : ℕ × List ℕ). z.1) k.2 ∙ fragment_is k.0.0 k.0.1 r.0 r.1 r.2 r.3 ∙ ap (s.fragment_of x.value) (sym e))

      long : length (chosen s answers bound p) ≡ s.m
      long = length_chosen s good answers bound p some

      candidate_is : candidate s answers bound p ≡ x.value
      candidate_is =
          good.decodes x.value (map part_of (chosen s answers bound p)) is.block (length-map (chosen s answers bound p) part_of ∙ long)
          (ascending_chosen s good answers bound p) part_is

      candidate_known : Contains known (record { stamp = p; value = candidate s answers bound p })
      candidate_known =
          let same : ◌≡◌ {A = StampedValue} x (record { stamp = p; value = candidate s answers bound p }) =
          (λ j. record { stamp = known_here.2 j; value = sym candidate_is j }) in
          subst (λ (y : StampedValue). Contains known y) same known_here.1

      not_poisonous : same_digests (s.sum_of (candidate s answers bound p)) (sum_of_first (chosen s answers bound p)) ≡ true
      not_poisonous = at (chosen s answers bound p) refl
        where
          at : (xs : List (ℕ × Version)) → chosen s answers bound p ≡ xs
              → same_digests (s.sum_of (candidate s answers bound p)) (sum_of_first (chosen s answers bound p)) ≡ true
          at [] e = absurd (let l : length (chosen s answers bound p) ≡ 0 = ap length e in omega (arith, l, long, good.shares_some))
          at (q ∷ qs) e =
              let r = chosen_is s good answers formed bound p q (rw e (Contains-head q qs)) in
              let f : sum_of_first (chosen s answers bound p) ≡ s.sum_of x.value = ap sum_of_first e ∙ sum_is q.0 q.1 r.0 r.1 r.2 r.3 in
              rw (candidate_is, f) (same_digests-refl (s.sum_of x.value))

    -- ---- so the phase ends

    first_kept : s.qc + s.b ≤ keepers old (first_stamp s)
    first_kept =
        let all = count_all s.n (λ i. lies i || (away i || keeps (old i) (first_stamp s)))
        (λ i l. away_or (lies i) _ (λ upright. away_or (away i) _ (λ there. state.first i l upright there))) in
        omega (arith, all, good.quorum_high)

    judged_at : (p : Stamp) → pivot s answers bound ≡ Some p → IsJudged (decide_at s answers bound rounds p)
    judged_at p is =
        pick IsJudged (same_stamp p (first_stamp s)) (ltb (support s answers bound p) (s.qc - s.t))
        (not (same_digests (s.sum_of (candidate s answers bound p)) (sum_of_first (chosen s answers bound p))))
        (leb (s.qc + s.b) (support s answers bound p)) _ _ _ _ _
        (λ first. (
          subst (λ (q : Stamp). top.stamp ≼ q) (same_stamp-≡ p (first_stamp s) first) (pivot_above p is),
          state.first_known,
          first_kept,
        ))
        (λ first few. pivot_above p is)
        (λ first many poison. absurd (let fine = not_poisonous p (below_false _ _ many) in let bad = not_true _ poison in cc))
        (λ first many fine full. (
          pivot_above p is,
          candidate_known p (below_false _ _ many),
          (let kept = kept_by p in let all = up_true _ _ full in omega (arith, kept, all)),
        ))
        (λ first many fine less. (pivot_above p is, candidate_known p (below_false _ _ many)))

    pub judged : IsJudged (decide_pivot s answers bound rounds (pivot s answers bound))
    judged = at (pivot s answers bound) refl
      where
        at : (o : Option Stamp) → pivot s answers bound ≡ o → IsJudged (decide_pivot s answers bound rounds o)
        at None e = absurd (let f = some_pivot.1 in cc)
        at (Some p) e = judged_at p e
