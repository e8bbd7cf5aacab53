-- The stamps that a block had so far, and their values: under NoClash a stamp is for one value.
use Rattle.std.proofs.Common.{◌≡◌, ◌⊎◌, ℕ, zero, suc, ◌+◌, ◌<◌, ◌≤◌, Bool, true, false, ◌&&◌, ◌||◌, ltb, List, length, Option, refl, sym, ◌∙◌, ap, inl, inr, arith}
use Rattle.std.specs.declared.option.Option.TheVariants.{Some}
use Rattle.std.specs.List.{Contains}
use Rattle.std.proofs.lemmas.Bool.{eq-eqb}
use Rattle.std.proofs.lemmas.Bool.Decides.{nat_tests}
use Rattle.stamp_order.specs.declared.Stamp.{Stamp}
use Rattle.stamp_order.specs.Stamps.{same_stamp}
use Rattle.protocol.specs.Count.{count, collect}
use Rattle.protocol.specs.Messages.{flat, Version}
use Rattle.protocol.specs.Setting.{Setting, IsValid, IsBlock, IsAscending, Sound, zeros, first_stamp, digest_at, same}
use Rattle.protocol.specs.Nodes.{keeps}
use Rattle.protocol.specs.Operations.{is_whole}
use Rattle.protocol.proofs.lemmas.Forming.{sum_formed, flat_inj}
use Rattle.protocol.proofs.lemmas.Lists.{Contains-collect}
use Rattle.protocol.proofs.lemmas.Order.{same_stamp-refl}
use Rattle.protocol.proofs.lemmas.Parts.{ascending_collect, length_collect}
use Rattle.protocol.proofs.lemmas.Rounds.{same-refl}
use Rattle.block_phases.specs.Phases.{Keeps}
use Rattle.block_phases.specs.Executions.{StampedValue}
use Rattle.block_turns.specs.Lives.{version_of}

-- the stamp that each block has at first, and its value
abbrev pub first_of : Setting → StampedValue
first_of s = record { stamp = first_stamp s; value = zeros s }

module _ (s : Setting) (Seen : List ℕ → Type 0) where
  -- its value is a block's, which the stamp is for, and whose strings were seen
  pub record IsKnown (x : StampedValue) : Type 0 where
    pub block : IsBlock s x.value
    pub sound : Sound s x.stamp x.value
    pub time : (0 < x.stamp.time) ⊎ (x.stamp ≡ first_stamp s)
    pub sum : Seen (flat (s.sum_of x.value))
    pub fragments : (i : ℕ) → i < s.n → Seen (s.fragment_of x.value i)

  -- no two different strings that were seen share a digest
  abbrev pub AreApart : Type 0
  AreApart = (x y : List ℕ) → Seen x → Seen y → s.digest x ≡ s.digest y → x ≡ y

module _ (s : Setting) (Seen : List ℕ → Type 0) (Ever : ℕ → Type 0) where
  -- What is known of a block, and what each node keeps of it, where the greatest stamp of operations that ended is this one, and these
  -- nodes are away and these lie: the other ones keep nothing but versions of stamps that are known, among them the first, and enough
  -- lie, are away or keep the greatest that ended.
  pub record IsState (known : List StampedValue) (top : StampedValue) (away lies : ℕ → Bool) (limit : ℕ) (kept : Keeps) : Type 0 where
    pub of_known : (x : StampedValue) → Contains known x → IsKnown s Seen x
    pub first_known : Contains known (first_of s)
    pub top_known : Contains known top
    pub low : (x : StampedValue) → Contains known x → x.stamp.time ≤ limit
    pub few : count s.n lies ≤ s.b
    pub ever : (i : ℕ) → lies i ≡ true → Ever i
    pub grounded : (i : ℕ) (v : Version) → i < s.n → lies i ≡ false → away i ≡ false → Contains (kept i) v
        → (x : StampedValue) × Contains known x × (v ≡ version_of s x i)
    pub first : (i : ℕ) → i < s.n → lies i ≡ false → away i ≡ false → keeps (kept i) (first_stamp s) ≡ true
    pub complete : s.qc + s.b ≤ count s.n (λ i. lies i || (away i || keeps (kept i) top.stamp))
    pub lying : (i : ℕ) (v : Version) → i < s.n → Ever i → Contains (kept i) v → is_whole s i v ≡ true
        → Seen (flat v.sum) × Seen v.fragment

module _ (s : Setting) (good : IsValid s) (Seen : List ℕ → Type 0) where
  -- its versions are whole
  module _ (x : StampedValue) (known : IsKnown s Seen x) where
    late : ltb 0 x.stamp.time || same_stamp x.stamp (first_stamp s) ≡ true
    late = elim known.time [
      | inl l ↦ (let e : ltb 0 x.stamp.time ≡ true = grind (arith, nat_tests) in rw e refl)
      | inr e ↦ right (ltb 0 x.stamp.time) (ap (λ (t : Stamp). same_stamp t (first_stamp s)) e ∙ same_stamp-refl (first_stamp s))
    ]
      where
        right : (a : Bool) {c : Bool} → c ≡ true → a || c ≡ true
        right true e = refl
        right false e = e

    pub whole_of : (i : ℕ) → i < s.n → is_whole s i (version_of s x i) ≡ true
    whole_of i l =
        all_five _ _ _ _ _
        (eq-eqb (length (s.sum_of x.value)) s.n (good.length-sum x.value known.block))
        (eq-eqb (length (s.fragment_of x.value i)) s.share (good.length-fragment x.value i known.block l))
        (ap (λ (y : List ℕ). same y (s.digest (flat (s.sum_of x.value)))) known.sound ∙ same-refl (s.digest (flat (s.sum_of x.value))))
        (ap (λ (y : List ℕ). same (s.digest (s.fragment_of x.value i)) y) (good.digests x.value i known.block l) ∙ same-refl (s.digest (s.fragment_of x.value i)))
        late
      where
        all_five : (a b c d e : Bool) → a ≡ true → b ≡ true → c ≡ true → d ≡ true → e ≡ true → a && b && c && d && e ≡ true
        all_five a b c d e p q x y z = rw (p, q, x, y, z) refl

  -- one stamp is for one value
  module _ (apart : AreApart s Seen) (x y : StampedValue) (p : IsKnown s Seen x) (q : IsKnown s Seen y)
      (same_stamps : x.stamp ≡ y.stamp) where
    abbrev part : List ℕ → ℕ → Option (ℕ × List ℕ)
    part value i = Some (i, s.fragment_of value i)

    abbrev parts : List ℕ → List (ℕ × List ℕ)
    parts value = collect s.m (part value)

    sums : s.sum_of x.value ≡ s.sum_of y.value
    sums =
        flat_inj (s.sum_of x.value) (s.sum_of y.value) (sum_formed s good x.value p.block) (sum_formed s good y.value q.block)
        (good.length-sum x.value p.block ∙ sym (good.length-sum y.value q.block))
        (apart (flat (s.sum_of x.value)) (flat (s.sum_of y.value)) p.sum q.sum (sym p.sound ∙ ap (λ (t : Stamp). t.verifier) same_stamps ∙ q.sound))

    same_at : (i : ℕ) → i < s.n → s.fragment_of x.value i ≡ s.fragment_of y.value i
    same_at i l =
        apart _ _ (p.fragments i l) (q.fragments i l)
        (sym (good.digests x.value i p.block l) ∙ ap (λ (z : List (List ℕ)). digest_at s z i) sums ∙ good.digests y.value i q.block l)

    all_pass : (n : ℕ) → count n (λ i. true) ≡ n
    all_pass zero = refl
    all_pass (suc n) = omega (arith, all_pass n)

    long : length (parts x.value) ≡ s.m
    long = length_collect s.m (part x.value) (λ i. true) (λ i. inl (refl, (i, s.fragment_of x.value i), refl)) ∙ all_pass s.m

    ascend : IsAscending (parts x.value)
    ascend = ascending_collect s.m (part x.value) (λ i z e. sym (ap (λ (w : ℕ × List ℕ). w.0) (let g : ◌≡◌ {A = ℕ × List ℕ} (i, s.fragment_of x.value i) z = cc in g)))

    own : (z : ℕ × List ℕ) → Contains (parts x.value) z → (z.0 < s.n) × (z.1 ≡ s.fragment_of x.value z.0)
    own z h =
        let r = Contains-collect s.m (part x.value) z h in
        let g : ◌≡◌ {A = ℕ × List ℕ} (r.0, s.fragment_of x.value r.0) z = (let k = r.2 in cc) in
        let e : r.0 ≡ z.0 = ap (λ (w : ℕ × List ℕ). w.0) g in
        (omega (arith, e, r.1, good.shares_few, good.quorum_high), sym (ap (λ (w : ℕ × List ℕ). w.1) g) ∙ ap (s.fragment_of x.value) e)

    pub one_value : x.value ≡ y.value
    one_value =
        sym (good.decodes x.value (parts x.value) p.block long ascend own)
        ∙ good.decodes y.value (parts x.value) q.block long ascend (λ z h. (let r = own z h in (r.0, r.1 ∙ same_at z.0 r.0)))
