-- How many pairs a bound leaves out, and how that grows from round to round.
use Rattle.std.proofs.Common.{◌≡◌, ◌⊎◌, ℕ, ◌+◌, ◌*◌, ◌<◌, ◌≤◌, Bool, true, false, not, ◌&&◌, List, refl, sym, ◌∙◌, ap, inl, inr, arith, eqb}
use Rattle.std.specs.declared.option.Option.TheVariants.{None, Some}
use Rattle.std.specs.List.{Contains}
use Rattle.protocol.specs.Count.{one_more}
use Rattle.stamp_order.specs.declared.Stamp.{Stamp}
use Rattle.stamp_order.specs.declared.Bound.{Bound}
use Rattle.stamp_order.specs.Stamps.{has, up_to, before, ◌≼◌}
use Rattle.stamp_order.specs.declared.Bound.TheVariants.{AtMost, Below}
use Rattle.protocol.specs.World.{World, Accepted}
use Rattle.protocol.specs.Bounds.{different, pairs, IsFewAt}
use Rattle.protocol.proofs.lemmas.Counting.{both_true}
use Rattle.protocol.proofs.lemmas.Lists.{one_more_left}
use Rattle.protocol.proofs.lemmas.Order.{≼-refl, ≼-cases, before-≼, not_both}
use Rattle.protocol.proofs.lemmas.Keeping.{has-down}
use Rattle.protocol.proofs.Different.{different_within, different_less, different_more}
use Rattle.lists.proofs.lemmas.Tests.{eqb_self}
use Rattle.std.proofs.lemmas.Bool.{cases_Bool}

-- an accepted version of the block that isn't in the bound
abbrev pub is_out : ℕ → Bound → Accepted → Bool
is_out block bound a = eqb a.block block && not (has bound a.stamp)

abbrev pub left_out : World → ℕ → Bound → ℕ
left_out w block bound = different (is_out block bound) w.accepted

-- one bound leaves out what the other does
abbrev IsTighter : Bound → Bound → Type 0
IsTighter old new = (t : Stamp) → has new t ≡ true → has old t ≡ true

out_more : (b x y : Bool) → (y ≡ true → x ≡ true) → b && not x ≡ true → b && not y ≡ true
out_more true true y h e = absurd (cc)
out_more true false true h e = absurd (cc (h refl))
out_more true false false h e = refl
out_more false x y h e = absurd (cc)

module _ (w : World) (block : ℕ) where
  -- a node accepted the stamp
  abbrev pub WasAccepted : Stamp → Type 0
  WasAccepted stamp = (node : ℕ) × Contains w.accepted (record { node = node; block = block; stamp = stamp })

  out_upto : (old new : Bound) → IsTighter old new → left_out w block old ≤ left_out w block new
  out_upto old new h = different_within (is_out block old) (is_out block new) w.accepted (λ a e. out_more (eqb a.block block) (has old a.stamp) (has new a.stamp) (h a.stamp) e)

  out_less : (old new : Bound) (t : Stamp) → IsTighter old new → WasAccepted t → has old t ≡ true → has new t ≡ false → left_out w block old < left_out w block new
  out_less old new t h k a b =
      different_less (is_out block old) (is_out block new) w.accepted (record { node = k.0; block = block; stamp = t }) (λ x e. out_more (eqb x.block block) (has old x.stamp) (has new x.stamp) (h x.stamp) e) k.1
      (rw (eqb_self block, a) refl) (rw (eqb_self block, b) refl)

  out_pairs : (bound : Bound) → left_out w block bound ≤ pairs w block
  out_pairs bound = different_within (is_out block bound) (λ a. eqb a.block block) w.accepted (λ a e. (both_true _ _ e).0)

  out_fewer : (bound : Bound) (t : Stamp) → WasAccepted t → has bound t ≡ true → left_out w block bound < pairs w block
  out_fewer bound t k a =
      different_less (is_out block bound) (λ a. eqb a.block block) w.accepted (record { node = k.0; block = block; stamp = t }) (λ x e. (both_true _ _ e).0) k.1 (rw (eqb_self block, a) refl) (eqb_self block)

  at_most_tighter : (bound : Bound) (p : Stamp) → has bound p ≡ true → IsTighter bound (AtMost p)
  at_most_tighter bound p h t k = has-down bound p t k h

  below_tighter : (bound : Bound) (p : Stamp) → has bound p ≡ true → IsTighter bound (Below p)
  below_tighter bound p h t k = has-down bound p t (before-≼ t p k) h

  -- the rounds of a read whose bound is this
  abbrev pub IsRounds : Bound → ℕ → Type 0
  IsRounds bound rounds =
      (rounds ≤ 2 * left_out w block bound + 1) ⊎ ((p : Stamp) × (bound ≡ AtMost p) × WasAccepted p × (rounds ≤ 2 * left_out w block bound + 2))

  not_up : (p t : Stamp) → before p t ≡ true → up_to t p ≡ false
  not_up p t h = elim (cases_Bool (up_to t p)) [ inl k ↦ absurd (not_both p t h k) | inr k ↦ k ]

  not_down : (p t : Stamp) → p ≼ t → before t p ≡ false
  not_down p t h = elim (cases_Bool (before t p)) [ inl k ↦ absurd (not_both t p k h) | inr k ↦ k ]

  -- the next round after a pivot p that an honest node reached with t
  pub rounds_below : (bound : Bound) (rounds : ℕ) (p t : Stamp) → IsRounds bound rounds → has bound p ≡ true → WasAccepted t → has bound t ≡ true → p ≼ t → IsRounds (Below p) (rounds + 1)
  rounds_below bound rounds p t (inl h) a k b l =
      inl (omega (arith, h, out_less bound (Below p) t (below_tighter bound p a) k b (not_down p t l)))
  rounds_below bound rounds p t (inr h) a k b l =
      let q : p ≼ h.0 = (let x : has (AtMost h.0) p ≡ true = rw h.1 at a in x) in
      let y : has bound h.0 ≡ true = rw h.1 (≼-refl h.0) in
      inl (omega (arith, h.3, out_less bound (Below p) h.0 (below_tighter bound p a) h.2 y (not_down p h.0 q)))

  pub rounds_at_most : (bound : Bound) (rounds : ℕ) (p t : Stamp) → IsRounds bound rounds → has bound p ≡ true → WasAccepted t → has bound t ≡ true → p ≼ t → (bound ≡ AtMost p → ⊥) → IsRounds (AtMost p) (rounds + 1)
  rounds_at_most bound rounds p t (inl h) a k b l new =
      elim (≼-cases p t l) [
        | inl m ↦ inl (omega (arith, h, out_less bound (AtMost p) t (at_most_tighter bound p a) k b (not_up p t m)))
        | inr e ↦ inr (p, refl, (rw e k), omega (arith, h, out_upto bound (AtMost p) (at_most_tighter bound p a)))
      ]
  rounds_at_most bound rounds p t (inr h) a k b l new =
      let q : p ≼ h.0 = (let x : has (AtMost h.0) p ≡ true = rw h.1 at a in x) in
      let y : has bound h.0 ≡ true = rw h.1 (≼-refl h.0) in
      elim (≼-cases p h.0 q) [
        | inl m ↦ inl (omega (arith, h.3, out_less bound (AtMost p) h.0 (at_most_tighter bound p a) h.2 y (not_up p h.0 m)))
        | inr e ↦ absurd (new (h.1 ∙ ap AtMost (sym e)))
      ]

  -- so a read asks at most twice the pairs, and one round more
  pub few_rounds : (bound : Bound) (rounds : ℕ) → IsRounds bound rounds → IsFewAt w block rounds
  few_rounds bound rounds (inl h) = omega (arith, h, out_pairs bound)
  few_rounds bound rounds (inr h) = let y : has bound h.0 ≡ true = rw h.1 (≼-refl h.0) in omega (arith, h.3, out_fewer bound h.0 h.2 y)

-- more was accepted
module _ (w v : World) (block : ℕ) (o : Rattle.std.proofs.Common.Option Accepted) (grows : v.accepted ≡ one_more w.accepted o) where
  one_more_different : (test : Accepted → Bool) (xs : List Accepted) (o : Rattle.std.proofs.Common.Option Accepted) → different test xs ≤ different test (one_more xs o)
  one_more_different test xs None = omega arith
  one_more_different test xs (Some b) = different_more test xs b

  grown : (test : Accepted → Bool) → different test w.accepted ≤ different test v.accepted
  grown test = rw grows (one_more_different test w.accepted o)

  accepted_still : (t : Stamp) → WasAccepted w block t → WasAccepted v block t
  accepted_still t k = (k.0, rw grows (one_more_left w.accepted o _ k.1))

  pub IsRounds-more : (bound : Bound) (rounds : ℕ) → IsRounds w block bound rounds → IsRounds v block bound rounds
  IsRounds-more bound rounds (inl h) = inl (omega (arith, h, grown (is_out block bound)))
  IsRounds-more bound rounds (inr h) = inr (h.0, h.1, accepted_still h.0 h.2, omega (arith, h.3, grown (is_out block bound)))

  pub IsFewAt-more : (rounds : ℕ) → IsFewAt w block rounds → IsFewAt v block rounds
  IsFewAt-more rounds h = omega (arith, h, grown (λ a. eqb a.block block))
