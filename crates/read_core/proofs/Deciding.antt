-- The rules by which a round is decided, one by one.
use Rattle.std.proofs.Common.{◌≡◌, ℕ, ◌+◌, ◌-◌, ◌<◌, ◌≤◌, true, false, Option, refl, sym, ◌∙◌, ap, inl, inr, arith, ltb, leb}
use Rattle.std.specs.declared.option.Option.TheVariants.{None, Some}
use Rattle.std.proofs.lemmas.Bool.Decides.{nat_tests}
use Rattle.stamp_order.specs.declared.Stamp.{Stamp}
use Rattle.stamp_order.specs.declared.Bound.{Bound}
use Rattle.stamp_order.specs.declared.Bound.TheVariants.{AtMost, Below}
use Rattle.stamp_order.specs.Stamps.{same_stamp}
use Rattle.run_words.specs.declared.outcome.How.TheVariants.{Plain}
use Rattle.run_words.specs.declared.outcome.Outcome.TheVariants.{Gave, Outvoted}
use Rattle.wire_forms.specs.declared.message.Reply.{Reply}
use Rattle.protocol.specs.Setting.{Setting, zeros, first_stamp, same_digests}
use Rattle.protocol.specs.Operations.{pivot, support, invalid_nodes, chosen, candidate, sum_of_first, decide_at, decide_pivot}
use Rattle.protocol.specs.Operations.Stage.{Versions, Storing}
use Rattle.protocol.specs.Operations.Decision.{GoesOn, Ends}
use Rattle.protocol.proofs.lemmas.Order.{same_stamp-≡}
use Rattle.protocol.proofs.lemmas.Rounds.{same_digests-≡, same_digests-refl}
use Rattle.std.proofs.lemmas.Bool.{cases_Bool}

module _ (s : Setting) (answers : ℕ → Option Reply) (bound : Bound) (rounds : ℕ) where
  pub too_few : pivot s answers bound ≡ None → Ends (Outvoted (invalid_nodes s answers bound)) ≡ decide_pivot s answers bound rounds (pivot s answers bound)
  too_few e = sym (ap (decide_pivot s answers bound rounds) e)

  module _ (p : Stamp) (is : pivot s answers bound ≡ Some p) where
    at_pivot : decide_pivot s answers bound rounds (pivot s answers bound) ≡ decide_at s answers bound rounds p
    at_pivot = ap (decide_pivot s answers bound rounds) is

    pub first_is_given : same_stamp p (first_stamp s) ≡ true → Ends (Gave p (zeros s) Plain rounds) ≡ decide_pivot s answers bound rounds (pivot s answers bound)
    first_is_given e =
        let same : p ≡ first_stamp s = same_stamp-≡ p (first_stamp s) e in
        let d : decide_at s answers bound rounds p ≡ Ends (Gave (first_stamp s) (zeros s) Plain rounds) = rw e refl in
        ap (λ (x : Stamp). Ends (Gave x (zeros s) Plain rounds)) same ∙ sym d ∙ sym at_pivot

    module _ (later : same_stamp p (first_stamp s) ≡ false) where
      pub little_is_lower : support s answers bound p < s.qc - s.t → GoesOn (Versions (AtMost p)) ≡ decide_pivot s answers bound rounds (pivot s answers bound)
      little_is_lower l =
          let few : ltb (support s answers bound p) (s.qc - s.t) ≡ true = grind (arith, nat_tests) in
          let d : decide_at s answers bound rounds p ≡ GoesOn (Versions (AtMost p)) = rw (later, few) refl in
          sym d ∙ sym at_pivot

      module _ (enough : s.qc - s.t ≤ support s answers bound p) where
        many : ltb (support s answers bound p) (s.qc - s.t) ≡ false
        many = grind (arith, nat_tests)

        pub poison_is_below : (s.sum_of (candidate s answers bound p) ≡ sum_of_first (chosen s answers bound p) → ⊥) → GoesOn (Versions (Below p)) ≡ decide_pivot s answers bound rounds (pivot s answers bound)
        poison_is_below apart =
            let differ : same_digests (s.sum_of (candidate s answers bound p)) (sum_of_first (chosen s answers bound p)) ≡ false =
            elim (cases_Bool (same_digests (s.sum_of (candidate s answers bound p)) (sum_of_first (chosen s answers bound p)))) [ inl e ↦ absurd (apart (same_digests-≡ _ _ e)) | inr e ↦ e ] in
            let d : decide_at s answers bound rounds p ≡ GoesOn (Versions (Below p)) = rw (later, many, differ) refl in
            sym d ∙ sym at_pivot

        module _ (sound : s.sum_of (candidate s answers bound p) ≡ sum_of_first (chosen s answers bound p)) where
          agree : same_digests (s.sum_of (candidate s answers bound p)) (sum_of_first (chosen s answers bound p)) ≡ true
          agree = rw sound (same_digests-refl (sum_of_first (chosen s answers bound p)))

          pub complete_is_given : s.qc + s.b ≤ support s answers bound p → Ends (Gave p (candidate s answers bound p) Plain rounds) ≡ decide_pivot s answers bound rounds (pivot s answers bound)
          complete_is_given l =
              let all : leb (s.qc + s.b) (support s answers bound p) ≡ true = grind (arith, nat_tests) in
              let d : decide_at s answers bound rounds p ≡ Ends (Gave p (candidate s answers bound p) Plain rounds) = rw (later, many, agree, all) refl in
              sym d ∙ sym at_pivot

          pub repairable_is_stored : support s answers bound p < s.qc + s.b → GoesOn (Storing p (candidate s answers bound p)) ≡ decide_pivot s answers bound rounds (pivot s answers bound)
          repairable_is_stored l =
              let some : leb (s.qc + s.b) (support s answers bound p) ≡ false = grind (arith, nat_tests) in
              let d : decide_at s answers bound rounds p ≡ GoesOn (Storing p (candidate s answers bound p)) = rw (later, many, agree, some) refl in
              sym d ∙ sym at_pivot
