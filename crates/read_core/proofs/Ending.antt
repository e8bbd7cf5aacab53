-- What a round comes to is what the definitions decide.
use Rattle.std.proofs.Common.{◌≡◌, ℕ, ◌<◌, ◌≤◌, true, false, ◌&&◌, not, List, length, map, take, replicate, Option, sym, ◌∙◌, ap}
use Rattle.std.specs.declared.option.Option.TheVariants.{None, Some}
use Rattle.quorum_rules.specs.Limits.{Numbers, complete_of, repairable_of}
use Rattle.stamp_order.specs.declared.Stamp.{Stamp}
use Rattle.stamp_order.specs.declared.Bound.{Bound}
use Rattle.stamp_order.specs.declared.Bound.TheVariants.{AtMost, Below}
use Rattle.stamp_order.specs.Stamps.{up_to, same_stamp}
use Rattle.cross_sum.specs.declared.part.Part.{Part}
use Rattle.cross_sum.specs.Parts.{numbers, strings}
use Rattle.gf_field.specs.Fragments.{AreParts, string_len, decoded, fragments_of}
use Rattle.ida_code.specs.Sums.{sum_of}
use Rattle.run_words.specs.declared.outcome.How.TheVariants.{Plain}
use Rattle.wire_forms.specs.declared.message.Reply.{Reply}
use Rattle.protocol.specs.Count.{count, collect, kept_where}
use Rattle.protocol.specs.Reach.{highest}
use Rattle.protocol.specs.Setting.{first_stamp}
use Rattle.protocol.specs.Instance.{setting}
use Rattle.protocol.specs.Operations.{is_answered, is_there, pivot, support, decide_pivot, part_of, sum_of_first, chosen, candidate}
use Rattle.protocol.specs.Operations.Stage.{Versions}
use Rattle.candidate_class.specs.Stamps.{stamp_at, is_stamp}
use Rattle.operation_core.specs.declared.stage.Stage.TheVariants.{Versions as Asking, Storing}
use Rattle.operation_core.specs.Counting.{answer_at}
use Rattle.read_core.specs.Rounds.{IsRound}
use Rattle.read_core.specs.Candidates.{carrier, shown_parts, CarryWhole}
use Rattle.read_core.specs.Ends.{decision_of, IsNextIn, IsEnd}
use Rattle.read_core.specs.declared.read_end.ReadEnd.{ReadEnd}
use Rattle.read_core.specs.declared.read_end.ReadEnd.TheVariants.{Outvoted, Gives, GoesOn}
use Rattle.read_core.proofs.Deciding.{too_few, first_is_given, little_is_lower, poison_is_below, complete_is_given, repairable_is_stored}
use Rattle.read_core.proofs.Choosing.{support_is, sum_is, sum_length, decoded_is, parts_are, carry_whole as carries_whole}

-- a round's end by its decision
ended : (c : Numbers) (bound : Bound) (answers : List (Option Reply)) (end : ReadEnd)
    → ((rounds : ℕ) → decision_of rounds end ≡ decide_pivot (setting c) (answer_at answers) bound rounds (pivot (setting c) (answer_at answers) bound)) → IsNextIn c end → IsEnd c (Versions bound) answers end
ended c bound answers end decides new = record {
  decides = λ client task reads same. decides task.rounds ∙ ap (λ (f : ℕ → Option Reply). decide_pivot (setting c) f bound task.rounds (pivot (setting c) f bound)) (sym same);
  next = new;
}

module _ (c : Numbers) (first : Stamp) (bound : Bound) (answers : List (Option Reply)) (stamps : List (Option Stamp)) (h : IsRound c first bound answers stamps) where
  pivot_is : highest up_to (length stamps) (stamp_at stamps) (repairable_of c) ≡ pivot (setting c) (answer_at answers) bound
  pivot_is =
      ap (λ k. highest up_to k (stamp_at stamps) (repairable_of c)) h.stamp_places
      ∙ ap (λ (f : ℕ → Option Stamp). highest up_to c.n f (repairable_of c)) h.stamps_are

  -- what was found by the stamps is the pivot
  pub pivot_told : (xs : List (Option Stamp)) (k : ℕ) (o : Option Stamp) → xs ≡ stamps → k ≡ repairable_of c → o ≡ highest up_to (length xs) (stamp_at xs) k → pivot (setting c) (answer_at answers) bound ≡ o
  pivot_told xs k o e f told =
      sym (told ∙ ap (λ (ys : List (Option Stamp)). highest up_to (length ys) (stamp_at ys) k) e ∙ ap (highest up_to (length stamps) (stamp_at stamps)) f ∙ pivot_is)

  pub supported : (p : Stamp) → count (length stamps) (λ i. is_stamp p (stamp_at stamps i)) ≡ support (setting c) (answer_at answers) bound p
  supported p = ap (λ k. count k (λ i. is_stamp p (stamp_at stamps i))) h.stamp_places ∙ support_is c h.valid bound answers stamps h.stamps_are p

  pub is_outvoted : (nodes : List ℕ) → pivot (setting c) (answer_at answers) bound ≡ None
      → nodes ≡ collect (length answers) (λ i. kept_where (is_answered (answer_at answers i) && not (is_there (stamp_at stamps i))) i) → IsEnd c (Versions bound) answers (Outvoted nodes)
  is_outvoted nodes none e =
      let invalid = e
      ∙ ap (λ k. collect k (λ i. kept_where (is_answered (answer_at answers i) && not (is_there (stamp_at stamps i))) i)) h.places
      ∙ ap (λ (f : ℕ → Option Stamp). collect c.n (λ i. kept_where (is_answered (answer_at answers i) && not (is_there (f i))) i)) h.stamps_are in
      ended c bound answers (Outvoted nodes) (λ rounds. ap (λ xs. decision_of rounds (Outvoted xs)) invalid ∙ too_few (setting c) (answer_at answers) bound rounds none) tt

  pub carry_whole : (p : Stamp) → CarryWhole answers stamps p
  carry_whole p = carries_whole c h.valid bound answers stamps h.stamps_are p h.places

  module _ (p : Stamp) (is : pivot (setting c) (answer_at answers) bound ≡ Some p) where
    pub is_first : (value : List ℕ) → same_stamp p first ≡ true → value ≡ replicate c.size 0 → IsEnd c (Versions bound) answers (Gives p value Plain)
    is_first value same e =
        let begins : same_stamp p (first_stamp (setting c)) ≡ true = sym (ap (same_stamp p) h.begins) ∙ same in
        ended c bound answers (Gives p value Plain) (λ rounds. ap (λ xs. decision_of rounds (Gives p xs Plain)) e ∙ first_is_given (setting c) (answer_at answers) bound rounds p is begins) tt

    pub is_later : same_stamp p first ≡ false → same_stamp p (first_stamp (setting c)) ≡ false
    is_later e = sym (ap (same_stamp p) h.begins) ∙ e

    module _ (later : same_stamp p (first_stamp (setting c)) ≡ false) where
      pub is_little : support (setting c) (answer_at answers) bound p < repairable_of c → IsEnd c (Versions bound) answers (GoesOn (Asking (AtMost p)))
      is_little l =
          ended c bound answers (GoesOn (Asking (AtMost p))) (λ rounds. little_is_lower (setting c) (answer_at answers) bound rounds p is later l) (record { fits = tt; reads = tt })

      module _ (enough : repairable_of c ≤ support (setting c) (answer_at answers) bound p)
          (parts : List Part) (shown : shown_parts parts ≡ map part_of (take c.m (collect (length answers) (carrier answers stamps p))))
          (sum : List (List ℕ)) (least : sum ≡ sum_of_first (collect (length answers) (carrier answers stamps p))) where
        shown_all : shown_parts parts ≡ map part_of (take c.m (collect c.n (carrier answers stamps p)))
        shown_all = shown ∙ ap (λ k. map part_of (take c.m (collect k (carrier answers stamps p)))) h.places

        -- the parts and the sum are those of the answers that carry the pivot
        pub are_parts : AreParts c.n c.m (string_len c.m c.size) (numbers parts) (strings parts)
        are_parts = parts_are c h.valid bound answers stamps h.stamps_are p enough parts shown_all

        sum_of_chosen : sum ≡ sum_of_first (chosen (setting c) (answer_at answers) bound p)
        sum_of_chosen = least ∙ ap (λ k. sum_of_first (collect k (carrier answers stamps p))) h.places ∙ sum_is c h.valid bound answers stamps h.stamps_are p enough

        pub sum_has_all : length sum ≡ c.n
        sum_has_all = ap length sum_of_chosen ∙ sum_length c h.valid bound answers stamps h.stamps_are p enough

        candidate_is : decoded c.m c.size (numbers parts) (strings parts) ≡ candidate (setting c) (answer_at answers) bound p
        candidate_is = decoded_is c h.valid bound answers stamps h.stamps_are p enough parts shown_all

        pub is_poison : (sum_of c.n c.m (decoded c.m c.size (numbers parts) (strings parts)) ≡ sum → ⊥) → IsEnd c (Versions bound) answers (GoesOn (Asking (Below p)))
        is_poison apart =
            ended c bound answers (GoesOn (Asking (Below p))) (λ rounds. poison_is_below (setting c) (answer_at answers) bound rounds p is later enough (λ e. apart (ap (sum_of c.n c.m) candidate_is ∙ e ∙ sym sum_of_chosen)))
            (record { fits = tt; reads = tt })

        module _ (block : List ℕ) (decodes : block ≡ decoded c.m c.size (numbers parts) (strings parts)) (sound : sum_of c.n c.m block ≡ sum) where
          block_is : block ≡ candidate (setting c) (answer_at answers) bound p
          block_is = decodes ∙ candidate_is

          agrees : sum_of c.n c.m (candidate (setting c) (answer_at answers) bound p) ≡ sum_of_first (chosen (setting c) (answer_at answers) bound p)
          agrees = sym (ap (sum_of c.n c.m) block_is) ∙ sound ∙ sum_of_chosen

          pub is_complete : complete_of c ≤ support (setting c) (answer_at answers) bound p → IsEnd c (Versions bound) answers (Gives p block Plain)
          is_complete l =
              ended c bound answers (Gives p block Plain) (λ rounds. ap (λ xs. decision_of rounds (Gives p xs Plain)) block_is ∙ complete_is_given (setting c) (answer_at answers) bound rounds p is later enough agrees l) tt

          pub is_repairable : (shares : List (List ℕ)) → shares ≡ fragments_of c.n c.m block → support (setting c) (answer_at answers) bound p < complete_of c → IsEnd c (Versions bound) answers (GoesOn (Storing (record { stamp = p; value = block; shares = shares; sum = sum })))
          is_repairable shares fragments l =
              ended c bound answers (GoesOn (Storing (record { stamp = p; value = block; shares = shares; sum = sum }))) (λ rounds. ap (λ xs. decision_of rounds (GoesOn (Storing (record { stamp = p; value = xs; shares = shares; sum = sum })))) block_is ∙ repairable_is_stored (setting c) (answer_at answers) bound rounds p is later enough agrees l)
              (record { fits = record { shares = fragments; sum = sym sound }; reads = tt })
