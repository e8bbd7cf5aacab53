-- The stamps of a round's valid answers, in a list.
use Rattle.std.proofs.Common.{◌≡◌, ℕ, ◌≤◌, List, length, take, Option, sym, ◌∙◌, ap, inl, inr, arith, get_or}
use Rattle.std.specs.declared.option.Option.TheVariants.{None}
use Rattle.std.proofs.lemmas.Bool.{cases_lt}
use Rattle.std.proofs.lemmas.List.{get_or-take, get_or_past, length-take-le}
use Rattle.quorum_rules.specs.Limits.{Numbers, IsValid}
use Rattle.stamp_order.specs.declared.Stamp.{Stamp}
use Rattle.stamp_order.specs.declared.Bound.{Bound}
use Rattle.wire_forms.specs.declared.message.Reply.{Reply}
use Rattle.protocol.specs.Setting.{first_stamp}
use Rattle.protocol.specs.Instance.{setting}
use Rattle.protocol.specs.Operations.{stamp_of, valid, stamps as stamps_of}
use Rattle.protocol.proofs.lemmas.Seeing.{funext}
use Rattle.candidate_class.specs.Stamps.{stamp_at}
use Rattle.operation_core.specs.Counting.{answer_at}
use Rattle.read_core.specs.Rounds.{IsRound}

module _ (c : Numbers) (bound : Bound) (answers : List (Option Reply)) where
  -- past the last answer there is no stamp
  pub stamp_past : (i : ℕ) → length answers ≤ i → stamps_of (setting c) (answer_at answers) bound i ≡ None
  stamp_past i l = ap (λ o. stamp_of (valid (setting c) i bound o)) (get_or_past answers i None l)

  -- the stamps of the nodes that there are make a round of their answers
  pub is_round : IsValid c → (first : Stamp) → first ≡ first_stamp (setting c) → length answers ≡ c.n → (xs : List (Option Stamp)) → c.n ≤ length xs
      → ((i : ℕ) → stamp_at xs i ≡ stamps_of (setting c) (answer_at answers) bound i) → (n : ℕ) → n ≡ c.n → (ys : List (Option Stamp)) → ys ≡ take n xs → IsRound c first bound answers ys
  is_round good first begins places xs room all n e ys f =
      let size : length ys ≡ n = ap length f ∙ length-take-le n xs (omega (arith, room, e)) in
      record {
        valid = good;
        begins = begins;
        places = places;
        stamp_places = size ∙ e;
        stamps_are = funext _ _ (λ i. elim (cases_lt i n) [
          | inl l ↦ ap (λ zs. get_or zs i None) f ∙ get_or-take n xs i None l ∙ all i
          | inr m ↦ get_or_past ys i None (omega (arith, size, m)) ∙ sym (stamp_past i (omega (arith, m, e, places)))
        ]);
      }
