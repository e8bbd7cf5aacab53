-- What calls acknowledge, in a life of which they are turns.
use Rattle.std.proofs.Common.{◌≡◌, ℕ, List, [], ◌∷◌, ◌++◌, sym, ◌∙◌, ap, subst, append_assoc}
use Rattle.std.specs.List.{AllByRecursion}
use Rattle.std.proofs.lemmas.List.{append-nil}
use Rattle.quorum_rules.specs.Limits.{Numbers}
use Rattle.disk_model.specs.Crash.{Pending}
use Rattle.block_turns.specs.Turns.{Standing, standing_after}
use Rattle.store_device.specs.Lives.{Turn, Moment, IsWhole, turn_on, standing_on}
use Rattle.store_device.specs.Lives.Turn.{Performed}
use Rattle.store_device.specs.Calls.{Deed, Call, Acknowledged, AreTurnsBy, IsTurnBy, given_after, given_on, given_through, told_each}
use Rattle.store_device.specs.Calls.Deed.{Performs, Prunes}
use Rattle.store_device.specs.Sessions.{given_in, CallsAcknowledge}
use Rattle.store_device.proofs.LifeOnBlocks.{standing_more, given_batch, given_prune}
use Rattle.store_device.proofs.LifeSettled.{whole_after}

-- what is known on a block decides what is known there then
after_alike : (given other : Acknowledged) (deed : Deed) (block : ℕ) → given block ≡ other block → given_after given deed block ≡ given_after other deed block
after_alike given other (Performs ops told) block same = ap (given_on block ops (told_each ops told)) same
after_alike given other (Prunes prunes) block same = same

through_alike : {D : Type 0} (given other : Acknowledged) (calls : List (Call D)) (block : ℕ) → given block ≡ other block
    → given_through given calls block ≡ given_through other calls block
through_alike given other [] block same = same
through_alike given other (call ∷ calls) block same =
    through_alike (given_after given call.deed) (given_after other call.deed) calls block (after_alike given other call.deed block same)

module _ (c : Numbers) where
  -- one call
  by_turn : (life : List Moment) (m : Moment) (deed : Deed) (block : ℕ) → IsWhole c m.turn → IsTurnBy deed m.turn
      → given_in c (life ++ m ∷ []) block ≡ given_after (given_in c life) deed block
  by_turn life m (Performs ops told) block whole is =
      let long : IsWhole c (Performed ops (told_each ops told) is.0) = subst (IsWhole c) is.1 whole in
      ap (λ (b : Standing). b.ended) (standing_more c block life (m ∷ []))
      ∙ ap (λ (t : Turn). (standing_after (standing_on c block life) (turn_on block t)).ended) is.1
      ∙ given_batch c block (standing_on c block life) 1 ops (told_each ops told) is.0 long.1 long.2
  by_turn life m (Prunes prunes) block whole is =
      ap (λ (b : Standing). b.ended) (standing_more c block life (m ∷ []))
      ∙ ap (λ (t : Turn). (standing_after (standing_on c block life) (turn_on block t)).ended) is
      ∙ given_prune c block (standing_on c block life) prunes

  acknowledged : {D : Type 0} (life more : List Moment) (calls : List (Call D)) (block : ℕ)
      → AllByRecursion (λ (m : Moment). IsWhole c m.turn) more → AreTurnsBy calls more
      → given_in c (life ++ more) block ≡ given_through (given_in c life) calls block
  acknowledged life [] [] block whole are = ap (λ (l : List Moment). given_in c l block) (append-nil life)
  acknowledged life [] (call ∷ calls) block whole are = absurd are
  acknowledged life (m ∷ more) [] block whole are = absurd are
  acknowledged life (m ∷ more) (call ∷ calls) block whole are =
      sym (ap (λ (l : List Moment). given_in c l block) (append_assoc life (m ∷ []) more))
      ∙ acknowledged (life ++ m ∷ []) more calls block whole.1 are.1
      ∙ through_alike (given_in c (life ++ m ∷ [])) (given_after (given_in c life) call.deed) calls block
      (by_turn life m call.deed block whole.0 are.0)

pub calls_acknowledge : {D : Type 0} (pending : D → Pending) (seen : D → List ℕ) → CallsAcknowledge pending seen
calls_acknowledge pending seen c life more calls block lived are = acknowledged c life more calls block (whole_after c life more lived.whole) are
