-- What was told as acknowledged was done, by the law of the lives of blocks.
use Rattle.std.proofs.Common.{◌≡◌, ◌≢◌, ℕ, zero, suc, Bool, true, false, eqb, map, List, [], ◌∷◌, length, Option, refl, sym, ap, subst, ◌∙◌, arith}
use Rattle.std.specs.Prelude.{if◌then◌else◌, slice_get}
use Rattle.std.specs.declared.option.Option.TheVariants.{None, Some}
use Rattle.std.specs.List.{AllByRecursion, Contains}
use Rattle.std.proofs.lemmas.Bool.{eqb-true, eq-eqb}
use Rattle.std.proofs.lemmas.List.{length-map}
use Rattle.lists.proofs.lemmas.Members.{Contains-head, Contains-rest, Contains-map, member_of_all}
use Rattle.quorum_rules.specs.Limits.{Numbers}
use Rattle.wire_forms.specs.declared.op.Op.{Op}
use Rattle.wire_forms.specs.declared.op.Op.TheVariants.{Read as ReadOp, Write as WriteOp}
use Rattle.run_words.specs.declared.outcome.Outcome.TheVariants.{Wrote, Spent, Gave, Outvoted}
use Rattle.protocol.specs.Instance.{nobody}
use Rattle.protocol.specs.Laws.{InEachCluster}
use Rattle.protocol.specs.Operations.{Outcome}
use Rattle.protocol.specs.Seen.{block_of, work_of}
use Rattle.block_phases.specs.Executions.{StampedValue}
use Rattle.block_turns.specs.Turns.Turn.{Did}
use Rattle.block_turns.specs.Laws.{IsDone, AcknowledgedAreDone as BlocksAreDone}
use Rattle.store_device.specs.Told.{AreApart}
use Rattle.store_device.specs.Lives.{Turn, Moment, turn_of, batch_on, turn_on, moment_on, life_on, IsWhole}
use Rattle.store_device.specs.Lives.Turn.{Performed}
use Rattle.store_device.specs.Arrays.{WasDone, AcknowledgedAreDone}
use Rattle.store_device.proofs.Asked.{all_get}
use Rattle.store_device.proofs.LifeLaws.{calm}
use Rattle.store_device.proofs.LifeOperations.{apart_first, apart_rest}
use Rattle.store_device.proofs.LifeTelling.{fits}

-- an operation of a batch that was told of is what the batch is on its block
pub batch_is : (block client : ℕ) (ops : List Op) (outcomes : List (Option Outcome)) (stored : List (Option StampedValue)) (place : ℕ) (op : Op)
    (outcome : Outcome) → AreApart ops → length stored ≡ length ops → slice_get ops place ≡ Some op
    → slice_get outcomes place ≡ Some (Some outcome) → block_of op ≡ block
    → (other : ℕ) × (batch_on block client ops outcomes stored ≡ Did other (work_of op) outcome)
batch_is block client [] outcomes stored place op outcome apart wide asked told on = absurd cc
batch_is block client (first ∷ ops) [] stored place op outcome apart wide asked told on = absurd cc
batch_is block client (first ∷ ops) (x ∷ outcomes) [] place op outcome apart wide asked told on = absurd (omega (arith, wide))
batch_is block client (first ∷ ops) (x ∷ outcomes) (value ∷ stored) zero op outcome apart wide asked told on =
    let same : first ≡ op = cc in
    let is : x ≡ Some outcome = cc in
    let here : eqb (block_of first) block ≡ true = eq-eqb (block_of first) block (ap block_of same ∙ on) in (
      client,
      ap (λ (b : Bool). if b then turn_of client (work_of first) x value else batch_on block (suc client) ops outcomes stored) here
          ∙ ap (λ (o : Op). turn_of client (work_of o) x value) same
          ∙ ap (λ (o : Option Outcome). turn_of client (work_of op) o value) is,
    )
batch_is block client (first ∷ ops) (x ∷ outcomes) (value ∷ stored) (suc place) op outcome apart wide asked told on =
    let rest = batch_is block (suc client) ops outcomes stored place op outcome (apart_rest block_of first ops apart) (omega (arith, wide))
    asked told on in (
      rest.0,
      ap (λ (b : Bool). if b then turn_of client (work_of first) x value else batch_on block (suc client) ops outcomes stored)
          (other (eqb (block_of first) block) refl)
          ∙ rest.1,
    )
  where
    other : (b : Bool) → eqb (block_of first) block ≡ b → eqb (block_of first) block ≡ false
    other true e =
        absurd (all_get (λ (o : Op). block_of o ≢ block_of first) ops place op (apart_first block_of first ops apart) asked
        (on ∙ sym (eqb-true (block_of first) block e)))
    other false e = e

done_of : (op : Op) (outcome : Outcome) → IsDone (work_of op) outcome → WasDone op (Some outcome)
done_of (ReadOp block) (Gave stamp value how rounds) is = tt
done_of (ReadOp block) (Wrote stamp) is = absurd is
done_of (ReadOp block) Spent is = absurd is
done_of (ReadOp block) (Outvoted nodes) is = absurd is
done_of (WriteOp block value) (Wrote stamp) is = tt
done_of (WriteOp block value) (Gave stamp given how rounds) is = absurd is
done_of (WriteOp block value) Spent is = absurd is
done_of (WriteOp block value) (Outvoted nodes) is = absurd is

-- the moment of a turn
pub at_turn : (life : List Moment) (k : ℕ) (turn : Turn) → slice_get (map (λ (m : Moment). m.turn) life) k ≡ Some turn
    → (m : Moment) × Contains life m × (m.turn ≡ turn)
at_turn [] k turn e = absurd cc
at_turn (m ∷ life) zero turn e = let same : m.turn ≡ turn = cc in (m, Contains-head m life, same)
at_turn (m ∷ life) (suc k) turn e = let r = at_turn life k turn e in (r.0, Contains-rest r.0 m life r.1, r.2)

pub on_moment : (block : ℕ) (life : List Moment) (m : Moment) → Contains life m → Contains (life_on block life) (moment_on block m)
on_moment block life m there = Contains-map (moment_on block) life m there

module _ (c : Numbers) where
  whole_at : (life : List Moment) → AllByRecursion (λ (m : Moment). IsWhole c m.turn) life → (m : Moment) → Contains life m → IsWhole c m.turn
  whole_at life whole m there = member_of_all (λ (x : Moment). IsWhole c x.turn) life whole m there

  pub acknowledged_done : InEachCluster BlocksAreDone → AcknowledgedAreDone c
  acknowledged_done done valid life lived few apart k op None was told = absurd told
  acknowledged_done done valid life lived few apart k op (Some outcome) was told =
      let m = at_turn life k (Performed was.ops was.outcomes was.stored) was.turn in
      let there = (fits c life lived k op (Some outcome) was).0 in
      let block = block_of op in
      let whole : IsWhole c (Performed was.ops was.outcomes was.stored) = subst (IsWhole c) m.2 (whole_at life lived.whole m.0 m.1) in
      let is = batch_is block 1 was.ops was.outcomes was.stored was.place op outcome whole.0.apart whole.2 was.asked was.told refl in
      let long = length-map life (moment_on block) in
      done_of op outcome
      (done c nobody nobody (calm c valid) block (life_on block life) (lived.each block there) (apart block there) (omega (arith, long, few))
      (moment_on block m.0) (on_moment block life m.0 m.1) is.0 (work_of op) outcome
      (ap (turn_on block) m.2 ∙ is.1))
