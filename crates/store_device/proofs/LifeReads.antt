-- A read gives what was written before it, where no other write was begun in between or left without an end.
use Rattle.std.proofs.Common.{◌≡◌, ◌≢◌, ℕ, ◌+◌, ◌<◌, ◌≤◌, Bool, true, false, cond, eqb, List, [], ◌∷◌, Option, refl, sym, ap, subst, ◌∙◌, inl, inr, arith}
use Rattle.std.specs.declared.option.Option.TheVariants.{None, Some}
use Rattle.std.specs.List.{Contains}
use Rattle.std.proofs.lemmas.Bool.{cases_lt, cases_eq, eqb-true, eq-eqb}
use Rattle.lists.proofs.lemmas.Members.{Contains-head, filter_is, filter_has}
use Rattle.quorum_rules.specs.Limits.{Numbers}
use Rattle.wire_forms.specs.declared.op.Op.{Op}
use Rattle.wire_forms.specs.declared.op.Op.TheVariants.{Read as ReadOp, Write as WriteOp}
use Rattle.protocol.specs.Setting.{zeros}
use Rattle.protocol.specs.Instance.{setting}
use Rattle.protocol.specs.Seen.{block_of}
use Rattle.protocol.specs.Operations.{Outcome}
use Rattle.run_words.specs.declared.outcome.Outcome.TheVariants.{Wrote, Gave}
use Rattle.linear_runs.specs.Linear.{Operation, IsBefore, IsLinear, Linearizable, on_block}
use Rattle.linear_runs.specs.Linear.Act.{Read, Write}
use Rattle.linear_runs.specs.Meaning.{IsSource, ReadsAreFresh}
use Rattle.store_device.specs.Lives.{Moment, told, told_one, IsLife, WasTold, IsReadAfter, LivesAreLinearizable, AcknowledgedWritesAreRead}
use Rattle.store_device.proofs.LifeTelling.{IsFrom, end_at, from_life, to_life, one_each}
use Rattle.store_device.proofs.LifeLaws.{linear_none, none_on}

-- the operations of one block are linearizable, also among all blocks
on_same : (block : ℕ) (ops : List Operation) → on_block block (on_block block ops) ≡ on_block block ops
on_same block [] = refl
on_same block (o ∷ ops) = at (eqb o.block block) refl (on_same block ops)
  where
    at : (b : Bool) → eqb o.block block ≡ b → on_block block (on_block block ops) ≡ on_block block ops
        → on_block block (cond b (o ∷ on_block block ops) (on_block block ops)) ≡ cond b (o ∷ on_block block ops) (on_block block ops)
    at true e rest = rw e (ap (λ (os : List Operation). o ∷ os) rest)
    at false e rest = rest

pub only_there : (zeros : List ℕ) (block : ℕ) (ops : List Operation) → IsLinear zeros (on_block block ops)
    → Linearizable zeros (on_block block ops)
only_there zeros block ops linear b = elim (cases_eq b block) [
  | inl e ↦
      subst (λ (x : ℕ). IsLinear zeros (on_block x (on_block block ops))) (sym e)
      (subst (IsLinear zeros) (sym (on_same block ops)) linear)
  | inr apart ↦
      linear_none zeros (on_block b (on_block block ops))
      (none_on b (on_block block ops)
      (λ o there e.
      apart (sym e ∙ eqb-true o.block block (filter_is (λ (p : Operation). eqb p.block block) ops o there).1)))
]

ended : (k : ℕ) (outcome : Option Outcome) → outcome ≢ None → end_at k outcome ≡ Some k
ended k None is = absurd (is refl)
ended k (Some outcome) is = refl

module _ (fresh : (zeros : List ℕ) (ops : List Operation) → ReadsAreFresh zeros ops) (c : Numbers) where
  module _ (life : List Moment) (lived : IsLife c life) (block : ℕ)
      (linear : IsLinear (zeros (setting c)) (on_block block (told life)))
      (write read : ℕ) (value given : List ℕ) (h : IsReadAfter life block write read value given) where
    stands : (o : Operation) → Contains (told life) o → o.block ≡ block → Contains (on_block block (told life)) o
    stands o there e = filter_has (λ (p : Operation). eqb p.block block) (told life) o there (eq-eqb o.block block e)

    -- they are told of the life
    abbrev IsTold : ℕ → Op → Outcome → Type 0
    IsTold turn op outcome =
        (client : ℕ) × ((o : Operation) → Contains (told_one (0 + turn) client op (Some outcome)) o → Contains (told life) o)

    writing : IsTold write (WriteOp block value) (Wrote h.chosen)
    writing = to_life 0 life write (WriteOp block value) (Some (Wrote h.chosen)) h.wrote

    reading : IsTold read (ReadOp block) (Gave h.stamp given h.how h.rounds)
    reading = to_life 0 life read (ReadOp block) (Some (Gave h.stamp given h.how h.rounds)) h.gave

    -- the write and the read
    abbrev w : Operation
    w = record { block = block; act = Write value; client = Some writing.0; start = Some (0 + write); end = Some (0 + write) }

    abbrev r : Operation
    r = record { block = block; act = Read given; client = Some reading.0; start = Some (0 + read); end = Some (0 + read) }

    -- what the read gives if it is another write's value
    module _ (other : Operation) (source : IsSource (zeros (setting c)) (on_block block (told life)) r given other)
        (late : IsBefore other w → ⊥) where
      from : IsFrom 0 life other
      from = from_life 0 life other (filter_is (λ (p : Operation). eqb p.block block) (told life) other source.there).0

      here : from.op ≡ WriteOp block given
      here = from.is.wrote given source.wrote ∙ ap (λ (b : ℕ). WriteOp b given) (sym from.is.on_block ∙ source.on_block)

      was : WasTold life from.turn (WriteOp block given) from.outcome
      was = subst (λ (op : Op). WasTold life from.turn op from.outcome) here from.was

      -- what else the turn had on the block
      one_there : (op : Op) (outcome : Option Outcome) (turn : ℕ) → from.turn ≡ turn → WasTold life turn op outcome
          → block ≡ block_of op → WriteOp block given ≡ op
      one_there op outcome turn e told same =
          one_each c life lived turn (WriteOp block given) op from.outcome outcome
          (subst (λ (k : ℕ). WasTold life k (WriteOp block given) from.outcome) e was) told same

      -- it began before the read
      not_then : from.turn ≡ read → ⊥
      not_then e = absurd (let q = one_there (ReadOp block) (Some (Gave h.stamp given h.how h.rounds)) read e h.gave refl in cc)

      not_later : read < from.turn → ⊥
      not_later l =
          source.in_time
          (record { end = 0 + read; ended = refl; start = 0 + from.turn; began = from.is.began; earlier = omega (arith, l) })

      before : from.turn < read
      before = elim (cases_lt from.turn read) [
        | inl l ↦ l
        | inr m ↦ absurd (elim (cases_lt read from.turn) [ inl l ↦ not_later l | inr n ↦ not_then (omega (arith, m, n)) ])
      ]

      -- and not before the write
      known : (from.turn ≤ write) × (from.outcome ≢ None)
      known = h.others from.turn given from.outcome was before

      not_earlier : from.turn < write → ⊥
      not_earlier l =
          late
          (record {
            end = 0 + from.turn;
            ended = from.is.ended ∙ ended (0 + from.turn) from.outcome known.1;
            start = 0 + write;
            began = refl;
            earlier = omega (arith, l);
          })

      same_turn : from.turn ≡ write
      same_turn = elim (cases_lt from.turn write) [ inl l ↦ absurd (not_earlier l) | inr m ↦ (let k = known.0 in omega (arith, k, m)) ]

      -- so it is this write
      same : given ≡ value
      same = let q = one_there (WriteOp block value) (Some (Wrote h.chosen)) write same_turn h.wrote refl in cc

    gives : given ≡ value
    gives =
        elim (fresh (zeros (setting c)) (on_block block (told life)) r given w
        (only_there (zeros (setting c)) block (told life) linear)
        (record { there = stands r (reading.1 r (Contains-head r [])) refl; gave = refl; end = 0 + read; ended = refl })
        (stands w (writing.1 w (Contains-head w [])) refl) refl
        (record { end = 0 + write; ended = refl; start = 0 + read; began = refl; earlier = (let l = h.later in omega (arith, l)) })) [
          | inl e ↦ e
          | inr x ↦ same x.0 x.1 x.2
        ]

  pub reads_give : LivesAreLinearizable c → AcknowledgedWritesAreRead c
  reads_give lives valid life lived block there apart write read value given h =
      gives life lived block (lives valid life lived block there apart) write read value given h
