-- A life of which all was done is answered as a plain array answers it.
use Rattle.std.proofs.Common.{◌≡◌, ◌≢◌, ◌⊎◌, inl, inr, ℕ, zero, suc, ◌+◌, ◌<◌, Bool, true, false, cond, eqb, map, List, [], ◌∷◌, ◌++◌, length, Option, refl, sym, ◌∙◌, ap, subst, arith}
use Rattle.std.specs.Prelude.{slice_get}
use Rattle.std.specs.declared.option.Option.TheVariants.{None, Some}
use Rattle.std.specs.List.{Contains, AllByRecursion}
use Rattle.std.proofs.lemmas.Bool.{cases_lt, cases_eq, eqb-true, eq-eqb}
use Rattle.lists.proofs.lemmas.Members.{Contains-head, filter_is, filter_has, member_of_all, Contains-slice_get}
use Rattle.quorum_rules.specs.Limits.{Numbers}
use Rattle.stamp_order.specs.declared.Stamp.{Stamp}
use Rattle.wire_forms.specs.declared.op.Op.{Op}
use Rattle.wire_forms.specs.declared.op.Op.TheVariants.{Read as ReadOp, Write as WriteOp}
use Rattle.protocol.specs.Setting.{zeros}
use Rattle.protocol.specs.Instance.{setting}
use Rattle.protocol.specs.Operations.{Outcome, How}
use Rattle.protocol.specs.Seen.{block_of}
use Rattle.run_words.specs.declared.outcome.Outcome.TheVariants.{Wrote, Spent, Gave, Outvoted}
use Rattle.linear_runs.specs.Linear.{Operation, IsLinear, on_block}
use Rattle.linear_runs.specs.Linear.Act.{Read}
use Rattle.linear_runs.specs.Meaning.{IsSource, ReadsAreWritten}
use Rattle.block_phases.specs.Executions.{StampedValue}
use Rattle.store_device.specs.Lives.{Turn, Moment, told, told_one, IsWhole, IsLife, IsReadAfter, WasTold, LivesAreLinearizable, AcknowledgedWritesAreRead}
use Rattle.store_device.specs.Lives.Turn.{Performed, Pruned, Changed, Gone, Back, Lost, Damaged, Failed, Renewed}
use Rattle.store_device.specs.Arrays.{Contents, contents_after, IsAnswered, AreAnswered, with_outcomes, operations_in, operations_of, WasDone, AcknowledgedAreDone, LivesAreArrays}
use Rattle.store_device.proofs.Batches.{AreOwn, are_own}
use Rattle.store_device.proofs.LifeTelling.{IsFrom, from_life, to_life, one_each}
use Rattle.store_device.proofs.LifeReads.{only_there}

-- ---- an array, operation by operation

-- what it holds when all of them were done
abbrev all_after : List (Op × Option Outcome) → Contents → Contents
all_after [] a = a
all_after (p ∷ ps) a = all_after ps (contents_after p.0 a)

answered_append : (xs ys : List (Op × Option Outcome)) (a : Contents) → AreAnswered a xs → AreAnswered (all_after xs a) ys
    → AreAnswered a (xs ++ ys)
answered_append [] ys a first then = then
answered_append (p ∷ xs) ys a first then = (first.0, answered_append xs ys (contents_after p.0 a) first.1 then)

-- an operation on another block leaves a block as it is
other_after : (op : Op) (a : Contents) (block : ℕ) → block_of op ≢ block → contents_after op a block ≡ a block
other_after (ReadOp x) a block apart = refl
other_after (WriteOp x value) a block apart = by (eqb block x) refl
  where
    by : (b : Bool) → eqb block x ≡ b → cond b value (a block) ≡ a block
    by true e = absurd (apart (sym (eqb-true block x e)))
    by false e = refl

same_answer : (op : Op) (outcome : Option Outcome) (a d : Contents) → d (block_of op) ≡ a (block_of op) → IsAnswered a op outcome
    → IsAnswered d op outcome
same_answer (ReadOp block) None a d e is = absurd is
same_answer (ReadOp block) (Some (Gave stamp value how rounds)) a d e is = is ∙ sym e
same_answer (ReadOp block) (Some (Wrote stamp)) a d e is = absurd is
same_answer (ReadOp block) (Some Spent) a d e is = absurd is
same_answer (ReadOp block) (Some (Outvoted nodes)) a d e is = absurd is
same_answer (WriteOp block written) None a d e is = absurd is
same_answer (WriteOp block written) (Some (Wrote stamp)) a d e is = tt
same_answer (WriteOp block written) (Some (Gave stamp value how rounds)) a d e is = absurd is
same_answer (WriteOp block written) (Some Spent) a d e is = absurd is
same_answer (WriteOp block written) (Some (Outvoted nodes)) a d e is = absurd is

-- operations on blocks of their own that are answered by what the array held before them are so one after the other
one_by_one : (ops : List Op) (outcomes : List (Option Outcome)) (a d : Contents) → AreOwn ops
    → AllByRecursion (λ (op : Op). d (block_of op) ≡ a (block_of op)) ops
    → ((place : ℕ) (op : Op) (outcome : Option Outcome) → slice_get ops place ≡ Some op → slice_get outcomes place ≡ Some outcome
    → IsAnswered a op outcome) → AreAnswered d (with_outcomes ops outcomes)
one_by_one [] outcomes a d own same each = tt
one_by_one (op ∷ ops) [] a d own same each = tt
one_by_one (op ∷ ops) (outcome ∷ outcomes) a d own same each = (
  same_answer op outcome a d same.0 (each 0 op outcome refl refl),
  one_by_one ops outcomes a (contents_after op d) own.1 (still ops own.0 same.1) (λ place o x p q. each (suc place) o x p q),
)
  where
    still : (os : List Op) → AllByRecursion (λ (o : Op). block_of op ≢ block_of o) os
        → AllByRecursion (λ (o : Op). d (block_of o) ≡ a (block_of o)) os
        → AllByRecursion (λ (o : Op). contents_after op d (block_of o) ≡ a (block_of o)) os
    still [] others same = tt
    still (o ∷ os) others same = (other_after op d (block_of o) others.0 ∙ same.0, still os others.1 same.1)

-- what a batch wrote of a block, if it did
record IsWritten (ops : List Op) (outcomes : List (Option Outcome)) (block : ℕ) (value : List ℕ) : Type 0 where
  place : ℕ
  stamp : Stamp
  asked : slice_get ops place ≡ Some (WriteOp block value)
  told : slice_get outcomes place ≡ Some (Some (Wrote stamp))

abbrev NoneWrites : List Op → ℕ → Type 0
NoneWrites ops block = (place : ℕ) (value : List ℕ) → slice_get ops place ≡ Some (WriteOp block value) → ⊥

wrote_with : (block : ℕ) (value : List ℕ) (outcome : Option Outcome) → WasDone (WriteOp block value) outcome → (stamp : Stamp) × (outcome ≡ Some (Wrote stamp))
wrote_with block value None done = absurd done
wrote_with block value (Some (Wrote stamp)) done = (stamp, refl)
wrote_with block value (Some (Gave stamp v how rounds)) done = absurd done
wrote_with block value (Some Spent) done = absurd done
wrote_with block value (Some (Outvoted nodes)) done = absurd done

none_more : (o : Op) (ops : List Op) (block : ℕ) → ((value : List ℕ) → o ≢ WriteOp block value) → NoneWrites ops block → NoneWrites (o ∷ ops) block
none_more o ops block not_it none zero value e = not_it value (some_is o (WriteOp block value) e)
  where
    some_is : (p q : Op) → Some p ≡ Some q → p ≡ q
    some_is p q e = cc
none_more o ops block not_it none (suc place) value e = none place value e

after_batch : (ops : List Op) (outcomes : List (Option Outcome)) (a : Contents) (block : ℕ) → length ops ≡ length outcomes
    → ((place : ℕ) (op : Op) (outcome : Option Outcome) → slice_get ops place ≡ Some op → slice_get outcomes place ≡ Some outcome
    → WasDone op outcome)
    → IsWritten ops outcomes block (all_after (with_outcomes ops outcomes) a block)
    ⊎ ((all_after (with_outcomes ops outcomes) a block ≡ a block) × NoneWrites ops block)
after_batch [] outcomes a block long done = inr (refl, λ place value e. absurd cc)
after_batch (op ∷ ops) [] a block long done = absurd (omega (arith, long))
after_batch (op ∷ ops) (outcome ∷ outcomes) a block long done =
    elim (after_batch ops outcomes (contents_after op a) block (omega (arith, long)) (λ place o x p q. done (suc place) o x p q)) [
      | inl w ↦ inl (record { place = suc w.place; stamp = w.stamp; asked = w.asked; told = w.told })
      | inr rest ↦ at op (done 0 op outcome refl refl) rest.0 rest.1
    ]
  where
    at : (o : Op) → WasDone o outcome → all_after (with_outcomes ops outcomes) (contents_after o a) block ≡ contents_after o a block
        → NoneWrites ops block
        → IsWritten (o ∷ ops) (outcome ∷ outcomes) block (all_after (with_outcomes ops outcomes) (contents_after o a) block)
        ⊎ ((all_after (with_outcomes ops outcomes) (contents_after o a) block ≡ a block) × NoneWrites (o ∷ ops) block)
    at (ReadOp x) was same none = inr (same, none_more (ReadOp x) ops block (λ value e. absurd cc) none)
    at (WriteOp x v) was same none = elim (cases_eq block x) [
      | inl here ↦ (
          let t = wrote_with x v outcome was in
          let is : all_after (with_outcomes ops outcomes) (contents_after (WriteOp x v) a) block ≡ v =
          same ∙ ap (λ (b : Bool). cond b v (a block)) (eq-eqb block x here) in
          inl (record {
            place = 0;
            stamp = t.0;
            asked = ap Some ((λ i. WriteOp (sym here i) (sym is i)));
            told = ap Some t.1;
          }))
      | inr apart ↦ inr (
        same ∙ other_after (WriteOp x v) a block (λ e. apart (sym e)),
        none_more (WriteOp x v) ops block (λ value e. apart (sym (ap block_of e))) none,
      )
    ]

-- ---- a life

module _ (written : (zeros : List ℕ) (ops : List Operation) → ReadsAreWritten zeros ops) (c : Numbers)
    (life : List Moment) (lived : IsLife c life)
    (done : (k : ℕ) (op : Op) (outcome : Option Outcome) → WasTold life k op outcome → WasDone op outcome)
    (linear_on : (block : ℕ) → block < c.blocks → IsLinear (zeros (setting c)) (on_block block (told life)))
    (acknowledged : (block : ℕ) → block < c.blocks → (write read : ℕ) (value given : List ℕ)
    → IsReadAfter life block write read value given → given ≡ value) where
  -- a write of the block at a turn
  abbrev Writes : ℕ → ℕ → Type 0
  Writes block k = (value : List ℕ) × (outcome : Option Outcome) × WasTold life k (WriteOp block value) outcome

  -- the last write of the block before turn k
  record IsLast (block k : ℕ) (value : List ℕ) : Type 0 where
    turn : ℕ
    stamp : Stamp
    before : turn < k
    was : WasTold life turn (WriteOp block value) (Some (Wrote stamp))
    none : (j : ℕ) → turn < j → j < k → Writes block j → ⊥

  -- the block holds what was last written before turn k, or zeros
  abbrev Holds : ℕ → ℕ → List ℕ → Type 0
  Holds block k value = ((value ≡ zeros (setting c)) × ((j : ℕ) → j < k → Writes block j → ⊥)) ⊎ IsLast block k value

  some_done : (block : ℕ) (value : List ℕ) (outcome : Option Outcome) → WasDone (WriteOp block value) outcome → outcome ≢ None
  some_done block value None was e = absurd was
  some_done block value (Some x) was e = absurd cc

  -- a read before which nothing was written gives zeros
  module _ (block k : ℕ) (there : block < c.blocks) (stamp : Stamp) (value : List ℕ) (how : How) (rounds : ℕ)
      (gave : WasTold life k (ReadOp block) (Some (Gave stamp value how rounds))) (none : (j : ℕ) → j < k → Writes block j → ⊥) where
    reading : (client : ℕ) × ((o : Operation) → Contains (told_one (0 + k) client (ReadOp block) (Some (Gave stamp value how rounds))) o
        → Contains (told life) o)
    reading = to_life 0 life k (ReadOp block) (Some (Gave stamp value how rounds)) gave

    abbrev r : Operation
    r = record { block = block; act = Read value; client = Some reading.0; start = Some (0 + k); end = Some (0 + k) }

    no_source : (w : Operation) → IsSource (zeros (setting c)) (on_block block (told life)) r value w → ⊥
    no_source w source = elim (cases_lt from.turn k) [
      | inl l ↦ none from.turn l (value, from.outcome, was)
      | inr m ↦ elim (cases_lt k from.turn) [
        | inl l ↦ source.in_time (record { end = 0 + k; ended = refl; start = 0 + from.turn; began = from.is.began; earlier = omega (arith, l) })
        | inr n ↦ not_then (omega (arith, m, n))
      ]
    ]
      where
        from : IsFrom 0 life w
        from = from_life 0 life w (filter_is (λ (p : Operation). eqb p.block block) (told life) w source.there).0

        here : from.op ≡ WriteOp block value
        here = from.is.wrote value source.wrote ∙ ap (λ (b : ℕ). WriteOp b value) (sym from.is.on_block ∙ source.on_block)

        was : WasTold life from.turn (WriteOp block value) from.outcome
        was = subst (λ (op : Op). WasTold life from.turn op from.outcome) here from.was

        not_then : from.turn ≡ k → ⊥
        not_then e =
            absurd (
            let q = one_each c life lived k (WriteOp block value) (ReadOp block) from.outcome (Some (Gave stamp value how rounds))
            (subst (λ (j : ℕ). WasTold life j (WriteOp block value) from.outcome) e was) gave refl in
            cc)

    gives_zeros : value ≡ zeros (setting c)
    gives_zeros =
        let linear = linear_on block there in
        elim (written (zeros (setting c)) (on_block block (told life)) r value (only_there (zeros (setting c)) block (told life) linear)
        (record {
          there = filter_has (λ (p : Operation). eqb p.block block) (told life) r (reading.1 r (Contains-head r [])) (eq-eqb block block refl);
          gave = refl;
          end = 0 + k;
          ended = refl;
        })) [
          | inl e ↦ e
          | inr x ↦ absurd (no_source x.0 x.1)
        ]

  -- each operation is answered by what the array holds then
  answer : (k : ℕ) (a : Contents) → ((block : ℕ) → Holds block k (a block)) → (op : Op) (outcome : Option Outcome) → block_of op < c.blocks
      → WasTold life k op outcome → WasDone op outcome → IsAnswered a op outcome
  answer k a holds (ReadOp block) None there was is = absurd is
  answer k a holds (ReadOp block) (Some (Wrote stamp)) there was is = absurd is
  answer k a holds (ReadOp block) (Some Spent) there was is = absurd is
  answer k a holds (ReadOp block) (Some (Outvoted nodes)) there was is = absurd is
  answer k a holds (WriteOp block written) None there was is = absurd is
  answer k a holds (WriteOp block written) (Some (Wrote stamp)) there was is = tt
  answer k a holds (WriteOp block written) (Some (Gave stamp value how rounds)) there was is = absurd is
  answer k a holds (WriteOp block written) (Some Spent) there was is = absurd is
  answer k a holds (WriteOp block written) (Some (Outvoted nodes)) there was is = absurd is
  answer k a holds (ReadOp block) (Some (Gave stamp value how rounds)) there was is = elim (holds block) [
    | inl first ↦ gives_zeros block k there stamp value how rounds was first.1 ∙ sym first.0
    | inr last ↦ acknowledged block there last.turn k (a block) value (record {
      later = last.before;
      chosen = last.stamp;
      wrote = last.was;
      stamp = stamp;
      how = how;
      rounds = rounds;
      gave = was;
      others = λ j other outcome told below. (
        elim (cases_lt last.turn j) [
          | inl l ↦ absurd (last.none j l below (other, outcome, told))
          | inr m ↦ m
        ],
        some_done block other outcome (done j (WriteOp block other) outcome told),
      );
    })
  ]

  module _ (k : ℕ) (ops : List Op) (outcomes : List (Option Outcome)) (stored : List (Option StampedValue))
      (turn : slice_get (map (λ (m : Moment). m.turn) life) k ≡ Some (Performed ops outcomes stored)) where
    was_told : (place : ℕ) (op : Op) (outcome : Option Outcome) → slice_get ops place ≡ Some op → slice_get outcomes place ≡ Some outcome
        → WasTold life k op outcome
    was_told place op outcome asked told = record { ops = ops; outcomes = outcomes; stored = stored; turn = turn; place = place; asked = asked; told = told }

    none_writes : (block : ℕ) → NoneWrites ops block → Writes block k → ⊥
    none_writes block none w =
        let q : Some (Performed w.2.ops w.2.outcomes w.2.stored) ≡ Some (Performed ops outcomes stored) = sym w.2.turn ∙ turn in
        let same : w.2.ops ≡ ops = performed_is w.2.ops w.2.outcomes w.2.stored q in
        none w.2.place w.0 (ap (λ (l : List Op). slice_get l w.2.place) (sym same) ∙ w.2.asked)
      where
        performed_is : (os : List Op) (xs : List (Option Outcome)) (ys : List (Option StampedValue))
            → Some (Performed os xs ys) ≡ Some (Performed ops outcomes stored) → os ≡ ops
        performed_is os xs ys e = cc

    -- and so does the array when the batch was done
    holds_then : length ops ≡ length outcomes → (a : Contents) → ((block : ℕ) → Holds block k (a block)) → (block : ℕ)
        → Holds block (suc k) (all_after (with_outcomes ops outcomes) a block)
    holds_then long a holds block =
        elim (after_batch ops outcomes a block long (λ place op outcome p q. done k op outcome (was_told place op outcome p q))) [
          | inl w ↦ inr (record {
            turn = k;
            stamp = w.stamp;
            before = omega arith;
            was = was_told w.place (WriteOp block (all_after (with_outcomes ops outcomes) a block)) (Some (Wrote w.stamp)) w.asked w.told;
            none = λ j l m x. absurd (omega (arith, l, m));
          })
          | inr same ↦ subst (Holds block (suc k)) (sym same.0) (goes_on block (a block) (none_writes block same.1) (holds block))
        ]
      where
        goes_on : (b : ℕ) (value : List ℕ) → (Writes b k → ⊥) → Holds b k value → Holds b (suc k) value
        goes_on b value none (inl first) = inl (
          first.0,
          λ j l w. elim (cases_lt j k) [
            | inl below ↦ first.1 j below w
            | inr past ↦ none (subst (Writes b) (let e : j ≡ k = omega (arith, l, past) in e) w)
          ],
        )
        goes_on b value none (inr last) = inr (record {
          turn = last.turn;
          stamp = last.stamp;
          before = (let l = last.before in omega (arith, l));
          was = last.was;
          none = λ j l m w. elim (cases_lt j k) [
            | inl below ↦ last.none j l below w
            | inr past ↦ none (subst (Writes b) (let e : j ≡ k = omega (arith, m, past) in e) w)
          ];
        })

  holds_still : (k : ℕ) (turn : Turn) → slice_get (map (λ (m : Moment). m.turn) life) k ≡ Some turn
      → ((ops : List Op) (outcomes : List (Option Outcome)) (stored : List (Option StampedValue)) → turn ≢ Performed ops outcomes stored) → (block : ℕ) (value : List ℕ) → Holds block k value
      → Holds block (suc k) value
  holds_still k turn is other block value (inl first) = inl (
    first.0,
    λ j l w. elim (cases_lt j k) [
      | inl below ↦ first.1 j below w
      | inr past ↦ (
          let e : k ≡ j = omega (arith, l, past) in
          let q : Some turn ≡ Some (Performed w.2.ops w.2.outcomes w.2.stored) = sym is ∙ ap (slice_get (map (λ (m : Moment). m.turn) life)) e ∙ w.2.turn in
          other w.2.ops w.2.outcomes w.2.stored (cc))
    ],
  )
  holds_still k turn is other block value (inr last) = inr (record {
    turn = last.turn;
    stamp = last.stamp;
    before = (let l = last.before in omega (arith, l));
    was = last.was;
    none = λ j l m w. elim (cases_lt j k) [
      | inl below ↦ last.none j l below w
      | inr past ↦ (
          let e : k ≡ j = omega (arith, m, past) in
          let q : Some turn ≡ Some (Performed w.2.ops w.2.outcomes w.2.stored) = sym is ∙ ap (slice_get (map (λ (x : Moment). x.turn) life)) e ∙ w.2.turn in
          other w.2.ops w.2.outcomes w.2.stored (cc))
    ];
  })

  abbrev turns : List Moment → List Turn
  turns rest = map (λ (m : Moment). m.turn) rest

  -- turn by turn
  from_turn : (rest : List Moment) (k : ℕ) (a : Contents) → AllByRecursion (λ (m : Moment). IsWhole c m.turn) rest
      → ((j : ℕ) → slice_get (turns rest) j ≡ slice_get (turns life) (k + j)) → ((block : ℕ) → Holds block k (a block))
      → AreAnswered a (operations_of rest)
  from_turn [] k a whole at holds = tt
  from_turn (m ∷ rest) k a whole at holds =
      by m.turn whole.0 (sym (at 0 ∙ ap (slice_get (turns life)) (omega arith)))
      (λ d more. from_turn rest (suc k) d whole.1 (λ j. at (suc j) ∙ ap (slice_get (turns life)) (omega arith)) more)
    where
      still : (turn : Turn) → slice_get (map (λ (x : Moment). x.turn) life) k ≡ Some turn
          → ((ops : List Op) (outcomes : List (Option Outcome)) (stored : List (Option StampedValue)) → turn ≢ Performed ops outcomes stored)
          → ((d : Contents) → ((block : ℕ) → Holds block (suc k) (d block)) → AreAnswered d (operations_of rest)) → AreAnswered a (operations_of rest)
      still turn here other more = more a (λ b. holds_still k turn here other b (a b) (holds b))

      by : (turn : Turn) → IsWhole c turn
          → slice_get (map (λ (x : Moment). x.turn) life) k ≡ Some turn
          → ((d : Contents) → ((block : ℕ) → Holds block (suc k) (d block)) → AreAnswered d (operations_of rest))
          → AreAnswered a (operations_in turn ++ operations_of rest)
      by (Performed ops outcomes stored) is here more =
          let told_each = was_told k ops outcomes stored here in
          answered_append (with_outcomes ops outcomes) (operations_of rest) a
          (one_by_one ops outcomes a a (are_own ops is.0.apart) (all_same ops)
          (λ place op outcome p q. answer k a holds op outcome (member_of_all _ ops is.0.fit op (Contains-slice_get ops place op p)).0
          (told_each place op outcome p q) (done k op outcome (told_each place op outcome p q))))
          (more (all_after (with_outcomes ops outcomes) a) (holds_then k ops outcomes stored here (sym is.1) a holds))
        where
          all_same : (os : List Op) → AllByRecursion (λ (op : Op). a (block_of op) ≡ a (block_of op)) os
          all_same [] = tt
          all_same (o ∷ os) = (refl, all_same os)
      by (Pruned prunes) is here more = still (Pruned prunes) here (λ ops outcomes stored e. absurd cc) more
      by Changed is here more = still Changed here (λ ops outcomes stored e. absurd cc) more
      by (Gone node) is here more = still (Gone node) here (λ ops outcomes stored e. absurd cc) more
      by (Back node) is here more = still (Back node) here (λ ops outcomes stored e. absurd cc) more
      by (Lost node) is here more = still (Lost node) here (λ ops outcomes stored e. absurd cc) more
      by (Damaged block node) is here more = still (Damaged block node) here (λ ops outcomes stored e. absurd cc) more
      by (Failed block node) is here more = still (Failed block node) here (λ ops outcomes stored e. absurd cc) more
      by (Renewed block node) is here more = still (Renewed block node) here (λ ops outcomes stored e. absurd cc) more

  all_answered : AreAnswered (λ block. zeros (setting c)) (operations_of life)
  all_answered = from_turn life 0 (λ block. zeros (setting c)) lived.whole
      (λ j. ap (slice_get (turns life)) (omega arith)) (λ block. inl (refl, λ j l w. absurd (omega (arith, l))))

pub lives_are_arrays : ((zeros : List ℕ) (ops : List Operation) → ReadsAreWritten zeros ops) → (c : Numbers)
    → LivesAreLinearizable c → AcknowledgedWritesAreRead c → AcknowledgedAreDone c → LivesAreArrays c
lives_are_arrays written c linear acknowledged all_done valid life lived few apart told_all =
    all_answered written c life lived
    (λ k op outcome was. all_done valid life lived few apart k op outcome was (told_all k op outcome was))
    (λ block there. linear valid life lived block there (apart block there))
    (λ block there. acknowledged valid life lived block there (apart block there))
