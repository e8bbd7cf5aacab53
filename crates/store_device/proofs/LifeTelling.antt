-- What is told of a store's life was told of an operation of one of its batches, and the other way round.
use Rattle.std.proofs.Common.{◌≡◌, ◌≢◌, ◌⊎◌, ℕ, zero, suc, ◌+◌, ◌<◌, ◌≤◌, map, List, [], ◌∷◌, Option, refl, sym, ap, subst, ◌∙◌, inl, inr, arith}
use Rattle.std.specs.Prelude.{slice_get}
use Rattle.std.specs.declared.option.Option.TheVariants.{None, Some}
use Rattle.std.specs.List.{AllByRecursion, Contains}
use Rattle.std.proofs.lemmas.Bool.{cases_lt}
use Rattle.std.proofs.lemmas.Option.{slice_get_within, get_or_from_slice_get}
use Rattle.std.proofs.lemmas.List.Elements.{Contains-append_cases, Contains-append_left, Contains-append_right}
use Rattle.lists.proofs.lemmas.Members.{Contains-none, Contains-one, Contains-slice_get, member_of_all}
use Rattle.quorum_rules.specs.Limits.{Numbers}
use Rattle.wire_forms.specs.declared.op.Op.{Op}
use Rattle.wire_forms.specs.declared.op.Op.TheVariants.{Read as ReadOp, Write as WriteOp}
use Rattle.protocol.specs.Instance.{setting}
use Rattle.protocol.specs.World.{Fits}
use Rattle.protocol.specs.Operations.{Work, Outcome}
use Rattle.protocol.specs.Operations.Work.{Reads, Writes}
use Rattle.protocol.specs.Seen.{block_of, work_of}
use Rattle.run_words.specs.declared.outcome.Outcome.TheVariants.{Wrote, Spent, Gave, Outvoted}
use Rattle.linear_runs.specs.Linear.{Act, Operation}
use Rattle.linear_runs.specs.Linear.Act.{Read, Write}
use Rattle.linear_runs.specs.Meaning.{EachTakesTime}
use Rattle.block_phases.specs.Executions.{StampedValue}
use Rattle.block_turns.specs.Turns.{operation, act_of, act_left}
use Rattle.store_device.specs.Lives.{Turn, Moment, told_one, told_by, told_at, told_from, told, IsBatch, IsWhole, IsLife, WasTold}
use Rattle.store_device.specs.Lives.Turn.{Performed, Pruned, Changed, Gone, Back, Lost, Damaged, Failed, Renewed}

-- ---- one operation

-- when it ended, where it was told of at turn k
abbrev pub end_at : ℕ → Option Outcome → Option ℕ
end_at k None = None
end_at k (Some outcome) = Some k

-- it is of this operation of turn k
pub record IsOf (k : ℕ) (op : Op) (outcome : Option Outcome) (o : Operation) : Type 0 where
  pub on_block : o.block ≡ block_of op
  pub began : o.start ≡ Some k
  pub ended : o.end ≡ end_at k outcome
  pub wrote : (value : List ℕ) → o.act ≡ Write value → op ≡ WriteOp (block_of op) value

left_writes : (work : Work) (value : List ℕ) → act_left work ≡ Some (Write value) → work ≡ Writes value
left_writes Reads value e = absurd (cc)
left_writes (Writes v) value e = let q : v ≡ value = cc in ap (λ (x : List ℕ). Writes x) q

told_writes : (work : Work) (outcome : Outcome) (value : List ℕ) → act_of work outcome ≡ Some (Write value) → work ≡ Writes value
told_writes Reads (Gave stamp v how rounds) value e = absurd (let q : Read v ≡ Write value = cc in cc)
told_writes Reads (Wrote stamp) value e = absurd (cc)
told_writes Reads Spent value e = absurd (cc)
told_writes Reads (Outvoted nodes) value e = absurd (cc)
told_writes (Writes v) (Gave stamp x how rounds) value e = absurd (cc)
told_writes (Writes v) (Wrote stamp) value e = let q : v ≡ value = cc in ap (λ (x : List ℕ). Writes x) q
told_writes (Writes v) Spent value e = absurd (cc)
told_writes (Writes v) (Outvoted nodes) value e = absurd (cc)

is_write : (op : Op) (value : List ℕ) → work_of op ≡ Writes value → op ≡ WriteOp (block_of op) value
is_write (ReadOp block) value e = absurd (cc)
is_write (WriteOp block v) value e = let q : v ≡ value = cc in ap (λ (x : List ℕ). WriteOp block x) q

operation_is : (block client start : ℕ) (end : Option ℕ) (act : Option Act) (o : Operation)
    → Contains (operation block client start end act) o
    → (a : Act) × (act ≡ Some a) × (o ≡ record { block = block; act = a; client = Some client; start = Some start; end = end })
operation_is block client start end None o there = absurd (Contains-none o there)
operation_is block client start end (Some a) o there = (a, refl, Contains-one o _ there)

one_is : (k client : ℕ) (op : Op) (outcome : Option Outcome) (o : Operation) → Contains (told_one k client op outcome) o
    → IsOf k op outcome o
one_is k client op None o there =
    let x = operation_is (block_of op) client k None (act_left (work_of op)) o there in
    record {
      on_block = ap (λ (z : Operation). z.block) x.2;
      began = ap (λ (z : Operation). z.start) x.2;
      ended = ap (λ (z : Operation). z.end) x.2;
      wrote = λ value e.
          is_write op value (left_writes (work_of op) value (x.1 ∙ ap (λ (a : Act). Some a) (sym (ap (λ (z : Operation). z.act) x.2) ∙ e)));
    }
one_is k client op (Some outcome) o there =
    let x = operation_is (block_of op) client k (Some k) (act_of (work_of op) outcome) o there in
    record {
      on_block = ap (λ (z : Operation). z.block) x.2;
      began = ap (λ (z : Operation). z.start) x.2;
      ended = ap (λ (z : Operation). z.end) x.2;
      wrote = λ value e.
          is_write op value
          (told_writes (work_of op) outcome value (x.1 ∙ ap (λ (a : Act). Some a) (sym (ap (λ (z : Operation). z.act) x.2) ∙ e)));
    }

-- ---- one batch

record IsFromBatch (k client : ℕ) (ops : List Op) (outcomes : List (Option Outcome)) (o : Operation) : Type 0 where
  place : ℕ
  op : Op
  outcome : Option Outcome
  asked : slice_get ops place ≡ Some op
  told : slice_get outcomes place ≡ Some outcome
  is : IsOf k op outcome o

from_batch : (k client : ℕ) (ops : List Op) (outcomes : List (Option Outcome)) (o : Operation) → Contains (told_by k client ops outcomes) o
    → IsFromBatch k client ops outcomes o
from_batch k client [] outcomes o there = absurd (Contains-none o there)
from_batch k client (op ∷ ops) [] o there = absurd (Contains-none o there)
from_batch k client (op ∷ ops) (outcome ∷ outcomes) o there =
    let rest = from_batch k (suc client) ops outcomes o in
    elim (Contains-append_cases (told_one k client op outcome) (told_by k (suc client) ops outcomes) o there) [
      | inl a ↦ record { place = 0; op = op; outcome = outcome; asked = refl; told = refl; is = one_is k client op outcome o a }
      | inr b ↦ (
          let r = rest b in
          record { place = suc r.place; op = r.op; outcome = r.outcome; asked = r.asked; told = r.told; is = r.is })
    ]

to_batch : (k client : ℕ) (ops : List Op) (outcomes : List (Option Outcome)) (place : ℕ) (op : Op) (outcome : Option Outcome)
    → slice_get ops place ≡ Some op → slice_get outcomes place ≡ Some outcome
    → (other : ℕ) × ((o : Operation) → Contains (told_one k other op outcome) o → Contains (told_by k client ops outcomes) o)
to_batch k client [] outcomes place op outcome a b = absurd (cc)
to_batch k client (first ∷ ops) [] place op outcome a b = absurd (cc)
to_batch k client (first ∷ ops) (x ∷ outcomes) zero op outcome a b =
    let same : first ≡ op = cc in
    let told : x ≡ outcome = cc in (
      client,
      λ o there. Contains-append_left (told_one k client first x) (told_by k (suc client) ops outcomes) o
          (subst (λ (y : Option Outcome). Contains (told_one k client first y) o) (sym told)
          (subst (λ (y : Op). Contains (told_one k client y outcome) o) (sym same) there)),
    )
to_batch k client (first ∷ ops) (x ∷ outcomes) (suc place) op outcome a b =
    let r = to_batch k (suc client) ops outcomes place op outcome a b in
    (r.0, λ o there. Contains-append_right (told_one k client first x) (told_by k (suc client) ops outcomes) o (r.1 o there))

-- ---- a life

-- turns of which the first is number k had the operation
pub record IsFrom (k : ℕ) (life : List Moment) (o : Operation) : Type 0 where
  pub turn : ℕ
  pub op : Op
  pub outcome : Option Outcome
  pub was : WasTold life turn op outcome
  pub is : IsOf (k + turn) op outcome o

later : (m : Moment) (life : List Moment) (turn : ℕ) (op : Op) (outcome : Option Outcome) → WasTold life turn op outcome
    → WasTold (m ∷ life) (suc turn) op outcome
later m life turn op outcome was =
    record { ops = was.ops; outcomes = was.outcomes; stored = was.stored; turn = was.turn; place = was.place; asked = was.asked; told = was.told }

earlier : (m : Moment) (life : List Moment) (turn : ℕ) (op : Op) (outcome : Option Outcome) → WasTold (m ∷ life) (suc turn) op outcome
    → WasTold life turn op outcome
earlier m life turn op outcome was =
    record { ops = was.ops; outcomes = was.outcomes; stored = was.stored; turn = was.turn; place = was.place; asked = was.asked; told = was.told }

pub from_life : (k : ℕ) (life : List Moment) (o : Operation) → Contains (told_from k life) o → IsFrom k life o
from_life k [] o there = absurd (Contains-none o there)
from_life k (m ∷ life) o there =
    let rest = from_life (suc k) life o in
    elim (Contains-append_cases (told_at k m.turn) (told_from (suc k) life) o there) [
      | inl a ↦ at m.turn refl a
      | inr b ↦ (
          let r = rest b in
          let number : suc k + r.turn ≡ k + suc r.turn = omega arith in
          record {
            turn = suc r.turn;
            op = r.op;
            outcome = r.outcome;
            was = later m life r.turn r.op r.outcome r.was;
            is = subst (λ (n : ℕ). IsOf n r.op r.outcome o) number r.is;
          })
    ]
  where
    at : (t : Turn) → m.turn ≡ t → Contains (told_at k t) o → IsFrom k (m ∷ life) o
    at (Performed ops outcomes stored) e a =
        let b = from_batch k 1 ops outcomes o a in
        let number : k ≡ k + 0 = omega arith in
        record {
          turn = 0;
          op = b.op;
          outcome = b.outcome;
          was = record {
            ops = ops;
            outcomes = outcomes;
            stored = stored;
            turn = ap (λ (x : Turn). Some x) e;
            place = b.place;
            asked = b.asked;
            told = b.told;
          };
          is = subst (λ (n : ℕ). IsOf n b.op b.outcome o) number b.is;
        }
    at (Pruned prunes) e a = absurd (Contains-none o a)
    at Changed e a = absurd (Contains-none o a)
    at (Gone node) e a = absurd (Contains-none o a)
    at (Back node) e a = absurd (Contains-none o a)
    at (Lost node) e a = absurd (Contains-none o a)
    at (Damaged block node) e a = absurd (Contains-none o a)
    at (Failed block node) e a = absurd (Contains-none o a)
    at (Renewed block node) e a = absurd (Contains-none o a)

pub to_life : (k : ℕ) (life : List Moment) (turn : ℕ) (op : Op) (outcome : Option Outcome) → WasTold life turn op outcome
    → (client : ℕ) × ((o : Operation) → Contains (told_one (k + turn) client op outcome) o → Contains (told_from k life) o)
to_life k [] turn op outcome was = absurd (let e = was.turn in cc)
to_life k (m ∷ life) zero op outcome was =
    let is : m.turn ≡ Performed was.ops was.outcomes was.stored = (let e = was.turn in cc) in
    let b = to_batch k 1 was.ops was.outcomes was.place op outcome was.asked was.told in
    let number : k + 0 ≡ k = omega arith in (
      b.0,
      λ o there. Contains-append_left (told_at k m.turn) (told_from (suc k) life) o
          (subst (λ (t : Turn). Contains (told_at k t) o) (sym is)
          (b.1 o (subst (λ (n : ℕ). Contains (told_one n b.0 op outcome) o) number there))),
    )
to_life k (m ∷ life) (suc turn) op outcome was =
    let r = to_life (suc k) life turn op outcome (earlier m life turn op outcome was) in
    let number : k + suc turn ≡ suc k + turn = omega arith in (
      r.0,
      λ o there. Contains-append_right (told_at k m.turn) (told_from (suc k) life) o
          (r.1 o (subst (λ (n : ℕ). Contains (told_one n r.0 op outcome) o) number there)),
    )

-- each took no time
pub takes_time : (zeros : List ℕ) (life : List Moment) → EachTakesTime zeros (told life)
takes_time zeros life o start end there began ended =
    let from = from_life 0 life o there in
    at from.outcome (sym from.is.began ∙ began) (sym from.is.ended ∙ ended)
  where
    at : {k : ℕ} (outcome : Option Outcome) → Some k ≡ Some start → end_at k outcome ≡ Some end → start ≤ end
    at None b e = absurd (cc)
    at {k} (Some outcome) b e = let p : k ≡ start = cc in let q : k ≡ end = cc in omega (arith, p, q)

module _ (c : Numbers) where
  batch_of : (life : List Moment) (k : ℕ) (ops : List Op) (outcomes : List (Option Outcome)) (stored : List (Option StampedValue))
      → AllByRecursion (λ (m : Moment). IsWhole c m.turn) life
      → slice_get (map (λ (m : Moment). m.turn) life) k ≡ Some (Performed ops outcomes stored) → IsBatch c ops
  batch_of [] k ops outcomes stored whole e = absurd (cc)
  batch_of (m ∷ life) zero ops outcomes stored whole e = performed.0
    where
      performed : IsWhole c (Performed ops outcomes stored)
      performed = let is : m.turn ≡ Performed ops outcomes stored = cc in subst (IsWhole c) is whole.0
  batch_of (m ∷ life) (suc k) ops outcomes stored whole e = batch_of life k ops outcomes stored whole.1 e

  module _ (life : List Moment) (lived : IsLife c life) where
    batch_at : (k : ℕ) (op : Op) (outcome : Option Outcome) (was : WasTold life k op outcome) → IsBatch c was.ops
    batch_at k op outcome was = batch_of life k was.ops was.outcomes was.stored lived.whole was.turn

    pub fits : (k : ℕ) (op : Op) (outcome : Option Outcome) → WasTold life k op outcome
        → (block_of op < c.blocks) × Fits (setting c) (work_of op)
    fits k op outcome was =
        member_of_all (λ (x : Op). (block_of x < c.blocks) × Fits (setting c) (work_of x)) was.ops (batch_at k op outcome was).fit op
        (Contains-slice_get was.ops was.place op was.asked)

    -- each was on a block that there is
    pub on_blocks : (o : Operation) → Contains (told life) o → o.block < c.blocks
    on_blocks o there =
        let from = from_life 0 life o there in
        subst (λ (b : ℕ). b < c.blocks) (sym from.is.on_block) (fits from.turn from.op from.outcome from.was).0

    -- a batch has one operation on a block
    pub one_each : (k : ℕ) (op other : Op) (outcome told : Option Outcome) → WasTold life k op outcome → WasTold life k other told
        → block_of op ≡ block_of other → op ≡ other
    one_each k op other outcome told a b same = at (cases_lt a.place b.place) (cases_lt b.place a.place)
      where
        ops_same : b.ops ≡ a.ops
        ops_same = let p = sym b.turn ∙ a.turn in let q : Performed b.ops b.outcomes b.stored ≡ Performed a.ops a.outcomes a.stored = cc in cc

        asked : slice_get a.ops b.place ≡ Some other
        asked = subst (λ (ops : List Op). slice_get ops b.place ≡ Some other) ops_same b.asked

        apart : (i j : ℕ) (x y : Op) → slice_get a.ops i ≡ Some x → slice_get a.ops j ≡ Some y → i < j → block_of x ≢ block_of y
        apart i j x y p q less e =
            (batch_at k op outcome a).apart i j x less (slice_get_within a.ops j y q)
            (ap block_of (get_or_from_slice_get a.ops i x x p) ∙ e ∙ sym (ap block_of (get_or_from_slice_get a.ops j y x q)))

        at : (a.place < b.place) ⊎ (b.place ≤ a.place) → (b.place < a.place) ⊎ (a.place ≤ b.place) → op ≡ other
        at (inl l) x = absurd (apart a.place b.place op other a.asked asked l same)
        at (inr m) (inl l) = absurd (apart b.place a.place other op asked a.asked l (sym same))
        at (inr m) (inr n) =
            let e : b.place ≡ a.place = omega (arith, m, n) in
            let p = sym a.asked ∙ subst (λ (i : ℕ). slice_get a.ops i ≡ Some other) e asked in
            let q : op ≡ other = cc in q
