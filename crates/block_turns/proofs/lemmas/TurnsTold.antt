-- The operations that turns tell: on which block they are, when they began and ended, and what they did.
use Rattle.std.proofs.Common.{◌≡◌, ℕ, suc, cond, eqb, List, [], ◌∷◌, ◌++◌, map, Option, refl, sym, ◌∙◌, ap, subst, inl, inr}
use Rattle.std.specs.declared.option.Option.TheVariants.{None, Some}
use Rattle.std.specs.List.{Contains}
use Rattle.std.proofs.lemmas.Bool.{eq-eqb, eqb-true, cases_eq}
use Rattle.std.proofs.lemmas.List.Elements.{Contains-append_cases, Contains-append_left, Contains-append_right}
use Rattle.lists.proofs.lemmas.Members.{Contains-head, Contains-none, Contains-rest, Contains-one, Contains-cons_cases}
use Rattle.stamp_order.specs.declared.Stamp.{Stamp}
use Rattle.run_words.specs.declared.outcome.How.{How}
use Rattle.run_words.specs.declared.outcome.Outcome.TheVariants.{Wrote, Spent, Gave, Outvoted}
use Rattle.protocol.specs.Operations.Work.{Reads, Writes}
use Rattle.linear_runs.specs.Linear.{Act, Operation, IsLinear, Linearizable, on_block}
use Rattle.linear_runs.specs.Linear.Act.{Read, Write}
use Rattle.linear_runs.proofs.lemmas.Matching.{filter_none}
use Rattle.block_turns.specs.Turns.{operation, act_of, act_left}
use Rattle.block_turns.specs.Turns.{Turn, Moment, told_by, told, turns_of, written_in}
use Rattle.block_turns.specs.Turns.Turn.{Did, Left, Pruned, Changed, Gone, Back, Lost, Failed, Renewed}
use Rattle.std.proofs.lemmas.List.{map-append}
use Rattle.block_turns.specs.AllBlocks.{told_as}
use Rattle.block_turns.proofs.lemmas.TurnNumbers.{renumbered, Rises, linear_renumbered}
use Rattle.block_turns.proofs.Placing.{none_placed, placed_linear}

-- ---- on which block, and when

-- the operation is on this block, and ended at the turn at which it began, if it ended
pub record IsAtOnce (block : ℕ) (o : Operation) : Type 0 where
  pub on : o.block ≡ block
  pub at_once : (start end : ℕ) → o.start ≡ Some start → o.end ≡ Some end → start ≡ end

same_number : (k start end : ℕ) → Some k ≡ Some start → Some k ≡ Some end → start ≡ end
same_number k start end e f = cc

operation_at_once : (block client k : ℕ) (act : Option Act) (o : Operation) → Contains (operation block client k (Some k) act) o → IsAtOnce block o
operation_at_once block client k None o h = absurd (Contains-none o h)
operation_at_once block client k (Some act) o h =
    let e = Contains-one o (record { block = block; act = act; client = Some client; start = Some k; end = Some k }) h in
    record {
      on = ap (λ (p : Operation). p.block) e;
      at_once = λ start end f g. same_number k start end (sym (ap (λ (p : Operation). p.start) e) ∙ f) (sym (ap (λ (p : Operation). p.end) e) ∙ g);
    }

operation_unended : (block client k : ℕ) (act : Option Act) (o : Operation) → Contains (operation block client k None act) o → IsAtOnce block o
operation_unended block client k None o h = absurd (Contains-none o h)
operation_unended block client k (Some act) o h =
    let e = Contains-one o (record { block = block; act = act; client = Some client; start = Some k; end = None }) h in
    record {
      on = ap (λ (p : Operation). p.block) e;
      at_once = λ start end f g. absurd (let n : None ≡ Some end = sym (ap (λ (p : Operation). p.end) e) ∙ g in cc);
    }

turn_at_once : (block k : ℕ) (turn : Turn) (o : Operation) → Contains (told_by block k turn) o → IsAtOnce block o
turn_at_once block k (Did client work outcome) o h = operation_at_once block client k (act_of work outcome) o h
turn_at_once block k (Left client work stored) o h = operation_unended block client k (act_left work) o h
turn_at_once block k (Pruned stamp) o h = absurd (Contains-none o h)
turn_at_once block k Changed o h = absurd (Contains-none o h)
turn_at_once block k (Gone node) o h = absurd (Contains-none o h)
turn_at_once block k (Back node) o h = absurd (Contains-none o h)
turn_at_once block k (Lost node) o h = absurd (Contains-none o h)
turn_at_once block k (Failed node) o h = absurd (Contains-none o h)
turn_at_once block k (Renewed node) o h = absurd (Contains-none o h)

pub told_at_once : (block k : ℕ) (turns : List Turn) (o : Operation) → Contains (told block k turns) o → IsAtOnce block o
told_at_once block k [] o h = absurd (Contains-none o h)
told_at_once block k (turn ∷ turns) o h =
    let rest = told_at_once block (suc k) turns o in
    elim (Contains-append_cases (told_by block k turn) (told block (suc k) turns) o h) [ inl a ↦ turn_at_once block k turn o a | inr a ↦ rest a ]

-- ---- under other numbers

pub told_as_at_once : (number : ℕ → ℕ) (block k : ℕ) (turns : List Turn) (o : Operation) → Contains (told_as number block k turns) o → IsAtOnce block o
told_as_at_once number block k [] o h = absurd (Contains-none o h)
told_as_at_once number block k (turn ∷ turns) o h =
    let rest = told_as_at_once number block (suc k) turns o in
    elim (Contains-append_cases (told_by block (number k) turn) (told_as number block (suc k) turns) o h) [
      | inl a ↦ turn_at_once block (number k) turn o a
      | inr a ↦ rest a
    ]

renumbered_act : (f : ℕ → ℕ) (block client k : ℕ) (act : Option Act)
    → map (renumbered f) (operation block client k (Some k) act) ≡ operation block client (f k) (Some (f k)) act
renumbered_act f block client k None = refl
renumbered_act f block client k (Some act) = refl

renumbered_left : (f : ℕ → ℕ) (block client k : ℕ) (act : Option Act)
    → map (renumbered f) (operation block client k None act) ≡ operation block client (f k) None act
renumbered_left f block client k None = refl
renumbered_left f block client k (Some act) = refl

renumbered_turn : (f : ℕ → ℕ) (block k : ℕ) (turn : Turn) → map (renumbered f) (told_by block k turn) ≡ told_by block (f k) turn
renumbered_turn f block k (Did client work outcome) = renumbered_act f block client k (act_of work outcome)
renumbered_turn f block k (Left client work stored) = renumbered_left f block client k (act_left work)
renumbered_turn f block k (Pruned stamp) = refl
renumbered_turn f block k Changed = refl
renumbered_turn f block k (Gone node) = refl
renumbered_turn f block k (Back node) = refl
renumbered_turn f block k (Lost node) = refl
renumbered_turn f block k (Failed node) = refl
renumbered_turn f block k (Renewed node) = refl

told_as_is : (f : ℕ → ℕ) (block k : ℕ) (turns : List Turn) → map (renumbered f) (told block k turns) ≡ told_as f block k turns
told_as_is f block k [] = refl
told_as_is f block k (turn ∷ turns) =
    map-append (renumbered f) (told_by block k turn) (told block (suc k) turns)
    ∙ ap (λ (os : List Operation). os ++ map (renumbered f) (told block (suc k) turns)) (renumbered_turn f block k turn)
    ∙ ap (λ (os : List Operation). told_by block (f k) turn ++ os) (told_as_is f block (suc k) turns)

pub told_as_linear : (f : ℕ → ℕ) → Rises f → (block : ℕ) (turns : List Turn) (first : List ℕ) → IsLinear first (told block 0 turns)
    → IsLinear first (told_as f block 0 turns)
told_as_linear f rises block turns first linear =
    subst (λ (os : List Operation). IsLinear first os) (told_as_is f block 0 turns) (linear_renumbered f rises first (told block 0 turns) linear)

-- all are on the block, and none on another one
all_on : (block : ℕ) (os : List Operation) → ((o : Operation) → Contains os o → o.block ≡ block) → on_block block os ≡ os
all_on block [] on = refl
all_on block (o ∷ os) on = first (all_on block os (λ x h. on x (Contains-rest x o os h)))
  where
    first : on_block block os ≡ os → cond (eqb o.block block) (o ∷ on_block block os) (on_block block os) ≡ o ∷ os
    first rest = rw (eq-eqb o.block block (on o (Contains-head o os))) (ap (λ (xs : List Operation). o ∷ xs) rest)

pub none_linear : (first : List ℕ) → IsLinear first []
none_linear first = placed_linear first [] (none_placed first [] (λ o there. absurd (Contains-none o there)))

pub told_linear : (block k : ℕ) (turns : List Turn) (first : List ℕ) → IsLinear first (told block k turns) → Linearizable first (told block k turns)
told_linear block k turns first linear other = elim (cases_eq block other) [
  | inl e ↦ subst (λ (b : ℕ). IsLinear first (on_block b (told block k turns))) e
      (subst (λ (os : List Operation). IsLinear first os) (sym (all_on block (told block k turns) (λ o h. (told_at_once block k turns o h).on))) linear)
  | inr n ↦ subst (λ (os : List Operation). IsLinear first os)
      (sym (filter_none (λ (o : Operation). eqb o.block other) (told block k turns) (λ o h e.
      n (sym (told_at_once block k turns o h).on ∙ eqb-true o.block other e)))) (none_linear first)
]

-- ---- what was done

-- a read that gave something was told
pub read_told : (block k : ℕ) (life : List Moment) (m : Moment) (client rounds : ℕ) (stamp : Stamp) (value : List ℕ) (how : How)
    → Contains life m → m.turn ≡ Did client Reads (Gave stamp value how rounds)
    → (o : Operation) × Contains (told block k (turns_of life)) o × (o.act ≡ Read value) × (end : ℕ) × (o.end ≡ Some end)
read_told block k [] m client rounds stamp value how there e = absurd (Contains-none m there)
read_told block k (x ∷ life) m client rounds stamp value how there e =
    let rest = read_told block (suc k) life m client rounds stamp value how in
    elim (Contains-cons_cases m x life there) [
      | inl same ↦ (
          let reading : Operation = record { block = block; act = Read value; client = Some client; start = Some k; end = Some k } in (
            reading,
            Contains-append_left (told_by block k x.turn) (told block (suc k) (turns_of life)) reading
                (subst (λ (t : Turn). Contains (told_by block k t) reading) (sym e ∙ ap (λ (y : Moment). y.turn) same) (Contains-head reading [])),
            refl,
            k,
            refl,
          ))
      | inr a ↦ (
          let r = rest a e in
          (r.0, Contains-append_right (told_by block k x.turn) (told block (suc k) (turns_of life)) r.0 r.1, r.2, r.3, r.4))
    ]

same_write : (value v : List ℕ) → Write value ≡ Write v → value ≡ v
same_write value v e = cc

not_write : (value v : List ℕ) → Read value ≡ Write v → ⊥
not_write value v e = absurd cc

-- what was written was to be written
turn_written : (block k : ℕ) (turn : Turn) (o : Operation) (value : List ℕ) → Contains (told_by block k turn) o → o.act ≡ Write value
    → written_in turn ≡ Some value
turn_written block k (Did client Reads (Gave stamp v how rounds)) o value h e =
    absurd (not_write v value (sym (ap (λ (p : Operation). p.act) (Contains-one o
    (record { block = block; act = Read v; client = Some client; start = Some k; end = Some k }) h)) ∙ e))
turn_written block k (Did client Reads (Outvoted nodes)) o value h e = absurd (Contains-none o h)
turn_written block k (Did client Reads (Wrote p)) o value h e = absurd (Contains-none o h)
turn_written block k (Did client Reads Spent) o value h e = absurd (Contains-none o h)
turn_written block k (Did client (Writes v) (Wrote p)) o value h e =
    ap (λ (w : List ℕ). Some w) (same_write v value (sym (ap (λ (p : Operation). p.act) (Contains-one o
    (record { block = block; act = Write v; client = Some client; start = Some k; end = Some k }) h)) ∙ e))
turn_written block k (Did client (Writes v) Spent) o value h e = absurd (Contains-none o h)
turn_written block k (Did client (Writes v) (Gave stamp w how rounds)) o value h e = absurd (Contains-none o h)
turn_written block k (Did client (Writes v) (Outvoted nodes)) o value h e = absurd (Contains-none o h)
turn_written block k (Left client Reads stored) o value h e = absurd (Contains-none o h)
turn_written block k (Left client (Writes v) stored) o value h e =
    ap (λ (w : List ℕ). Some w) (same_write v value (sym (ap (λ (p : Operation). p.act) (Contains-one o
    (record { block = block; act = Write v; client = Some client; start = Some k; end = None }) h)) ∙ e))
turn_written block k (Pruned stamp) o value h e = absurd (Contains-none o h)
turn_written block k Changed o value h e = absurd (Contains-none o h)
turn_written block k (Gone node) o value h e = absurd (Contains-none o h)
turn_written block k (Back node) o value h e = absurd (Contains-none o h)
turn_written block k (Lost node) o value h e = absurd (Contains-none o h)
turn_written block k (Failed node) o value h e = absurd (Contains-none o h)
turn_written block k (Renewed node) o value h e = absurd (Contains-none o h)

pub written_told : (block k : ℕ) (life : List Moment) (o : Operation) (value : List ℕ) → Contains (told block k (turns_of life)) o
    → o.act ≡ Write value → (w : Moment) × Contains life w × (written_in w.turn ≡ Some value)
written_told block k [] o value h e = absurd (Contains-none o h)
written_told block k (m ∷ life) o value h e =
    let rest = written_told block (suc k) life o value in
    elim (Contains-append_cases (told_by block k m.turn) (told block (suc k) (turns_of life)) o h) [
      | inl a ↦ (m, Contains-head m life, turn_written block k m.turn o value a e)
      | inr a ↦ (let r = rest a e in (r.0, Contains-rest r.0 m life r.1, r.2))
    ]
