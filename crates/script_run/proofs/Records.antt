-- The records of a world are those of a run.
use Rattle.std.proofs.Common.{◌≡◌, ℕ, ◌+◌, ◌*◌, ◌^◌, ◌-◌, ◌≤◌, ◌<◌, Bool, true, false, List, [], ◌∷◌, suc, length, Option, refl, cond, arith}
use Rattle.std.specs.Prelude.{sum_by, not, ◌&&◌, ◌==◌}
use Rattle.std.proofs.lemmas.Nat.{mul-le}
use Rattle.std.proofs.lemmas.List.Sums.{sum_by-cons}
use Rattle.std.specs.declared.option.Option.TheVariants.{None, Some}
use Rattle.std.specs.List.{Contains}
use Rattle.run_words.specs.declared.outcome.Outcome.TheVariants.{Wrote, Spent, Gave, Outvoted}
use Rattle.protocol.specs.Setting.{Setting, IsValid, first_stamp}
use Rattle.protocol.specs.Operations.{Outcome}
use Rattle.protocol.specs.World.{World, Record, Accepted, start_world}
use Rattle.protocol.specs.Lines.{Line, IsRun}
use Rattle.protocol.specs.Bounds.{pairs, different, is_among}
use Rattle.protocol.specs.Report.{rounds_of}
use Rattle.protocol.proofs.lemmas.Theorem.{run_keys, run_bounded, run_legal, run_in_time, run_sound}
use Rattle.protocol.proofs.lemmas.Kept.{run_in_order, run_told}
use Rattle.protocol.proofs.lemmas.SpentLies.{records_few as at_most_places}
use Rattle.history_making.specs.Tellings.{AreRecords, IsHistoryOf}
use Rattle.linear_runs.specs.Laws.{IsLinearizable, IsDurablyLinearizable}
use Rattle.script_run.specs.Registers.{AreRegisters}
use Rattle.script_run.specs.Histories.{FitsHistory}
use Rattle.protocol.specs.History.{Entry}
use Rattle.script_run.proofs.Accepting.{accepted_few}
use Rattle.lists.proofs.lemmas.Members.{Contains-head, Contains-rest}

at_most_one : (b : Bool) (k n : ℕ) → k ≤ n → cond b 1 0 + k ≤ suc n
at_most_one true k n h = omega (arith, h)
at_most_one false k n h = omega (arith, h)

different_few : (test : Accepted → Bool) (xs : List Accepted) → different test xs ≤ length xs
different_few test [] = omega arith
different_few test (a ∷ xs) = at_most_one (test a && not (is_among a xs)) (different test xs) (length xs) (different_few test xs)

sum_few : (most : ℕ) (rs : List Record) → ((r : Record) → Contains rs r → rounds_of r.outcome ≤ most) → sum_by (λ r. rounds_of r.outcome) rs ≤ length rs * most
sum_few most [] all = omega arith
sum_few most (r ∷ rs) all =
    let rest = sum_few most rs (λ q k. all q (Contains-rest q r rs k)) in
    let first = all r (Contains-head r rs) in
    let cons = sum_by-cons (λ (x : Record). rounds_of x.outcome) r rs in
    let e : (suc (length rs)) * most ≡ most + length rs * most = grind (arith) in
    omega (arith, rest, first, cons, e)

module _ (s : Setting) (lines : List (ℕ × Line)) (w : World) (good : IsValid s) (run : IsRun s lines w) (low : w.place < 2 ^ 31 - 1) where
  all_accepted : length w.accepted ≤ w.place
  all_accepted = accepted_few s lines (start_world s) w run (omega arith)

  read_few : (r : Record) → Contains w.records r → rounds_of r.outcome ≤ 2 * w.place + 1
  read_few r there = at r.outcome refl
    where
      at : (o : Option Outcome) → r.outcome ≡ o → rounds_of o ≤ 2 * w.place + 1
      at None e = omega arith
      at (Some (Wrote stamp)) e = omega arith
      at (Some Spent) e = omega arith
      at (Some (Outvoted nodes)) e = omega arith
      at (Some (Gave stamp value how rounds)) e =
          let bound : rounds ≤ 2 * pairs w r.block + 1 = (run_bounded s lines w good run).completed r stamp value how rounds there e in
          let some : pairs w r.block ≤ length w.accepted = different_few (λ a. a.block == r.block) w.accepted in
          let all = all_accepted in
          omega (arith, bound, some, all)

  records_few : length w.records ≤ w.place + 1
  records_few = let few = at_most_places s lines w good run in omega (arith, few)

  rounds_few : sum_by (λ (r : Record). rounds_of r.outcome) w.records < 2 ^ 64
  rounds_few =
      let sum = sum_few (2 * w.place + 1) w.records read_few in
      let few = records_few in
      let most : length w.records * (2 * w.place + 1) ≤ 2147483648 * 4294967295 = mul-le (length w.records) (2 * w.place + 1) 2147483648 4294967295 (omega (arith, few, low)) (omega (arith, low)) in
      omega (arith, sum, most)

  -- a run of not too many lines has few records
  pub few_records : FitsHistory w
  few_records = record { places = omega (arith, low); records = (let few = records_few in omega (arith, few, low)); rounds = rounds_few }

module _ (s : Setting) (lines : List (ℕ × Line)) (w : World) (good : IsValid s) (run : IsRun s lines w) (few : FitsHistory w) where
  pub are_records : AreRecords w.records (first_stamp s)
  are_records = record {
    keys = run_keys s lines w good run;
    starts = run_in_order s lines w good run;
    ended = λ r k. (run_told s lines w good run r k).ended;
    outcome = λ r k. (run_told s lines w good run r k).outcome;
    few = few.records;
    rounds = few.rounds;
  }

  -- what holds of the history of every run
  pub are_registers : IsLinearizable s w → IsDurablyLinearizable s w → (h : List Entry) → IsHistoryOf w.records (first_stamp s) h → AreRegisters s w h
  are_registers linear durable h is = record {
    linearizable = linear;
    durable = durable;
    legal = λ apart. run_legal s lines w good run h apart (is.sorted, is.entries);
    in_time = λ apart. run_in_time s lines w good run h apart (is.sorted, is.entries);
    sound = run_sound s lines w good run h (is.sorted, is.entries);
  }
