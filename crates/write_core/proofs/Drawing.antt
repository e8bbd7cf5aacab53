-- What a writer does with the time that it draws.
use Rattle.std.proofs.Common.{◌≡◌, ℕ, ◌+◌, ◌-◌, ◌^◌, true, false, List, length, Option, refl, sym, ◌∙◌, ap, eqb, arith}
use Rattle.std.specs.declared.option.Option.TheVariants.{None, Some}
use Rattle.std.specs.Prelude.{slice_index_or, nat_le, IfSome, IsSomeAnd}
use Rattle.std.proofs.lemmas.Bool.Decides.{nat_tests}
use Rattle.protocol.specs.Messages.{Reply, Tag, Message}
use Rattle.protocol.specs.Setting.{verifier_of}
use Rattle.protocol.specs.Reach.{highest}
use Rattle.protocol.specs.Operations.{time_or_zero, decide, decide_time, drawn_from, value_of}
use Rattle.protocol.specs.Operations.Stage.{Times, Storing}
use Rattle.protocol.specs.Seen.{SeenTask, SeenOperation, Hearing, task_at, by_decision, seen_counted, seen_goes_on}
use Rattle.protocol.specs.Seen.Hearing.{Begins, Ended}
use Rattle.protocol.specs.Instance.{setting}
use Rattle.run_words.specs.declared.outcome.Outcome.TheVariants.{Spent as SpentIt}
use Rattle.operation_core.specs.declared.stage.Storing.{Storing as Stored}
use Rattle.operation_core.specs.declared.stage.Stage.TheVariants.{Storing as Stores}
use Rattle.operation_core.specs.Stages.{stage_of, IsEncoded}
use Rattle.operation_core.specs.Counting.{ends_in, hears_in, ended_of, counted_task, next_task, next_in, IsMail, IsBegun}
use Rattle.operation_core.proofs.lemmas.PhaseEnds.{hears_end}
use Rattle.write_core.specs.Times.{time_at}
use Rattle.write_core.specs.Writers.{IsWriter, IsUnder}

some_and : (P : SeenTask → Type 0) (task : Option SeenTask) → IsSomeAnd task P → (t : SeenTask) × (task ≡ Some t) × P t
some_and P None h = absurd h
some_and P (Some t) h = (t, refl, h)

module _ (o : SeenOperation) (writer : IsWriter o) (node : ℕ) (tag : Tag) (reply : Reply) (ends : ends_in o node tag reply ≡ true) (asks : IsSomeAnd o.task (λ t. t.stage ≡ Times))
    (answers : List (Option Reply)) (are : IfSome o.task (λ t. answers ≡ (seen_counted t node reply).answers)) (places : length answers ≡ o.config.n)
    (b : ℕ) (lying : b ≡ o.config.b) (x : ℕ) (drawn : x ≡ time_or_zero (highest nat_le (length answers) (time_at answers) (b + 1))) where
  open_ : (t : SeenTask) × (o.task ≡ Some t) × (t.stage ≡ Times)
  open_ = some_and (λ t. t.stage ≡ Times) o.task asks

  abbrev task : SeenTask
  task = open_.0

  -- the operation that has counted the answer
  abbrev full : SeenTask
  full = seen_counted task node reply

  same : answers ≡ full.answers
  same = rw open_.1 at are

  abbrev heard : Hearing
  heard = hears_in o node tag reply

  -- the phase ends by the time that was drawn
  decides : heard ≡ by_decision (setting o.config) full (decide_time (setting o.config) o.client (value_of task.work) x)
  decides =
      let told : drawn_from (setting o.config) (λ i. slice_index_or full.answers i None) ≡ x =
      ap (λ xs. time_or_zero (highest nat_le o.config.n (time_at xs) (o.config.b + 1))) (sym same)
      ∙ ap (λ n. time_or_zero (highest nat_le n (time_at answers) (o.config.b + 1))) (sym places)
      ∙ ap (λ k. time_or_zero (highest nat_le (length answers) (time_at answers) (k + 1))) (sym lying)
      ∙ sym drawn in
      let is : heard ≡ by_decision (setting o.config) full (decide (setting o.config) o.client (task_at 0 full) task.stage) =
      hears_end o node tag reply ends ∙ ap (λ (t : Option SeenTask). ended_of o.config o.client (counted_task t node reply)) open_.1 in
      is
      ∙ ap (λ stage. by_decision (setting o.config) full (decide (setting o.config) o.client (task_at 0 full) stage)) open_.2
      ∙ ap (λ k. by_decision (setting o.config) full (decide_time (setting o.config) o.client (value_of task.work) k)) told

  pub spent : x ≡ 2 ^ 64 - 1 → heard ≡ Ended SpentIt
  spent last = let e : eqb x (2 ^ 64 - 1) ≡ true = grind (arith, nat_tests) in decides ∙ rw e refl

  module _ (more : x ≡ 2 ^ 64 - 1 → ⊥) (stored : Stored) (under : IsUnder o (x + 1) stored) (encoded : IsEncoded o.config stored) where
    storing : stage_of (Stores stored) ≡ Storing (record { time = x + 1; client = o.client; verifier = verifier_of (setting o.config) (value_of task.work) }) (value_of task.work)
    storing = let u = rw open_.1 at under in λ i. Storing (u.1 i) (u.0 i)

    begins : heard ≡ Begins (seen_goes_on (setting o.config) task (stage_of (Stores stored)))
    begins =
        let e : eqb x (2 ^ 64 - 1) ≡ false = grind (arith, nat_tests) in
        decides ∙ rw (e, storing) refl

    next : next_task o.config o.task (stage_of (Stores stored)) ≡ Some (seen_goes_on (setting o.config) task (stage_of (Stores stored)))
    next = ap (λ (t : Option SeenTask). next_task o.config t (stage_of (Stores stored))) open_.1

    first : task.phase ≡ 1
    first = let w = rw open_.1 at writer in rw open_.2 at w.phase

    pub begun : (messages : List Message) → IsMail (next_in o (stage_of (Stores stored))) messages → IsBegun o heard (Stores stored) messages
    begun messages are_mail = record {
      task = seen_goes_on (setting o.config) task (stage_of (Stores stored));
      begins = begins;
      next = next;
      may = record { fits = encoded; further = rw open_.1 (tt, omega (arith, first)) };
      mail = rw next at are_mail;
    }
