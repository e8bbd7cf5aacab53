-- What an answer that ends a phase does to a read.
use Rattle.std.proofs.Common.{◌≡◌, ℕ, ◌-◌, ◌^◌, ◌<◌, true, List, Option, refl, sym, ◌∙◌, ap}
use Rattle.std.specs.declared.option.Option.TheVariants.{None, Some}
use Rattle.std.specs.Prelude.{IfSome}
use Rattle.std.specs.Option.{ForSome}
use Rattle.stamp_order.specs.declared.Stamp.{Stamp}
use Rattle.run_words.specs.declared.outcome.How.{How}
use Rattle.run_words.specs.declared.outcome.Outcome.TheVariants.{Gave, Outvoted as OutvotedBy}
use Rattle.protocol.specs.Messages.{Reply, Tag, Message}
use Rattle.protocol.specs.Setting.{Setting}
use Rattle.protocol.specs.Instance.{setting}
use Rattle.protocol.specs.Operations.{Work, Stage as ModelStage}
use Rattle.protocol.specs.Operations.Work.{Reads}
use Rattle.protocol.specs.Operations.Stage.{Times, Versions, Storing}
use Rattle.protocol.specs.Seen.{SeenTask, SeenOperation, Hearing, task_at, by_decision, ends_phase, seen_counted, seen_goes_on}
use Rattle.protocol.specs.Seen.Hearing.{Ended}
use Rattle.operation_core.specs.declared.stage.Stage.{Stage}
use Rattle.operation_core.specs.Stages.{stage_of}
use Rattle.operation_core.specs.Counting.{ends_in, hears_in, ended_of, counted_task, counted_in, next_task, next_in, rounds_of, FitsWork, GoesOn as GoesOnIn, IsAtEnd, IsMail, IsBegun}
use Rattle.operation_core.proofs.lemmas.PhaseEnds.{hears_end, goes_on_by}
use Rattle.read_core.specs.declared.read_end.ReadEnd.{ReadEnd}
use Rattle.read_core.specs.declared.read_end.ReadEnd.TheVariants.{Outvoted, Gives, GoesOn}
use Rattle.read_core.specs.Ends.{IsReadStage, IsEnd, IsNext, decision_of}
use Rattle.read_core.specs.Readers.{SeenRead, IsReader, EndsPhase, read_with, next_read, after_hearing}

some_task : (s : Setting) (node : ℕ) (tag : Tag) (reply : Reply) (task : Option SeenTask) → ends_phase s task node tag reply ≡ true → (t : SeenTask) × (task ≡ Some t)
some_task s node tag reply None e = absurd (cc)
some_task s node tag reply (Some t) e = (t, refl)

fits_work : (stage : ModelStage) (work : Work) → work ≡ Reads → IsReadStage stage → FitsWork stage work
fits_work Times work reads h = h
fits_work (Versions bound) work reads h = rw reads tt
fits_work (Storing stamp value) work reads h = tt

-- the rounds that are known of an operation under way
pub rounds_told : (task : Option SeenTask) (t : SeenTask) (k : ℕ) → task ≡ Some t → IfSome task (λ u. k ≡ u.rounds) → k ≡ t.rounds
rounds_told task t k e h = rw e at h

module _ (o : SeenOperation) (first : Stamp) (known : ℕ) (reader : IsReader first o known) (node : ℕ) (tag : Tag) (reply : Reply) (ends : ends_in o node tag reply ≡ true) (end : ReadEnd)
    (is : EndsPhase (counted_in o node reply) end) where
  pub under_way : (t : SeenTask) × (o.task ≡ Some t)
  under_way = some_task (setting o.config) node tag reply o.task ends

  abbrev task : SeenTask
  task = under_way.0

  -- the operation that has counted the answer
  abbrev full : SeenTask
  full = seen_counted task node reply

  reads : task.work ≡ Reads
  reads = let r = rw under_way.1 at reader.read in r.reads

  ended : IsEnd o.config full.stage full.answers end
  ended = rw under_way.1 at is

  hears_by : hears_in o node tag reply ≡ by_decision (setting o.config) full (decision_of full.rounds end)
  hears_by =
      hears_end o node tag reply ends
      ∙ ap (λ (t : Option SeenTask). ended_of o.config o.client (counted_task t node reply)) under_way.1
      ∙ ap (by_decision (setting o.config) full) (sym (ended.decides o.client (task_at 0 full) reads refl))

  -- it gives a value after the rounds that it took
  pub gives : (stamp : Stamp) (value : List ℕ) (how : How) → end ≡ Gives stamp value how → hears_in o node tag reply ≡ Ended (Gave stamp value how task.rounds)
  gives stamp value how e = hears_by ∙ ap (λ x. by_decision (setting o.config) full (decision_of full.rounds x)) e

  -- it ends in either way
  pub given : (stamp : Stamp) (value : List ℕ) (how : How) → end ≡ Gives stamp value how → IsAtEnd o
  given stamp value how e = (Gave stamp value how task.rounds, record { node = node; tag = tag; reply = reply; hears = gives stamp value how e })

  pub outvoted : (nodes : List ℕ) → end ≡ Outvoted nodes → IsAtEnd o
  outvoted nodes e = (OutvotedBy nodes, record { node = node; tag = tag; reply = reply; hears = hears_by ∙ ap (λ x. by_decision (setting o.config) full (decision_of full.rounds x)) e })

  pub rounds_are : rounds_of o.task ≡ task.rounds
  rounds_are = ap rounds_of under_way.1

  -- or goes on with a further phase
  module _ (stage : Stage) (e : end ≡ GoesOn stage) where
    further : IsNext o.config stage
    further = rw e at ended.next

    pub begun : ForSome o.task (λ t. t.phase < 2 ^ 64 - 1) → (messages : List Message) → IsMail (next_in o (stage_of stage)) messages → IsBegun o (hears_in o node tag reply) stage messages
    begun few messages mail =
        let next : next_task o.config o.task (stage_of stage) ≡ Some (seen_goes_on (setting o.config) task (stage_of stage)) = ap (λ (t : Option SeenTask). next_task o.config t (stage_of stage)) under_way.1 in
        record {
          task = seen_goes_on (setting o.config) task (stage_of stage);
          begins = hears_by ∙ ap (λ x. by_decision (setting o.config) full (decision_of full.rounds x)) e;
          next = next;
          may = record { fits = further.fits; further = rw under_way.1 (fits_work (stage_of stage) task.work reads further.reads, few task under_way.1) };
          mail = rw next at mail;
        }

-- the read is then as the answer leaves it
pub begun_is : (r new : SeenRead) (h : Hearing) (stage : Stage) (messages : List Message) → IsBegun r.operation h stage messages → new ≡ next_read r (stage_of stage) → new ≡ after_hearing r h
begun_is r new h stage messages b e = e ∙ ap (read_with r) b.next ∙ sym (ap (after_hearing r) b.begins)

-- an answer that ends the phase makes it go on so
pub begun_goes : (o : SeenOperation) (node : ℕ) (tag : Tag) (reply : Reply) (stage : Stage) (messages : List Message) → IsBegun o (hears_in o node tag reply) stage messages → GoesOnIn o stage
begun_goes o node tag reply stage messages b = goes_on_by o (hears_in o node tag reply) stage messages b (record { node = node; tag = tag; reply = reply; hears = refl })
