-- The records of a plan's run are those of the operations that its clients ended, where none of them lies or crashed.
use Rattle.std.proofs.Common.{◌≡◌, ◌⊎◌, ℕ, ◌+◌, ◌≤◌, false, List, Option, refl, sym, ◌∙◌, ap, subst, inl, inr, arith}
use Rattle.std.specs.declared.option.Option.TheVariants.{None, Some}
use Rattle.std.specs.List.{Contains}
use Rattle.quorum_rules.specs.Limits.{Numbers}
use Rattle.wire_forms.specs.Liars.{has_number}
use Rattle.protocol.specs.Operations.{Task, Outcome}
use Rattle.protocol.specs.World.{World, Record, open_record}
use Rattle.protocol.specs.Lines.{Line, IsRun}
use Rattle.protocol.specs.Instance.{InEachRun}
use Rattle.protocol.specs.Seen.{started_task}
use Rattle.journals.specs.Desks.{DeskState, Ended, new_desk, desk_after_all}
use Rattle.journals.specs.declared.whole.Journals.{Journals}
use Rattle.journals.specs.Journals.{setting_for, at_desk, cluster_at, IsMerge, AreOfRun}
use Rattle.journals.specs.Agreement.{IsEnded, ended_record}
use Rattle.journals.specs.Merged.{OfMerged, AllReach, AllRecorded}
use Rattle.journal_records.specs.Open.{RecordsTellTasks}
use Rattle.journal_records.proofs.LastDesks.{limit, desk, desk_is, desk_agrees, first_life, tells_alike}
use Rattle.plan_words.specs.declared.plan.Plan.{Plan}
use Rattle.plan_followed.specs.Asked.{conduct_of}
use Rattle.plan_followed.specs.Followed.{AreOfPlan}
use Rattle.plan_followed.specs.Laws.{PlansRun}
use Rattle.journal_records.specs.Shown.{ended_by}
use Rattle.journal_records.specs.Steady.{AllSteady, AreSteady, RecordsAreSteady}
use Rattle.journal_records.proofs.Completing.{correct, finished}
use Rattle.journal_records.proofs.Turns.{come_in_turn}

module _ (reach : OfMerged AllReach) (recorded : OfMerged AllRecorded) (tell : InEachRun (λ s w. RecordsTellTasks w)) (runs : PlansRun) (plan : Plan) (j : Journals) (drawn : ℕ) (lines : List (ℕ × Line)) (w : World)
    (h : AreOfPlan plan j drawn) (merge : IsMerge j lines) (run : IsRun (setting_for j) lines w) (all : AllSteady plan j) where
  of : AreOfRun (conduct_of plan.rules) j
  of = runs plan j drawn h

  right : (c : ℕ) → (setting_for j).lying_client c ≡ false
  right c = correct plan j drawn h c (all c).0

  -- the client at last
  abbrev last : ℕ → DeskState
  last = desk reach (conduct_of plan.rules) j lines w of merge run

  idle : (c : ℕ) → w.task c ≡ None
  idle c =
      let none : (last c).client.seen.task ≡ None =
      ap (λ (k : Numbers). (desk_after_all (new_desk k c) (at_desk j c)).client.seen.task) h.follows.are_for.config ∙ (finished plan j drawn h c (all c)).ended in
      (desk_agrees reach (conduct_of plan.rules) j lines w of merge run c (right c)).task ∙ ap (started_task ((last c).began + 1)) none

  -- the record is that of an operation that its client ended
  abbrev IsOwned : Record → Type 0
  IsOwned r = (x : Ended) × Contains (ended_by j r.client) x × (r ≡ ended_record r.client x)

  owned : (r : Record) → IsEnded (setting_for j) (cluster_at (conduct_of plan.rules) j (limit reach (conduct_of plan.rules) j lines w of merge run)) r → IsOwned r
  owned r told =
      let who : told.client ≡ r.client = sym (ap (λ (x : Record). x.client) told.is) in
      let there : Contains (ended_by j told.client) told.operation = subst (λ (d : DeskState). Contains d.ended told.operation) (desk_is reach (conduct_of plan.rules) j lines w of merge run told.client) told.there in
      (told.operation, subst (λ (c : ℕ). Contains (ended_by j c) told.operation) who there, subst (λ (c : ℕ). r ≡ ended_record c told.operation) who told.is)

  none_goes_on : (r : Record) → ((t : Task) × (w.task r.client ≡ Some t) × (r ≡ open_record r.client t)) ⊎ (1 ≤ w.life r.client) → ⊥
  none_goes_on r (inl busy) = let e = busy.1 in let f = idle r.client in cc
  none_goes_on r (inr back) = let e = first_life reach (conduct_of plan.rules) j lines w of merge run r.client (right r.client) in omega (arith, back, e)

  own_by : (r : Record) → Contains w.records r → (o : Option Outcome) → r.outcome ≡ o → IsOwned r
  own_by r there (Some outcome) e = owned r ((tells_alike reach (conduct_of plan.rules) j lines w of merge run).told r outcome there e)
  own_by r there None e = absurd (none_goes_on r (tell j.config (has_number j.liars.nodes) (has_number j.liars.clients) of.cluster lines w run r there e))

  are_steady : AreSteady j w
  are_steady = record {
    own = λ r there. own_by r there r.outcome refl;
    there = λ c x there. recorded (conduct_of plan.rules) j lines of merge w c x run (right c) there;
    turns = λ c. come_in_turn (at_desk j c) (new_desk j.config c) refl (h.kept.desks c).ascends;
  }

pub steady : OfMerged AllReach → OfMerged AllRecorded → InEachRun (λ s w. RecordsTellTasks w) → PlansRun → RecordsAreSteady
steady reach recorded tell runs plan j drawn lines w h merge run all = are_steady reach recorded tell runs plan j drawn lines w h merge run all
