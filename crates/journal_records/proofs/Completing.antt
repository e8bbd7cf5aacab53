-- The history of a plan's run has each operation of each client that neither lies nor crashed.
use Rattle.std.proofs.Common.{◌≡◌, ℕ, ◌+◌, Bool, true, false, List, ◌++◌, length, map, Option, option_map, refl, sym, ◌∙◌, ap, subst, inl, inr, append-nil}
use Rattle.std.specs.Prelude.{slice_get, ◌↔◌}
use Rattle.std.specs.declared.option.Option.TheVariants.{Some}
use Rattle.std.specs.List.{Contains}
use Rattle.std.proofs.lemmas.List.{length-map}
use Rattle.std.proofs.lemmas.Option.{slice_get-map}
use Rattle.quorum_rules.specs.Limits.{Numbers}
use Rattle.wire_forms.specs.Liars.{Liars, has_number}
use Rattle.wire_forms.specs.declared.op.Op.{Op}
use Rattle.block_device.specs.declared.steps.BlockStep.{BlockStep}
use Rattle.block_device.specs.declared.steps.BlockStep.TheVariants.{Read, Whole, Merge}
use Rattle.block_device.specs.Device.{merged}
use Rattle.block_device.specs.Latest.{latest_read}
use Rattle.block_device.specs.Ops.{op_of, value_of}
use Rattle.run_words.specs.declared.outcome.Outcome.{Outcome}
use Rattle.run_words.specs.declared.outcome.Outcome.TheVariants.{Wrote, Spent, Gave, Outvoted}
use Rattle.protocol.specs.Setting.{first_stamp}
use Rattle.protocol.specs.Operations.{Work}
use Rattle.protocol.specs.Operations.Work.{Reads, Writes}
use Rattle.protocol.specs.World.{World, Record, stamp_of_outcome}
use Rattle.protocol.specs.Facts.{IsTold, IsOutcomeOf}
use Rattle.protocol.specs.History.{Entry, read_entry, write_entry, IsRead, IsWrite, IsEntry}
use Rattle.protocol.specs.Bounds.{IsLow}
use Rattle.protocol.specs.Instance.{InEachRun}
use Rattle.protocol.specs.Laws.{RecordsAreTold, SpentAreThese}
use Rattle.journals.specs.declared.desk.DeskAct.{DeskAct}
use Rattle.journals.specs.declared.desk.DeskAct.TheVariants.{Start}
use Rattle.journals.specs.Desks.{Ended, DeskKept, new_desk, desk_after_all}
use Rattle.journals.specs.declared.whole.Journals.{Journals}
use Rattle.journals.specs.Journals.{setting_for, at_desk}
use Rattle.journals.specs.Agreement.{ended_record}
use Rattle.journals.specs.Records.{client_records}
use Rattle.journals.specs.Merged.{OfMerged, AllRecorded}
use Rattle.plan_words.specs.declared.plan.Plan.{Plan}
use Rattle.plan_followed.specs.Asked.{steps_for, conduct_of, client_crash}
use Rattle.plan_followed.specs.Laws.{PlansRun}
use Rattle.plan_followed.specs.Clients.{ClientFollows, IsDone, IsFinished, IsNextStart, GoesByPlan, client_after, starts, asks, times}
use Rattle.plan_followed.specs.Followed.{AreOfPlan, FollowsAs}
use Rattle.journal_records.specs.Shown.{ended_by, IsOf, IsShown, HasCrashed, IsSteady, HistoriesAreComplete}
use Rattle.journal_records.proofs.Operations.{What, of_op, of_ended, of_task, begun_all, started_in, started_count, kth_started}
use Rattle.journal_records.proofs.lemmas.Ongoing.{some_once}
use Rattle.journal_records.proofs.Crashes.{down_by, down_has}

-- an operation of a step is of that step
is_of : (size client : ℕ) (records : List Record) (step : BlockStep) (x : Ended) (op : Op) → op ≡ op_of size client records step → of_ended x ≡ of_op op → IsOf step x
is_of size client records (Read block) x op e f =
    let p : of_ended x ≡ (block, Reads) = f ∙ ap of_op e in
    (ap (λ (w : What). w.0) p, ap (λ (w : What). w.1) p)
is_of size client records (Whole block value) x op e f =
    let p : of_ended x ≡ (block, Writes value) = f ∙ ap of_op e in
    (ap (λ (w : What). w.0) p, ap (λ (w : What). w.1) p)
is_of size client records (Merge block at bytes) x op e f =
    let value = merged (value_of size (latest_read client block records)) at bytes in
    let p : of_ended x ≡ (block, Writes value) = f ∙ ap of_op e in
    (ap (λ (w : What). w.0) p, value, ap (λ (w : What). w.1) p)

-- whoever crashed made as many asks as it may
module _ (plan : Plan) (j : Journals) (drawn : ℕ) (h : AreOfPlan plan j drawn) (c : ℕ) (right : has_number plan.liars.clients c ≡ false) where
  pub correct : has_number j.liars.clients c ≡ false
  correct = ap (λ (l : Liars). has_number l.clients c) h.follows.are_for.liars ∙ right

  pub follows : ClientFollows plan c h.follows.phases (at_desk j c)
  follows = subst (λ (b : Bool). FollowsAs b plan h.follows.phases c (at_desk j c)) right (h.follows.clients c)

  pub crash_planned : HasCrashed j c → client_crash plan.rules c ≡ Some (times asks (at_desk j c))
  crash_planned crashed = at follows.done
    where
      at : IsDone plan c (steps_for plan.config c plan.work) (at_desk j c) → client_crash plan.rules c ≡ Some (times asks (at_desk j c))
      at (inl finished) =
          let up : (client_after plan c (at_desk j c)).crashed ≡ false = finished.up in
          let down : (client_after plan c (at_desk j c)).crashed ≡ true = down_by (at_desk j c) (new_desk plan.config c) crashed in
          absurd (cc)
      at (inr cut) = cut.count

module _ (plan : Plan) (j : Journals) (drawn : ℕ) (h : AreOfPlan plan j drawn) (c : ℕ) (steady : IsSteady plan j c) where
  steps : List BlockStep
  steps = steps_for plan.config c plan.work

  kept : DeskKept false (new_desk plan.config c) (at_desk j c)
  kept =
      subst (λ (k : Numbers). DeskKept false (new_desk k c) (at_desk j c)) h.follows.are_for.config
      (subst (λ (b : Bool). DeskKept b (new_desk j.config c) (at_desk j c)) (correct plan j drawn h c steady.0) (h.kept.desks c).goes)

  by_done : IsDone plan c (steps_for plan.config c plan.work) (at_desk j c) → IsFinished plan c (steps_for plan.config c plan.work) (at_desk j c)
  by_done (inl finished) = finished
  by_done (inr cut) = absurd (steady.1 (down_has (at_desk j c) (new_desk plan.config c) refl cut.down))

  pub finished : IsFinished plan c (steps_for plan.config c plan.work) (at_desk j c)
  finished = by_done (follows plan j drawn h c steady.0).done

  same : ended_by j c ≡ (client_after plan c (at_desk j c)).ended
  same = ap (λ (k : Numbers). (desk_after_all (new_desk k c) (at_desk j c)).ended) h.follows.are_for.config

  all_ended : map of_ended (client_after plan c (at_desk j c)).ended ≡ started_in (at_desk j c)
  all_ended =
      let d = client_after plan c (at_desk j c) in
      sym (append-nil (map of_ended d.ended))
      ∙ ap (λ (o : Option _). map of_ended d.ended ++ of_task o) (sym finished.ended)
      ∙ begun_all (at_desk j c) (new_desk plan.config c) kept

  pub each_ended : length (ended_by j c) ≡ length (steps_for plan.config c plan.work)
  each_ended =
      ap length same
      ∙ sym (length-map (client_after plan c (at_desk j c)).ended of_ended)
      ∙ ap length all_ended
      ∙ sym (started_count (at_desk j c))
      ∙ finished.started

  pub each_is : (k : ℕ) (step : BlockStep) (x : Ended) → slice_get (steps_for plan.config c plan.work) k ≡ Some step → slice_get (ended_by j c) k ≡ Some x → IsOf step x
  each_is k step x at done =
      let es = at_desk j c in
      let d = client_after plan c es in
      let here : slice_get d.ended k ≡ Some x = ap (λ (xs : List Ended). slice_get xs k) (sym same) ∙ done in
      let what : slice_get (started_in es) k ≡ Some (of_ended x) =
      ap (λ (xs : List What). slice_get xs k) (sym all_ended) ∙ slice_get-map of_ended d.ended k ∙ ap (option_map of_ended) here in
      let kth = kth_started es k (of_ended x) what in
      let goes : GoesByPlan plan c kth.before kth.entry.act = (follows plan j drawn h c steady.0).acts kth.before kth.rest kth.entry kth.split in
      let start : IsNextStart plan c (steps_for plan.config c plan.work) kth.before (Start kth.op) =
      subst (λ (a : DeskAct). IsNextStart plan c (steps_for plan.config c plan.work) kth.before a) kth.starts goes.start in
      let place : times starts kth.before ≡ k = started_count kth.before ∙ kth.place in
      let now : slice_get (steps_for plan.config c plan.work) k ≡ Some start.0 = subst (λ (i : ℕ). slice_get (steps_for plan.config c plan.work) i ≡ Some start.0) place start.1 in
      let one : start.0 ≡ step = some_once (slice_get (steps_for plan.config c plan.work) k) start.0 step now at in
      let records = client_records c (client_after plan c kth.before) in
      is_of plan.config.size c records step x kth.op (start.2 ∙ ap (op_of plan.config.size c records) one) kth.is

-- an operation whose record there is stands in the history or among the spent writes
module _ (j : Journals) (w : World) (history : List Entry) (entries : (e : Entry) → Contains history e ↔ IsEntry w.records (first_stamp (setting_for j)) e) (spent : SpentAreThese w.records) (c : ℕ) (x : Ended) (there : Contains w.records (ended_record c x)) (told : IsTold w (ended_record c x)) where
  impossible : (work : Work) (outcome : Outcome) → x.work ≡ work → x.outcome ≡ outcome → IsOutcomeOf work (stamp_of_outcome outcome) (Some outcome)
  impossible work outcome p q =
      subst (λ (z : Work). IsOutcomeOf z (stamp_of_outcome outcome) (Some outcome)) p
      (subst (λ (o : Outcome). IsOutcomeOf x.work (stamp_of_outcome o) (Some o)) q told.outcome)

  by_outcome : (work : Work) (outcome : Outcome) → x.work ≡ work → x.outcome ≡ outcome → IsShown w history c x
  by_outcome Reads (Gave stamp value how rounds) p q =
      let e = read_entry (ended_record c x) stamp value in
      let is : IsRead w.records e = record { read = ended_record c x; there = there; how = how; rounds = rounds; gave = ap (λ (o : Outcome). Some o) q; made = refl } in
      inl (e, (entries e).1 (inl is), record { client = refl; block = refl; start = refl; end = refl })
  by_outcome (Writes value) (Wrote stamp) p q =
      let e = write_entry (ended_record c x) stamp value in
      let is : IsWrite w.records e = record { write = ended_record c x; there = there; writes = p; chose = ap stamp_of_outcome q; stands = inl (ap (λ (o : Outcome). Some o) q); made = refl } in
      inl (e, (entries e).1 (inr (inl is)), record { client = refl; block = refl; start = refl; end = refl })
  by_outcome (Writes value) Spent p q =
      inr ((spent (record { client = c; start = x.start + 1; end = x.end + 1 })).1 (ended_record c x, there, ap (λ (o : Outcome). Some o) q, refl, refl, refl))
  by_outcome Reads (Wrote stamp) p q = absurd (impossible Reads (Wrote stamp) p q)
  by_outcome Reads Spent p q = absurd (impossible Reads Spent p q)
  by_outcome Reads (Outvoted nodes) p q = absurd (impossible Reads (Outvoted nodes) p q)
  by_outcome (Writes value) (Gave stamp given how rounds) p q = absurd (impossible (Writes value) (Gave stamp given how rounds) p q)
  by_outcome (Writes value) (Outvoted nodes) p q = absurd (impossible (Writes value) (Outvoted nodes) p q)

  pub is_shown : IsShown w history c x
  is_shown = by_outcome x.work x.outcome refl refl

pub complete : OfMerged AllRecorded → InEachRun RecordsAreTold → InEachRun IsLow → ((records : List Record) → SpentAreThese records) → PlansRun → HistoriesAreComplete
complete recorded told low spent runs plan j drawn lines w history h merged_lines run is =
    let of = runs plan j drawn h in
    let lying_node = has_number j.liars.nodes in
    let lying_client = has_number j.liars.clients in
    record {
      all = λ c steady. each_ended plan j drawn h c steady;
      each = λ c k step x steady at done. each_is plan j drawn h c steady k step x at done;
      shown = λ c x right there.
          let here : Contains w.records (ended_record c x) = recorded (conduct_of plan.rules) j lines of merged_lines w c x run (correct plan j drawn h c right) there in
          is_shown j w history is.1 (spent w.records) c x here (told j.config lying_node lying_client of.cluster lines w run (ended_record c x) here);
      crashes = λ c right crashed. crash_planned plan j drawn h c right crashed;
      spent = (low j.config lying_node lying_client of.cluster lines w run).spent;
    }
