-- The records of the last world are those that its clients' journals tell.
use Rattle.std.proofs.Common.{◌≡◌, ◌⊎◌, ℕ, ◌+◌, ◌<◌, ◌≤◌, Bool, true, false, cond, List, [], ◌∷◌, map, Option, refl, sym, ◌∙◌, ap, subst, inl, inr, arith, eqb}
use Rattle.std.specs.declared.option.Option.TheVariants.{None, Some}
use Rattle.std.specs.List.{Contains, AllByRecursion}
use Rattle.std.proofs.lemmas.Bool.Decides.{eqb_tells}
use Rattle.std.proofs.lemmas.List.Elements.{Contains-append_cases, Contains-append_left, Contains-append_right}
use Rattle.protocol.specs.Operations.{Task, Outcome}
use Rattle.protocol.specs.World.{World, Record, open_record}
use Rattle.protocol.specs.Lines.{Line, IsRun}
use Rattle.protocol.specs.Instance.{InEachRun}
use Rattle.protocol.specs.Laws.{StartsAscend}
use Rattle.protocol.specs.Report.{Ascend}
use Rattle.protocol.specs.Seen.{started_task}
use Rattle.wire_forms.specs.Liars.{has_number}
use Rattle.journals.specs.declared.desk.DeskEntry.{DeskEntry}
use Rattle.journals.specs.declared.desk.DeskJournal.{DeskJournal}
use Rattle.journals.specs.Desks.{DeskState, new_desk, desk_after_all}
use Rattle.journals.specs.Steps.{Conduct}
use Rattle.journals.specs.Agreement.{IsEnded, ended_record}
use Rattle.journals.specs.Merged.{OfMerged, AllReach, AllRecorded}
use Rattle.journals.specs.declared.whole.Journals.{Journals}
use Rattle.journals.specs.Journals.{setting_for, entries_of, cluster_at, IsMerge, AreOfRun}
use Rattle.journals.proofs.lemmas.Picks.{same_ascending}
use Rattle.journal_records.specs.Open.{RecordsTellTasks, TasksAreRecorded, RecordsAreOfCorrect}
use Rattle.journals.specs.Records.{record_of_task, client_records, last_desk}
use Rattle.journal_records.specs.Records.{IsDeskRecord, AreAllRecords, WorldsHaveAllRecords, RecordsAreThose}
use Rattle.journal_records.proofs.LastDesks.{limit, desk, desk_is, desk_agrees, first_life, tells_alike}
use Rattle.lists.proofs.lemmas.Members.{Contains-head, Contains-none, Contains-rest, Contains-cons_cases, Contains-one, Contains-map_cases, Contains-map}
use Rattle.journals.proofs.lemmas.Lists.{own_entries}

-- ---- the desk of a client

pub all_above : (m : ℕ) (ds : List DeskJournal) → AllByRecursion (λ k. m < k) (map (λ d. d.client) ds) → (d : DeskJournal) → Contains ds d → m < d.client
all_above m [] h d there = absurd (Contains-none d there)
all_above m (x ∷ ds) h d there =
    let rest = all_above m ds h.1 d in
    elim (Contains-cons_cases d x ds there) [ inl is ↦ subst (λ (y : DeskJournal). m < y.client) (sym is) h.0 | inr later ↦ rest later ]

-- a client has a desk with its entries, or no entry
abbrev HasDesk : List DeskJournal → ℕ → Type 0
HasDesk ds c = (entries_of ds c ≡ []) ⊎ ((d : DeskJournal) × Contains ds d × (d.client ≡ c) × (entries_of ds c ≡ d.entries))

desk_of : (ds : List DeskJournal) (c : ℕ) → HasDesk ds c
desk_of [] c = inl refl
desk_of (x ∷ ds) c = at (eqb_tells x.client c) (desk_of ds c)
  where
    at : ((eqb x.client c ≡ true) × (x.client ≡ c)) ⊎ ((eqb x.client c ≡ false) × (x.client ≡ c → ⊥)) → HasDesk ds c → HasDesk (x ∷ ds) c
    at (inl same) rest = inr (x, Contains-head x ds, same.1, ap (λ (b : Bool). cond b x.entries (entries_of ds c)) same.0)
    at (inr other) (inl none) = inl (ap (λ (b : Bool). cond b x.entries (entries_of ds c)) other.0 ∙ none)
    at (inr other) (inr q) = inr (q.0, Contains-rest q.0 x ds q.1, q.2, ap (λ (b : Bool). cond b x.entries (entries_of ds c)) other.0 ∙ q.3)

-- ---- members of a client's records

of_task : (c : ℕ) (o : Option Task) (r : Record) → Contains (record_of_task c o) r → (t : Task) × (o ≡ Some t) × (r ≡ open_record c t)
of_task c None r h = absurd (Contains-none r h)
of_task c (Some t) r h = (t, refl, Contains-one r (open_record c t) h)

task_there : (c : ℕ) (o : Option Task) (t : Task) → o ≡ Some t → Contains (record_of_task c o) (open_record c t)
task_there c o t e = subst (λ (x : Option Task). Contains (record_of_task c x) (open_record c t)) (sym e) (Contains-head (open_record c t) [])

-- ---- the last world

module _ (reach : OfMerged AllReach) (recorded : OfMerged AllRecorded) (tell : InEachRun (λ s w. RecordsTellTasks w)) (kept : InEachRun (λ s w. TasksAreRecorded w)) (correct : InEachRun RecordsAreOfCorrect) (starts : InEachRun StartsAscend)
    (conduct : Conduct) (j : Journals) (lines : List (ℕ × Line)) (w : World) (of_run : AreOfRun conduct j) (order : Ascend (map (λ d. d.client) j.desks)) (merge : IsMerge j lines) (run : IsRun (setting_for j) lines w) where
  -- the client at last
  abbrev last : ℕ → DeskState
  last = desk reach conduct j lines w of_run merge run

  last_is : (d : DeskJournal) → Contains j.desks d → last_desk j.config d ≡ last d.client
  last_is d there = ap (desk_after_all (new_desk j.config d.client)) (sym (own_entries j.desks order d there))

  -- ---- what journals tell is recorded

  ended_or_open : (c : ℕ) (r : Record) → (setting_for j).lying_client c ≡ false → Contains (client_records c (last c)) r → Contains w.records r
  ended_or_open c r right told = elim (Contains-append_cases (map (ended_record c) (last c).ended) (record_of_task c (started_task ((last c).began + 1) (last c).client.seen.task)) r told) [
    | inl ended ↦ (let x = Contains-map_cases (ended_record c) (last c).ended r ended in
        subst (λ (y : Record). Contains w.records y) (sym x.2) (recorded conduct j lines of_run merge w c x.0 run right x.1))
    | inr going ↦ (let t = of_task c (started_task ((last c).began + 1) (last c).client.seen.task) r going in
        let busy : w.task c ≡ Some t.0 = (desk_agrees reach conduct j lines w of_run merge run c right).task ∙ t.1 in
        subst (λ (y : Record). Contains w.records y) (sym t.2) (kept j.config (has_number j.liars.nodes) (has_number j.liars.clients) of_run.cluster lines w run c t.0 busy))
  ]

  told_are_there : (r : Record) → IsDeskRecord j r → Contains w.records r
  told_are_there r h = ended_or_open h.desk.client r h.correct (subst (λ (d : DeskState). Contains (client_records h.desk.client d) r) (last_is h.desk h.there) h.told)

  -- ---- what is recorded a journal tells

  -- a client that left a record has a desk
  by_desk : (c : ℕ) (r : Record) → (setting_for j).lying_client c ≡ false → Contains (client_records c (last c)) r → IsDeskRecord j r
  by_desk c r right told = elim (desk_of j.desks c) [
    | inl none ↦ absurd (Contains-none r (subst (λ (es : List DeskEntry). Contains (client_records c (desk_after_all (new_desk j.config c) es)) r) none told))
    | inr q ↦ record {
      desk = q.0;
      there = q.1;
      correct = ap (setting_for j).lying_client q.2 ∙ right;
      told = subst (λ (d : DeskState). Contains (client_records q.0.client d) r) (sym (last_is q.0 q.1)) (subst (λ (k : ℕ). Contains (client_records k (last k)) r) (sym q.2) told);
    }
  ]

  of_ended : (r : Record) → IsEnded (setting_for j) (cluster_at conduct j (limit reach conduct j lines w of_run merge run)) r → IsDeskRecord j r
  of_ended r h =
      let c = h.client in
      let there : Contains (last c).ended h.operation = subst (λ (d : DeskState). Contains d.ended h.operation) (desk_is reach conduct j lines w of_run merge run c) h.there in
      let told : Contains (client_records c (last c)) (ended_record c h.operation) =
      Contains-append_left (map (ended_record c) (last c).ended) (record_of_task c (started_task ((last c).began + 1) (last c).client.seen.task)) (ended_record c h.operation)
      (Contains-map (ended_record c) (last c).ended h.operation there) in
      by_desk c r h.correct (subst (λ (x : Record). Contains (client_records c (last c)) x) (sym h.is) told)

  of_open : (r : Record) → (setting_for j).lying_client r.client ≡ false → ((t : Task) × (w.task r.client ≡ Some t) × (r ≡ open_record r.client t)) ⊎ (1 ≤ w.life r.client) → IsDeskRecord j r
  of_open r right (inl q) =
      let c = r.client in
      let busy = sym (desk_agrees reach conduct j lines w of_run merge run c right).task ∙ q.1 in
      let told : Contains (client_records c (last c)) (open_record c q.0) =
      Contains-append_right (map (ended_record c) (last c).ended) (record_of_task c (started_task ((last c).began + 1) (last c).client.seen.task)) (open_record c q.0)
      (task_there c (started_task ((last c).began + 1) (last c).client.seen.task) q.0 busy) in
      by_desk c r right (subst (λ (x : Record). Contains (client_records c (last c)) x) (sym q.2) told)
  of_open r right (inr back) = let e = first_life reach conduct j lines w of_run merge run r.client right in absurd (omega (arith, e, back))

  by_outcome : (r : Record) → Contains w.records r → (o : Option Outcome) → r.outcome ≡ o → IsDeskRecord j r
  by_outcome r there (Some outcome) e = of_ended r ((tells_alike reach conduct j lines w of_run merge run).told r outcome there e)
  by_outcome r there None e =
      of_open r (correct j.config (has_number j.liars.nodes) (has_number j.liars.clients) of_run.cluster lines w run r there)
      (tell j.config (has_number j.liars.nodes) (has_number j.liars.clients) of_run.cluster lines w run r there e)

  pub all_there : AreAllRecords j w.records
  all_there = record {
    ascend = starts j.config (has_number j.liars.nodes) (has_number j.liars.clients) of_run.cluster lines w run;
    all = told_are_there;
    only = λ r there. by_outcome r there r.outcome refl;
  }

-- the journals have one list of all records
once : (j : Journals) (one other : List Record) → AreAllRecords j one → AreAllRecords j other → one ≡ other
once j one other a b = same_ascending (λ (r : Record). r.start) one other a.ascend b.ascend (λ r h. b.all r (a.only r h)) (λ r h. a.all r (b.only r h))

pub worlds_have : OfMerged AllReach → OfMerged AllRecorded → InEachRun (λ s w. RecordsTellTasks w) → InEachRun (λ s w. TasksAreRecorded w) → InEachRun RecordsAreOfCorrect → InEachRun StartsAscend → WorldsHaveAllRecords
worlds_have reach recorded tell kept correct starts conduct j lines w of_run order merge run = all_there reach recorded tell kept correct starts conduct j lines w of_run order merge run

pub records_are : WorldsHaveAllRecords → RecordsAreThose
records_are had conduct j lines w records of_run order merge run all = once j w.records records (had conduct j lines w of_run order merge run) all
