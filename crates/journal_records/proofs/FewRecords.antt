-- The records of a plan's run are few, and so are the rounds of its reads.
use Rattle.std.proofs.Common.{◌≡◌, ℕ, zero, suc, ◌+◌, ◌*◌, ◌^◌, ◌<◌, ◌≤◌, Bool, true, false, cond, List, [], ◌∷◌, length, map, Option, refl, sym, ◌∙◌, ap, subst, arith, length-append}
use Rattle.std.specs.Prelude.{sum_by, nat_eq, All, ◌==◌}
use Rattle.std.specs.declared.option.Option.TheVariants.{None, Some}
use Rattle.std.specs.List.{Contains, AllByRecursion}
use Rattle.std.specs.Set.{unique_keys}
use Rattle.std.proofs.lemmas.List.{length-map}
use Rattle.std.proofs.lemmas.List.Sums.{sum_by-cons}
use Rattle.std.proofs.lemmas.List.Elements.{All-contains}
use Rattle.std.proofs.lemmas.Option.{slice_get_within}
use Rattle.quorum_rules.specs.Limits.{Numbers}
use Rattle.wire_forms.specs.Liars.{Liars, has_number}
use Rattle.block_device.specs.declared.steps.BlockStep.{BlockStep}
use Rattle.block_device.specs.Ranges.{fault_of}
use Rattle.block_device.specs.Steps.{steps_of}
use Rattle.wire_forms.specs.declared.device.DeviceOp.{DeviceOp}
use Rattle.protocol.specs.World.{Record}
use Rattle.protocol.specs.Report.{Ascend, rounds_of}
use Rattle.protocol.specs.Seen.{SeenTask, started_task}
use Rattle.protocol.proofs.lemmas.Starts.{starts_few}
use Rattle.journals.specs.declared.desk.DeskEntry.{DeskEntry}
use Rattle.journals.specs.declared.desk.DeskAct.{DeskAct}
use Rattle.journals.specs.declared.desk.DeskAct.TheVariants.{Start}
use Rattle.journals.specs.declared.desk.DeskJournal.{DeskJournal}
use Rattle.journals.specs.declared.whole.Journals.{Journals}
use Rattle.journals.specs.Desks.{DeskKept, new_desk, desk_after_all}
use Rattle.journals.specs.Journals.{setting_for, at_desk, AreOfRun}
use Rattle.journals.specs.Agreement.{ended_record}
use Rattle.journals.proofs.lemmas.Lists.{own_entries}
use Rattle.plan_words.specs.declared.plan.Plan.{Plan}
use Rattle.plan_words.specs.declared.job.Job.{Job}
use Rattle.plan_words.specs.declared.job.Job.TheVariants.{Block, Device, Phase}
use Rattle.plan_words.specs.Named.{clients}
use Rattle.plan_words.specs.Plans.{step_count, step_limit, steps_unless, device_fault}
use Rattle.plan_followed.specs.Asked.{steps_for, steps_in, conduct_of}
use Rattle.plan_followed.specs.Clients.{GoesByPlan, IsNextStart, starts, times}
use Rattle.plan_followed.specs.Followed.{AreOfPlan}
use Rattle.plan_followed.specs.Laws.{PlansRun}
use Rattle.journals.specs.Records.{record_of_task, client_records, records_in, told_records}
use Rattle.journal_records.specs.Records.{AreAllRecords}
use Rattle.journal_records.specs.Few.{RecordsFitHistory}
use Rattle.journal_records.proofs.Operations.{of_ended, of_task, begun_by, begun_all, started_in, started_count, kth_started}
use Rattle.journal_records.proofs.Together.{kept_desks, no_records, has_told}
use Rattle.journal_records.proofs.Completing.{follows}
use Rattle.journal_records.proofs.Places.{desk_below}
use Rattle.journal_records.proofs.Rounds.{rounds_told}
use Rattle.journal_records.proofs.Totals.{total, total_is, total_count, total_append, total_within, AreDifferent, once_there}
use Rattle.lists.proofs.lemmas.Members.{Contains-map, Contains-map_cases, Contains-rest, Contains-head, member_of_all, at_place}

-- ---- a client starts no more operations than the plan has

module _ (config : Numbers) (c : ℕ) where
  some_or_none : (b : Bool) (steps : List BlockStep) → length (cond b steps []) ≤ length steps
  some_or_none true steps = omega arith
  some_or_none false steps = omega arith

  device_few : (op : DeviceOp) → fault_of config op ≡ None → length (steps_of config op) ≤ steps_unless config op (fault_of config op)
  device_few op e = rw e (omega arith)

  job_few : (job : Job) → device_fault config job ≡ None → length (steps_in config c job) ≤ step_count config job
  job_few (Block client op) h = some_or_none (c == client) (Rattle.block_device.specs.Ops.step_of op ∷ [])
  job_few (Device client op) h =
      let one = some_or_none (c == client) (steps_of config op) in
      let all = device_few op h in
      omega (arith, one, all)
  job_few Phase h = omega arith

  steps_few : (work : List Job) → AllByRecursion (λ job. device_fault config job ≡ None) work → length (steps_for config c work) ≤ sum_by (step_count config) work
  steps_few [] h = omega arith
  steps_few (job ∷ work) h =
      let one = job_few job h.0 in
      let rest = steps_few work h.1 in
      let both = length-append (steps_in config c job) (steps_for config c work) in
      let sum = sum_by-cons (step_count config) job work in
      omega (arith, one, rest, both, sum)

limit_most : (config : Numbers) → step_limit config ≤ 4000
limit_most config = omega arith

module _ (plan : Plan) (j : Journals) (drawn : ℕ) (h : AreOfPlan plan j drawn) (c : ℕ) (right : has_number plan.liars.clients c ≡ false) where
  started_few : (n : ℕ) → length (started_in (at_desk j c)) ≡ n → n ≤ length (steps_for plan.config c plan.work)
  started_few zero e = omega arith
  started_few (suc m) e =
      let es = at_desk j c in
      let last = at_place (started_in es) m (omega (arith, e)) in
      let kth = kth_started es m last.0 last.1 in
      let goes : GoesByPlan plan c kth.before kth.entry.act = (follows plan j drawn h c right).acts kth.before kth.rest kth.entry kth.split in
      let start : IsNextStart plan c (steps_for plan.config c plan.work) kth.before (Start kth.op) =
      subst (λ (a : DeskAct). IsNextStart plan c (steps_for plan.config c plan.work) kth.before a) kth.starts goes.start in
      let inside = slice_get_within (steps_for plan.config c plan.work) (times starts kth.before) start.0 start.1 in
      let place : times starts kth.before ≡ m = started_count kth.before ∙ kth.place in
      omega (arith, inside, place)

  pub started_most : length (started_in (at_desk j c)) ≤ 4000
  started_most =
      let few = started_few (length (started_in (at_desk j c))) refl in
      let steps = steps_few plan.config c plan.work h.fits.fitting.in_device in
      let all = h.fits.fitting.few.steps in
      let most = limit_most plan.config in
      omega (arith, few, steps, all, most)

open_count : (c place : ℕ) (task : Option SeenTask) → length (record_of_task c (started_task place task)) ≡ length (of_task task)
open_count c place None = refl
open_count c place (Some t) = refl

-- a client has a record of each operation that it started
record_count : (c : ℕ) (config : Numbers) (es : List DeskEntry) → DeskKept false (new_desk config c) es → length (client_records c (desk_after_all (new_desk config c) es)) ≡ length (started_in es)
record_count c config es kept =
    let d = desk_after_all (new_desk config c) es in
    let records = length-append (map (ended_record c) d.ended) (record_of_task c (started_task (d.began + 1) d.client.seen.task)) in
    let begun = length-append (map of_ended d.ended) (of_task d.client.seen.task) in
    let ended = length-map d.ended (ended_record c) in
    let whats = length-map d.ended of_ended in
    let opened = open_count c (d.began + 1) d.client.seen.task in
    let all : length (begun_by d) ≡ length (started_in es) = ap length (begun_all es (new_desk config c) kept) in
    omega (arith, records, begun, ended, whats, opened, all)

-- ---- all clients together

numbers_differ : (xs : List ℕ) → Ascend xs → AreDifferent xs
numbers_differ [] up = tt
numbers_differ (x ∷ xs) up = (λ y k e. let l = member_of_all (λ (z : ℕ). x < z) xs up.0 y k in omega (arith, l, e), numbers_differ xs up.1)

records_differ : (rs : List Record) → Ascend (map (λ r. r.start) rs) → AreDifferent rs
records_differ [] up = tt
records_differ (r ∷ rs) up = (
  λ y k e.
      let l = member_of_all (λ (z : ℕ). r.start < z) (map (λ (q : Record). q.start) rs) up.0 y.start (Contains-map (λ (q : Record). q.start) rs y k) in
      let s = ap (λ (q : Record). q.start) e in
      omega (arith, l, s),
  records_differ rs up.1,
)

all_few : (f : Record → ℕ) (most : ℕ) (config : Numbers) (ds : List DeskJournal) → ((d : DeskJournal) → Contains ds d → total f (records_in config d) ≤ most) → total f (told_records config ds) ≤ length ds * most
all_few f most config [] each = omega arith
all_few f most config (d ∷ ds) each =
    let rest = all_few f most config ds (λ x k. each x (Contains-rest x d ds k)) in
    let one = each d (Contains-head d ds) in
    let both = total_append f (records_in config d) (told_records config ds) in
    let e : (suc (length ds)) * most ≡ most + length ds * most = grind (arith) in
    omega (arith, rest, one, both, e)

told_few : (f : Record → ℕ) (most : ℕ) (b : Bool) (rs : List Record) → (b ≡ true → rs ≡ []) → (b ≡ false → total f rs ≤ most) → total f rs ≤ most
told_few f most true rs none h = subst (λ (l : List Record). total f l ≤ most) (sym (none refl)) (omega arith)
told_few f most false rs none h = h refl

module _ (runs : PlansRun) (plan : Plan) (j : Journals) (drawn : ℕ) (h : AreOfPlan plan j drawn) (low : drawn ≤ 2 ^ 56) where
  order : Ascend (map (λ d. d.client) j.desks)
  order = h.follows.are_for.ascend

  of : AreOfRun (conduct_of plan.rules) j
  of = runs plan j drawn h

  right : (c : ℕ) → has_number j.liars.clients c ≡ false → has_number plan.liars.clients c ≡ false
  right c e = ap (λ (l : Liars). has_number l.clients c) (sym h.follows.are_for.liars) ∙ e

  desks_few : length j.desks ≤ 64
  desks_few =
      let cs = map (λ (d : DeskJournal). d.client) j.desks in
      let names = unique_keys nat_eq (clients plan.rules plan.work) in
      let there : (x : ℕ) → Contains cs x → Contains names x =
      λ x k. let m = Contains-map_cases (λ (d : DeskJournal). d.client) j.desks x k in
      subst (λ (z : ℕ). Contains names z) (sym m.2) (once_there (clients plan.rules plan.work) m.0.client (h.follows.are_for.named m.0 m.1)) in
      let fits = total_within (λ (x : ℕ). 1) cs names (numbers_differ cs order) there in
      let a = total_count cs in
      let b = total_count names in
      let c = length-map j.desks (λ (d : DeskJournal). d.client) in
      let most : length names ≤ 64 = h.fits.fitting.few.clients in
      omega (arith, fits, a, b, c, most)

  module _ (d : DeskJournal) (there : Contains j.desks d) where
    own : at_desk j d.client ≡ d.entries
    own = own_entries j.desks order d there

    count_few : total (λ r. 1) (records_in j.config d) ≤ 4000
    count_few =
        told_few (λ r. 1) 4000 ((setting_for j).lying_client d.client) (records_in j.config d) (no_records (conduct_of plan.rules) j of order d there)
        (λ e.
        let count = record_count d.client j.config d.entries (kept_desks (conduct_of plan.rules) j of order d there e) in
        let most = started_most plan j drawn h d.client (right d.client e) in
        let same = ap (λ (es : List DeskEntry). length (started_in es)) own in
        let all = total_count (records_in j.config d) in
        omega (arith, count, most, same, all))

    entries_few : length d.entries ≤ drawn + 1
    entries_few =
        let up : Ascend (map (λ (e : DeskEntry). e.number) d.entries) = subst (λ (es : List DeskEntry). Ascend (map (λ (e : DeskEntry). e.number) es)) own (h.kept.desks d.client).ascends in
        let below = desk_below j h.pairs order drawn h.numbers d there in
        let few = starts_few drawn (map (λ (e : DeskEntry). e.number) d.entries) up
        (λ y k. let m = Contains-map_cases (λ (e : DeskEntry). e.number) d.entries y k in
        let l = All-contains (λ (e : DeskEntry). e.number < drawn) d.entries m.0 below m.1 in let s = m.2 in omega (arith, l, s)) in
        let e = length-map d.entries (λ (e : DeskEntry). e.number) in
        omega (arith, few, e)

    rounds_few : total (λ r. rounds_of r.outcome) (records_in j.config d) ≤ 72057594037927937
    rounds_few =
        let told = rounds_told d.client (new_desk j.config d.client) d.entries refl refl in
        let few = entries_few in
        omega (arith, told, few, low)

  module _ (records : List Record) (all : AreAllRecords j records) where
    there_told : (r : Record) → Contains records r → Contains (told_records j.config j.desks) r
    there_told r k = let is = all.only r k in has_told j.config j.desks is.desk r is.there is.told

    are_few : (length records < 2 ^ 31) × (sum_by (λ r. rounds_of r.outcome) records < 2 ^ 64)
    are_few =
        let apart = records_differ records all.ascend in
        let desks = desks_few in
        let count = total_within (λ (r : Record). 1) records (told_records j.config j.desks) apart there_told in
        let counts = all_few (λ (r : Record). 1) 4000 j.config j.desks count_few in
        let as_many = total_count records in
        let rounds = total_within (λ (r : Record). rounds_of r.outcome) records (told_records j.config j.desks) apart there_told in
        let sums = all_few (λ (r : Record). rounds_of r.outcome) 72057594037927937 j.config j.desks rounds_few in
        let sum = total_is (λ (r : Record). rounds_of r.outcome) records in
        (omega (arith, count, counts, as_many, desks), omega (arith, rounds, sums, sum, desks))

pub few_records : PlansRun → RecordsFitHistory
few_records runs plan j drawn records h low all = are_few runs plan j drawn h low records all
