-- The run of a plan whose blocks have one client each has the line of plain registers.
use Rattle.std.proofs.Common.{◌≡◌, ℕ, ◌<◌, Bool, true, false, filter, List, [], ◌∷◌, length, map, Option, refl, sym, ap, ◌∙◌, arith}
use Rattle.std.specs.Prelude.{count_by}
use Rattle.std.specs.declared.option.Option.TheVariants.{None, Some}
use Rattle.std.specs.List.{Contains, flat_map, range_with_len}
use Rattle.std.proofs.lemmas.List.{length-map}
use Rattle.quorum_rules.specs.Limits.{Numbers}
use Rattle.wire_forms.specs.Liars.{has_number}
use Rattle.run_words.specs.declared.outcome.Outcome.TheVariants.{Wrote, Spent, Gave, Outvoted}
use Rattle.cross_sum.specs.Digest.{digest}
use Rattle.text_lines.specs.Lines.{text_of_lines}
use Rattle.protocol.specs.Setting.{first_stamp}
use Rattle.protocol.specs.Instance.{InEachRun}
use Rattle.protocol.specs.Operations.{Work, Outcome}
use Rattle.protocol.specs.Operations.Work.{Reads, Writes}
use Rattle.protocol.specs.World.{World, Record}
use Rattle.protocol.specs.History.{Entry}
use Rattle.protocol.specs.Report.{is_done, is_spent}
use Rattle.protocol.specs.Laws.{RecordsAreTold, StartsAscend}
use Rattle.protocol.specs.Seen.{block_of}
use Rattle.history_making.specs.declared.entry.Counts.{Counts}
use Rattle.history_making.specs.Books.{Book}
use Rattle.history_making.specs.Tellings.{Tells}
use Rattle.history_making.proofs.lemmas.Counted.{count_cons}
use Rattle.soak_loads.specs.Soaks.{plain_line, line_with, soak_text}
use Rattle.soak_loads.specs.Plain.{Deed, deeds_of, is_on, first_register, entries_from, plain_entries, plain_text}
use Rattle.plan_words.specs.declared.plan.Plan.{Plan}
use Rattle.journals.specs.declared.whole.Journals.{Journals}
use Rattle.journals.specs.Journals.{setting_for}
use Rattle.plan_followed.specs.Followed.{AreOfPlan}
use Rattle.plan_followed.specs.Laws.{PlansRun}
use Rattle.journal_records.specs.Shown.{IsComplete, HistoriesAreComplete}
use Rattle.journal_records.specs.Steady.{AreSteady, RecordsAreSteady}
use Rattle.soak_loads.specs.Serial.{IsDone, SerialRunsArePlain, record_deed}
use Rattle.soak_loads.specs.Loads.{HasOwners, OwnersAreDone, OwnersArePlain}
use Rattle.soak_loads.proofs.Parts.{same_length}
use Rattle.soak_loads.proofs.OwnedWork.{deeds_below, steady_client}
use Rattle.soak_loads.proofs.BlockRecords as of_block
use Rattle.lists.proofs.lemmas.Members.{Contains-head, Contains-rest, all_from_members}

-- ---- counts

all_pass : {X : Type 0} (test : X → Bool) (xs : List X) → ((x : X) → Contains xs x → test x ≡ true) → count_by test xs ≡ length xs
all_pass test [] h = refl
all_pass test (x ∷ xs) h =
    let rest = all_pass test xs (λ y there. h y (Contains-rest y x xs there)) in
    count_cons test x xs ∙ rw (h x (Contains-head x xs)) (omega (arith, rest))

none_pass : {X : Type 0} (test : X → Bool) (xs : List X) → ((x : X) → Contains xs x → test x ≡ false) → count_by test xs ≡ 0
none_pass test [] h = refl
none_pass test (x ∷ xs) h =
    let rest = none_pass test xs (λ y there. h y (Contains-rest y x xs there)) in
    count_cons test x xs ∙ rw (h x (Contains-head x xs)) (omega (arith, rest))

counted : (work : Work) (client : ℕ) (outcome : Option Outcome) → IsDone work client outcome → (is_done outcome ≡ true) × (is_spent outcome ≡ false)
counted Reads client None h = absurd h
counted Reads client (Some (Gave stamp value how rounds)) h = (refl, refl)
counted Reads client (Some (Wrote stamp)) h = absurd h
counted Reads client (Some Spent) h = absurd h
counted Reads client (Some (Outvoted nodes)) h = absurd h
counted (Writes value) client None h = absurd h
counted (Writes value) client (Some (Gave stamp given how rounds)) h = absurd h
counted (Writes value) client (Some (Wrote stamp)) h = (refl, refl)
counted (Writes value) client (Some Spent) h = absurd h
counted (Writes value) client (Some (Outvoted nodes)) h = absurd h

-- ---- one run

module _ (plan : Plan) (j : Journals) (drawn : ℕ) (w : World) (h : List Entry) (book : Book) (owners : HasOwners plan) (of_plan : AreOfPlan plan j drawn)
    (steady : AreSteady j w) (complete : IsComplete plan j w h)
    (told : RecordsAreTold (setting_for j) w) (starts : StartsAscend (setting_for j) w)
    (tells : Tells w.records (first_stamp (setting_for j)) h book)
  where
    config : j.config ≡ plan.config
    config = of_plan.follows.are_for.config

    liars : j.liars ≡ plan.liars
    liars = of_plan.follows.are_for.liars

    deeds : (block : ℕ) → map record_deed (of_block.records_on w block) ≡ filter (is_on block) (deeds_of plan.work)
    deeds = of_block.deeds_on plan j w h owners of_plan.fits config liars steady complete told starts

    done : (r : Record) → Contains w.records r → (is_done r.outcome ≡ true) × (is_spent r.outcome ≡ false)
    done r there = counted r.work r.client r.outcome (of_block.done plan j w h owners of_plan.fits config liars steady complete told starts r there)

    as_many : length w.records ≡ length (deeds_of plan.work)
    as_many =
        same_length (λ (r : Record). r.block) (λ (d : Deed). block_of d.op) plan.config.blocks w.records (deeds_of plan.work)
        (all_from_members (λ r. r.block < plan.config.blocks) w.records
        (λ r there. (of_block.owned_record plan j w h owners of_plan.fits config liars steady complete told starts r there).below))
        (deeds_below owners.owner plan.config plan.work owners.owned of_plan.fits.fitting.each_job)
        (λ block. sym (length-map (of_block.records_on w block) record_deed) ∙ ap length (deeds block))

    pub all_done : book.counts.done ≡ length (deeds_of plan.work)
    all_done = ap (λ (c : Counts). c.done) tells.counts ∙ all_pass (λ r. is_done r.outcome) w.records (λ r there. (done r there).0) ∙ as_many

    pub none_spent : book.counts.spent ≡ 0
    none_spent = ap (λ (c : Counts). c.spent) tells.counts ∙ none_pass (λ r. is_spent r.outcome) w.records (λ r there. (done r there).1)

    module _ (number : ℕ)
        (lines : map plain_line book.entries
        ≡ map plain_line (flat_map (λ block. entries_from (first_register j.config.size) (map record_deed (of_block.records_on w block))) (range_with_len 0 j.config.blocks)))
      where
        same_lines : map plain_line book.entries ≡ map plain_line (plain_entries plan.config (deeds_of plan.work))
        same_lines =
            lines
            ∙ (λ i. map plain_line (flat_map (λ block. entries_from (first_register j.config.size) (deeds block i)) (range_with_len 0 j.config.blocks)))
            ∙ ap (λ (c : Numbers). map plain_line (plain_entries c (deeds_of plan.work))) config

        pub plain : soak_text number book ≡ plain_text number plan
        plain = λ i. text_of_lines (line_with number (all_done i) (none_spent i) (digest (text_of_lines (same_lines i))) ∷ [])

-- ---- all

pub owners_done : PlansRun → HistoriesAreComplete → RecordsAreSteady → InEachRun RecordsAreTold → InEachRun StartsAscend → OwnersAreDone
owners_done runs complete steady told starts plan owners j drawn lines w h book of_plan merged run tells =
    let cluster = (runs plan j drawn of_plan).cluster in
    let lying_node = has_number j.liars.nodes in
    let lying_client = has_number j.liars.clients in
    let is_complete = complete plan j drawn lines w h of_plan merged run (tells.history.sorted, tells.history.entries) in
    let are_steady = steady plan j drawn lines w of_plan merged run (steady_client plan j w h owners is_complete) in
    let are_told = told j.config lying_node lying_client cluster lines w run in
    let ascend = starts j.config lying_node lying_client cluster lines w run in (
      all_done plan j drawn w h book owners of_plan are_steady is_complete are_told ascend tells,
      none_spent plan j drawn w h book owners of_plan are_steady is_complete are_told ascend tells,
    )

pub owners_plain : PlansRun → HistoriesAreComplete → RecordsAreSteady → InEachRun RecordsAreTold → InEachRun StartsAscend → InEachRun SerialRunsArePlain → OwnersArePlain
owners_plain runs complete steady told starts serial number plan owners j drawn lines w h book of_plan merged run tells clear =
    let cluster = (runs plan j drawn of_plan).cluster in
    let lying_node = has_number j.liars.nodes in
    let lying_client = has_number j.liars.clients in
    let is_complete = complete plan j drawn lines w h of_plan merged run (tells.history.sorted, tells.history.entries) in
    let are_steady = steady plan j drawn lines w of_plan merged run (steady_client plan j w h owners is_complete) in
    let are_told = told j.config lying_node lying_client cluster lines w run in
    let ascend = starts j.config lying_node lying_client cluster lines w run in
    let config = of_plan.follows.are_for.config in
    let liars = of_plan.follows.are_for.liars in
    plain plan j drawn w h book owners of_plan are_steady is_complete are_told ascend tells number
    (serial j.config lying_node lying_client cluster lines w run h book (of_block.records_on w) clear tells
    (of_block.honest plan j w h owners of_plan.fits config liars are_steady is_complete are_told ascend)
    (of_block.serial plan j w h owners of_plan.fits config liars are_steady is_complete are_told ascend))
