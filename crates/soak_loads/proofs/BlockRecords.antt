-- In the run of a plan whose blocks have one client each the operations of each block come one after another, and are done.
use Rattle.std.proofs.Common.{◌≡◌, ℕ, ◌+◌, ◌<◌, ◌≤◌, Bool, true, false, cond, filter, List, [], ◌∷◌, length, map, refl, sym, ap, subst, ◌∙◌, arith}
use Rattle.std.specs.Prelude.{◌==◌, count_by, sum_by}
use Rattle.std.specs.declared.option.Option.TheVariants.{Some}
use Rattle.std.specs.List.{Contains, AllByRecursion}
use Rattle.std.proofs.lemmas.Bool.{eqb-true}
use Rattle.std.proofs.lemmas.Bool.Decides.{nat_tests}
use Rattle.std.proofs.lemmas.List.{length-map}
use Rattle.std.proofs.lemmas.List.Sums.{length-filter, count_by-le-length}
use Rattle.quorum_rules.specs.Limits.{Numbers}
use Rattle.wire_forms.specs.Liars.{Liars, has_number}
use Rattle.wire_forms.specs.declared.op.Op.{Op}
use Rattle.run_words.specs.declared.outcome.Outcome.TheVariants.{Wrote, Spent, Gave, Outvoted}
use Rattle.protocol.specs.Operations.{Work, Outcome}
use Rattle.protocol.specs.Operations.Work.{Reads, Writes}
use Rattle.protocol.specs.World.{World, Record, stamp_of_outcome}
use Rattle.protocol.specs.Facts.{IsOutcomeOf}
use Rattle.protocol.specs.History.{Entry}
use Rattle.protocol.specs.Report.{Ascend}
use Rattle.protocol.specs.Laws.{RecordsAreTold, StartsAscend}
use Rattle.protocol.specs.Seen.{block_of}
use Rattle.soak_loads.specs.Plain.{Deed, deeds_of, is_on}
use Rattle.plan_words.specs.declared.plan.Plan.{Plan}
use Rattle.plan_words.specs.Plans.{Fits, step_count, step_limit}
use Rattle.journals.specs.declared.whole.Journals.{Journals}
use Rattle.journals.specs.Desks.{Ended}
use Rattle.journals.specs.Journals.{setting_for, at_desk}
use Rattle.journals.specs.Agreement.{ended_record}
use Rattle.journals.proofs.lemmas.Picks.{same_ascending}
use Rattle.journal_records.specs.Shown.{ended_by, IsComplete}
use Rattle.journal_records.specs.Steady.{ComeInTurn, AreSteady}
use Rattle.soak_loads.specs.Serial.{IsPast, AreInTurn, IsDone, AreSerial, record_deed}
use Rattle.soak_loads.specs.Loads.{HasOwners}
use Rattle.soak_loads.proofs.Records.{writes_by}
use Rattle.soak_loads.proofs.Bounded.{writes, choices_few, no_lies}
use Rattle.soak_loads.proofs.OwnStamps.{EndsOwn, own_stamps}
use Rattle.soak_loads.proofs.OwnedWork.{ops_for, ops_few, ops_there, as_deed, deeds_are, ended_op, on_its_block, ops_ended}
use Rattle.lists.proofs.lemmas.Members.{Contains-map_cases, Contains-map, filter_is, filter_has, all_from_members}

-- ---- lists

is_equal : (a b : ℕ) → a ≡ b → (a == b) ≡ true
is_equal a b e = grind (arith, nat_tests)

all_filter : {X : Type 0} (P : X → Type 0) (test : X → Bool) (xs : List X) → AllByRecursion P xs → AllByRecursion P (filter test xs)
all_filter P test [] h = tt
all_filter P test (x ∷ xs) h = by (test x) (all_filter P test xs h.1)
  where
    by : (b : Bool) → AllByRecursion P (filter test xs) → AllByRecursion P (cond b (x ∷ filter test xs) (filter test xs))
    by true rest = (h.0, rest)
    by false rest = rest

-- what a filter leaves comes in turn, as all do
turns_filter : (test : Ended → Bool) (xs : List Ended) → ComeInTurn xs → ComeInTurn (filter test xs)
turns_filter test [] h = tt
turns_filter test (x ∷ xs) h = by (test x) (turns_filter test xs h.1)
  where
    by : (b : Bool) → ComeInTurn (filter test xs) → ComeInTurn (cond b (x ∷ filter test xs) (filter test xs))
    by true rest = (all_filter (λ y. x.end < y.start) test xs h.0, rest)
    by false rest = rest

all_starts : (P : ℕ → Type 0) (test : Record → Bool) (rs : List Record) → AllByRecursion P (map (λ r. r.start) rs) → AllByRecursion P (map (λ r. r.start) (filter test rs))
all_starts P test [] h = tt
all_starts P test (r ∷ rs) h = by (test r) (all_starts P test rs h.1)
  where
    by : (b : Bool) → AllByRecursion P (map (λ x. x.start) (filter test rs)) → AllByRecursion P (map (λ x. x.start) (cond b (r ∷ filter test rs) (filter test rs)))
    by true rest = (h.0, rest)
    by false rest = rest

ascend_filter : (test : Record → Bool) (rs : List Record) → Ascend (map (λ r. r.start) rs) → Ascend (map (λ r. r.start) (filter test rs))
ascend_filter test [] h = tt
ascend_filter test (r ∷ rs) h = by (test r) (ascend_filter test rs h.1)
  where
    by : (b : Bool) → Ascend (map (λ x. x.start) (filter test rs)) → Ascend (map (λ x. x.start) (cond b (r ∷ filter test rs) (filter test rs)))
    by true rest = (all_starts (λ n. r.start < n) test rs h.0, rest)
    by false rest = rest

-- the records of operations that come in turn: each is past before the next one starts
module _ (c : ℕ) where
  all_past : (x : Ended) (xs : List Ended) → AllByRecursion (λ y. x.end < y.start) xs → AllByRecursion (IsPast (ended_record c x)) (map (ended_record c) xs)
  all_past x [] h = tt
  all_past x (y ∷ ys) h = ((x.end + 1, refl, (let l = h.0 in omega (arith, l))), all_past x ys h.1)

  past : (xs : List Ended) → ComeInTurn xs → AreInTurn (map (ended_record c) xs)
  past [] h = tt
  past (x ∷ xs) h = (all_past x xs h.0, past xs h.1)

  all_above : (start end : ℕ) → start ≤ end → (xs : List Ended) → AllByRecursion (λ y. end < y.start) xs → AllByRecursion (λ n. start + 1 < n) (map (λ r. r.start) (map (ended_record c) xs))
  all_above start end l [] h = tt
  all_above start end l (y ∷ ys) h = ((let k = h.0 in omega (arith, k, l)), all_above start end l ys h.1)

  ascend_ended : (xs : List Ended) → ComeInTurn xs → AllByRecursion (λ x. x.start ≤ x.end) xs → Ascend (map (λ r. r.start) (map (ended_record c) xs))
  ascend_ended [] h l = tt
  ascend_ended (x ∷ xs) h l = (all_above x.start x.end l.0 xs h.0, ascend_ended xs h.1 l.1)

  -- what they do
  deeds_ended : (block : ℕ) (xs : List Ended) → map record_deed (map (ended_record c) (filter (λ x. x.block == block) xs)) ≡ map (as_deed c) (filter (λ op. block_of op == block) (map ended_op xs))
  deeds_ended block [] = refl
  deeds_ended block (x ∷ xs) =
      by (x.block == block) (deeds_ended block xs)
      ∙ ap (λ (k : ℕ). map (as_deed c) (cond (k == block) (ended_op x ∷ those) those)) (sym (on_its_block x.block x.work))
    where
      those : List Op
      those = filter (λ op. block_of op == block) (map ended_op xs)

      by : (b : Bool) → map record_deed (map (ended_record c) (filter (λ y. y.block == block) xs)) ≡ map (as_deed c) (filter (λ op. block_of op == block) (map ended_op xs))
          → map record_deed (map (ended_record c) (cond b (x ∷ filter (λ y. y.block == block) xs) (filter (λ y. y.block == block) xs)))
          ≡ map (as_deed c) (cond b (ended_op x ∷ filter (λ op. block_of op == block) (map ended_op xs)) (filter (λ op. block_of op == block) (map ended_op xs)))
      by true rest = ap (λ (ds : List Deed). as_deed c (ended_op x) ∷ ds) rest
      by false rest = rest

writes_few : (rs : List Record) → writes rs ≤ length rs
writes_few [] = omega arith
writes_few (r ∷ rs) = let rest = writes_few rs in let one = at_most r.work in omega (arith, rest, one)
  where
    at_most : (work : Work) → writes_by work ≤ 1
    at_most Reads = omega arith
    at_most (Writes value) = omega arith

-- ---- the run

abbrev pub records_on : World → ℕ → List Record
records_on w block = filter (λ r. r.block == block) w.records

module _ (plan : Plan) (j : Journals) (w : World) (history : List Entry) (owners : HasOwners plan) (fits : Fits plan)
    (config : j.config ≡ plan.config) (liars : j.liars ≡ plan.liars)
    (steady : AreSteady j w) (complete : IsComplete plan j w history)
    (told : RecordsAreTold (setting_for j) w) (starts : StartsAscend (setting_for j) w)
  where
    blocks : j.config.blocks ≡ plan.config.blocks
    blocks = ap (λ (c : Numbers). c.blocks) config

    pub honest : (client : ℕ) → (setting_for j).lying_client client ≡ false
    honest client = ap (λ (l : Liars). has_number l.clients client) liars ∙ (owners.reliable client).0

    -- whose an operation is
    owned : (c : ℕ) (x : Ended) → Contains (ended_by j c) x → (c ≡ owners.owner x.block) × (x.block < plan.config.blocks)
    owned c x there =
        let listed : Contains (ops_for c plan.work) (ended_op x) =
        subst (λ (ops : List Op). Contains ops (ended_op x)) (ops_ended plan j w history owners complete c) (Contains-map ended_op (ended_by j c) x there) in
        let is = ops_there owners.owner plan.config c plan.work (ended_op x) owners.owned fits.fitting.each_job listed in
        let same : block_of (ended_op x) ≡ x.block = on_its_block x.block x.work in
        (is.0 ∙ ap owners.owner same, subst (λ (b : ℕ). b < plan.config.blocks) same is.1)

    -- a block's operations, as its client ended them
    abbrev ended_on : ℕ → List Ended
    ended_on block = filter (λ x. x.block == block) (ended_by j (owners.owner block))

    -- a record is that of an operation which its block's client ended
    pub record IsOwned (r : Record) : Type 0 where
      pub operation : Ended
      pub there : Contains (ended_by j (owners.owner r.block)) operation
      pub is : r ≡ ended_record (owners.owner r.block) operation
      pub below : r.block < plan.config.blocks

    pub owned_record : (r : Record) → Contains w.records r → IsOwned r
    owned_record r there =
        let o = steady.own r there in
        let is = owned r.client o.0 o.1 in
        let same : r.block ≡ o.0.block = ap (λ (q : Record). q.block) o.2 in
        let client : r.client ≡ owners.owner r.block = is.0 ∙ ap owners.owner (sym same) in
        record {
          operation = o.0;
          there = subst (λ (c : ℕ). Contains (ended_by j c) o.0) client o.1;
          is = o.2 ∙ ap (λ (c : ℕ). ended_record c o.0) client;
          below = subst (λ (b : ℕ). b < plan.config.blocks) (sym same) is.1;
        }

    starts_first : (c : ℕ) (x : Ended) → Contains (ended_by j c) x → x.start ≤ x.end
    starts_first c x there = let order = ((told (ended_record c x) (steady.there c x there)).end (x.end + 1) refl).0 in omega (arith, order)

    -- the records of a block are those of its client's operations on it, in order
    block_records : (block : ℕ) → records_on w block ≡ map (ended_record (owners.owner block)) (ended_on block)
    block_records block =
        same_ascending (λ (r : Record). r.start) (records_on w block) (map (ended_record c) (ended_on block))
        (ascend_filter (λ r. r.block == block) w.records starts)
        (ascend_ended c (ended_on block) turns (all_filter (λ x. x.start ≤ x.end) (λ x. x.block == block) (ended_by j c) (all_from_members (λ x. x.start ≤ x.end) (ended_by j c) (starts_first c))))
        to from
      where
        c : ℕ
        c = owners.owner block

        turns : ComeInTurn (filter (λ x. x.block == block) (ended_by j (owners.owner block)))
        turns = turns_filter (λ x. x.block == block) (ended_by j (owners.owner block)) (steady.turns (owners.owner block))

        to : (r : Record) → Contains (filter (λ q. q.block == block) w.records) r → Contains (map (ended_record (owners.owner block)) (ended_on block)) r
        to r there =
            let f = filter_is (λ (q : Record). q.block == block) w.records r there in
            let own = owned_record r f.0 in
            let here : r.block ≡ block = eqb-true r.block block f.1 in
            let on : own.operation.block ≡ block = ap (λ (q : Record). q.block) (sym own.is) ∙ here in
            let kept : Contains (ended_on block) own.operation =
            filter_has (λ (x : Ended). x.block == block) (ended_by j (owners.owner block)) own.operation
            (subst (λ (b : ℕ). Contains (ended_by j (owners.owner b)) own.operation) here own.there) (is_equal own.operation.block block on) in
            subst (λ (q : Record). Contains (map (ended_record (owners.owner block)) (ended_on block)) q)
            (sym (own.is ∙ ap (λ (b : ℕ). ended_record (owners.owner b) own.operation) here))
            (Contains-map (ended_record (owners.owner block)) (ended_on block) own.operation kept)

        from : (r : Record) → Contains (map (ended_record (owners.owner block)) (ended_on block)) r → Contains (filter (λ q. q.block == block) w.records) r
        from r there =
            let m = Contains-map_cases (ended_record (owners.owner block)) (ended_on block) r there in
            let f = filter_is (λ (x : Ended). x.block == block) (ended_by j (owners.owner block)) m.0 m.1 in
            subst (λ (q : Record). Contains (filter (λ p. p.block == block) w.records) q) (sym m.2)
            (filter_has (λ (q : Record). q.block == block) w.records (ended_record (owners.owner block) m.0) (steady.there (owners.owner block) m.0 f.0) f.1)

    pub deeds_on : (block : ℕ) → map record_deed (records_on w block) ≡ filter (is_on block) (deeds_of plan.work)
    deeds_on block =
        ap (map record_deed) (block_records block)
        ∙ deeds_ended (owners.owner block) block (ended_by j (owners.owner block))
        ∙ ap (λ (ops : List Op). map (as_deed (owners.owner block)) (filter (λ op. block_of op == block) ops)) (ops_ended plan j w history owners complete (owners.owner block))
        ∙ deeds_are owners.owner block plan.work owners.owned

    all_on : (block : ℕ) (r : Record) → Contains w.records r → r.block ≡ block → Contains (records_on w block) r
    all_on block r there same = filter_has (λ (q : Record). q.block == block) w.records r there (is_equal r.block block same)

    -- ---- no write is spent

    few_on : (block : ℕ) → length (records_on w block) ≤ 4000
    few_on block =
        let c = owners.owner block in
        let xs = ended_by j c in
        let same : length (records_on w block) ≡ length (ended_on block) = ap length (block_records block) ∙ length-map (ended_on block) (ended_record c) in
        let kept : length (ended_on block) ≡ count_by (λ x. x.block == block) xs = length-filter (λ (x : Ended). x.block == block) xs in
        let most : count_by (λ x. x.block == block) xs ≤ length xs = count_by-le-length (λ (x : Ended). x.block == block) xs in
        let ops : length xs ≡ length (ops_for c plan.work) = sym (length-map xs ended_op) ∙ ap length (ops_ended plan j w history owners complete c) in
        let few : length (ops_for c plan.work) ≤ sum_by (step_count plan.config) plan.work = ops_few owners.owner plan.config c plan.work owners.owned in
        let limit : sum_by (step_count plan.config) plan.work ≤ step_limit plan.config = fits.fitting.few.steps in
        omega (arith, same, kept, most, ops, few, limit)

    not_spent : (r : Record) → Contains w.records r → r.outcome ≡ Some Spent → ⊥
    not_spent r there spent =
        let high = complete.spent r there spent in
        let none = no_lies (setting_for j) honest r.block w.pool in
        let few = choices_few r.block w.records (records_on w r.block) starts (λ q i same. all_on r.block q i same) in
        let some = writes_few (records_on w r.block) in
        let most = few_on r.block in
        omega (arith, high, none, few, some, most)

    -- ---- all are done

    done_by : (c : ℕ) (work : Work) (outcome : Outcome) → IsOutcomeOf work (stamp_of_outcome outcome) (Some outcome) → EndsOwn c work outcome → (outcome ≡ Spent → ⊥) → IsDone work c (Some outcome)
    done_by c Reads (Gave stamp value how rounds) is own not = tt
    done_by c Reads (Wrote stamp) is own not = absurd is
    done_by c Reads Spent is own not = absurd is
    done_by c Reads (Outvoted nodes) is own not = absurd is
    done_by c (Writes value) (Wrote stamp) is own not = own
    done_by c (Writes value) Spent is own not = absurd (not refl)
    done_by c (Writes value) (Gave stamp given how rounds) is own not = absurd is
    done_by c (Writes value) (Outvoted nodes) is own not = absurd is

    pub done : (r : Record) → Contains w.records r → IsDone r.work r.client r.outcome
    done r there =
        let own = owned_record r there in
        let c = owners.owner r.block in
        let x = own.operation in
        let here = steady.there c x own.there in
        subst (λ (q : Record). IsDone q.work q.client q.outcome) (sym own.is)
        (done_by c x.work x.outcome (told (ended_record c x) here).outcome (own_stamps j.config c (at_desk j c) x own.there)
        (λ spent. not_spent (ended_record c x) here (ap (λ (o : Outcome). Some o) spent)))

    pub serial : AreSerial (setting_for j) w (records_on w)
    serial = record {
      all = λ r there. ((let b = (owned_record r there).below in omega (arith, b, blocks)), all_on r.block r there refl);
      only = λ block r there. (let f = filter_is (λ (q : Record). q.block == block) w.records r there in (f.0, eqb-true r.block block f.1));
      turns = λ block.
          let c = owners.owner block in
          subst AreInTurn (sym (block_records block)) (past c (ended_on block) (turns_filter (λ x. x.block == block) (ended_by j c) (steady.turns c)));
      done = λ block r there. done r (filter_is (λ (q : Record). q.block == block) w.records r there).0;
    }
