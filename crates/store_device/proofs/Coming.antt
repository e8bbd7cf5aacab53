-- Operations on the way come to their end, phase by phase, where enough nodes are up.
use Rattle.std.proofs.Common.{◌≡◌, ◌⊎◌, inl, inr, ℕ, suc, ◌+◌, ◌<◌, ◌≤◌, Bool, true, false, cond, eqb, List, [], ◌∷◌, length, map, Option, Some, None, Ok, Err, Result, refl, sym, ◌∙◌, ap, subst, arith}
use Rattle.std.specs.List.{AllByRecursion, slice_get, cons_option}
use Rattle.std.specs.Prelude.{All, IfOk, slice_index_or, is_some, sum}
use Rattle.std.proofs.lemmas.List.Elements.{recursion_from_All}
use Rattle.std.proofs.lemmas.Bool.Decides.{nat_tests}
use Rattle.std.proofs.lemmas.Option.{slice_get-map, slice_get_within, get_or_from_slice_get}
use Rattle.std.proofs.lemmas.List.Sums.{sum_by-cons}
use Rattle.std.specs.Option.{option_map}
use Rattle.lists.proofs.lemmas.Members.{at_place}
use Rattle.quorum_rules.specs.Limits.{Numbers, IsValid}
use Rattle.stamp_order.specs.declared.Bound.TheVariants.{All as Every, AtMost, Below}
use Rattle.wire_forms.specs.declared.op.Op.{Op}
use Rattle.protocol.specs.Count.{count}
use Rattle.protocol.specs.Messages.{Ask, Reply}
use Rattle.protocol.specs.Instance.{setting, nobody, IsCluster}
use Rattle.protocol.specs.Laws.{InEachCluster}
use Rattle.protocol.specs.Operations.{Outcome, Stage, Work, is_answered, first_work}
use Rattle.protocol.specs.Operations.Stage.{Times, Versions, Storing}
use Rattle.protocol.specs.Operations.Work.{Reads, Writes}
use Rattle.protocol.specs.Seen.{SeenTask, block_of, work_of}
use Rattle.protocol.proofs.lemmas.Counting.{count_within, nobody_counts}
use Rattle.disk_model.specs.Crash.{Pending, MayLeave}
use Rattle.version_disk.specs.Stored.{Stored}
use Rattle.block_phases.specs.Phases.{Keeps}
use Rattle.block_phases.specs.Phases.{Progress, ask_to, after_phase}
use Rattle.block_phases.specs.Phases.Progress.{UnderWay, Over}
use Rattle.block_phases.specs.Endings.{OperationsAreAsked, PhasesEnd, IsNearer, phases_left, answers_given}
use Rattle.batch_clients.specs.Batches.{Stand, Running, how_many, end_of, stand_after, reply_at, column, ask_by, asks_to, begun, stand_heard, after_answers}
use Rattle.batch_clients.specs.Batches.Stand.{Asks, Ended, Lost}
use Rattle.store_device.specs.Stores.{SeenStore, kept_in, seat_at}
use Rattle.store_device.specs.Told.{AreApart, kept_of}
use Rattle.store_device.specs.Lives.{first_nodes}
use Rattle.store_device.specs.Working.{AreHanded, WorksIn}
use Rattle.store_device.specs.Going.{StandsAt, AreGoing, IsGoing, MayBegin, store_of}
use Rattle.store_device.specs.Answered.{AllCome, AreFew, ComesAt, HaveReplied, IsComing, IsEnough, RepliesIn, has_room, phases_on}
use Rattle.store_device.proofs.Turns.{IsTurn, are_answers}
use Rattle.store_device.proofs.Batches.{IsPlaced, placed_one, are_own, own_asks}
use Rattle.store_device.proofs.Handing.{each_answered}
use Rattle.store_device.proofs.Carrying.{GoFrom}

-- what is said of the phases of each cluster
pub record Endings (c : Numbers) : Type 0 where
  pub begin : OperationsAreAsked (setting c)
  pub phases : PhasesEnd (setting c)

pub honest : (c : Numbers) → IsValid c → IsCluster c nobody
honest c valid = record { config = valid; few = (let e = nobody_counts c.n in omega (arith, e)) }

pub endings_of : InEachCluster OperationsAreAsked → InEachCluster PhasesEnd → (c : Numbers) → IsValid c → Endings c
endings_of begin phases c valid =
    record { begin = begin c nobody nobody (honest c valid); phases = phases c nobody nobody (honest c valid) }

some_left : (n : ℕ) (kept : Keeps) (stage : Stage) → 1 ≤ phases_left n kept stage
some_left n kept Times = omega arith
some_left n kept (Storing stamp value) = omega arith
some_left n kept (Versions Every) = omega arith
some_left n kept (Versions (AtMost stamp)) = omega arith
some_left n kept (Versions (Below stamp)) = omega arith

is_there : {X : Type 0} (o : Option X) → is_some o ≡ true → (x : X) × (o ≡ Some x)
is_there None e = absurd cc
is_there (Some x) e = (x, refl)

module _ {D : Type 0} (start : SeenStore D) where
  abbrev kept_first : Op → Keeps
  kept_first op = kept_of (kept_in start (first_nodes start.config)) (block_of op)

  -- ---- the beginning

  first_left : (op : Op) (work : Work) → phases_left start.config.n (kept_first op) (first_work work) ≤ phases_on start (block_of op)
  first_left op Reads = omega arith
  first_left op (Writes value) = omega arith

  pub all_begin : (ends : Endings start.config) (client : ℕ) (ops : List Op) → AllByRecursion (MayBegin start.config) ops
      → AllCome start 1 ops (begun (setting start.config) client ops)
  all_begin ends client [] may = tt
  all_begin ends client (op ∷ ops) may = (
    record {
      asked = ends.begin (block_of op) 1 (work_of op) may.0.there may.0.fits;
      phase = refl;
      in_time = (let l = first_left op (work_of op) in omega (arith, l));
    },
    all_begin ends (suc client) ops may.1,
  )

  -- ---- the end

  ended_one : (phases : ℕ) (op : Op) (stand : Stand) → ComesAt start phases op stand → phases_on start (block_of op) < 1_000_000
      → (how_many stand ≡ 0) ⊎ (1_000_000 ≤ phases) → is_some (end_of stand) ≡ true
  ended_one phases op (Asks task) come few over = absurd (elim over [
    | inl none ↦ omega (arith, none)
    | inr late ↦ (let l = some_left start.config.n (kept_first op) task.stage in let t = come.in_time in omega (arith, l, t, few, late))
  ])
  ended_one phases op (Ended outcome) come few over = refl
  ended_one phases op Lost come few over = absurd come

  pub all_ended : (phases : ℕ) (ops : List Op) (runs : List Running) → AllCome start phases ops runs → AreFew start ops
      → (sum (map (λ (r : Running). how_many r.stand) runs) ≡ 0) ⊎ (1_000_000 ≤ phases)
      → AllByRecursion (λ (r : Running). is_some (end_of r.stand) ≡ true) runs
  all_ended phases [] [] come few over = tt
  all_ended phases [] (r ∷ runs) come few over = absurd come
  all_ended phases (op ∷ ops) [] come few over = tt
  all_ended phases (op ∷ ops) (r ∷ runs) come few over =
      let all = sum_by-cons (λ (n : ℕ). n) (how_many r.stand) (map (λ (r : Running). how_many r.stand) runs) in (
        ended_one phases op r.stand come.0 few.0 (elim over [ inl none ↦ inl (omega (arith, none, all)) | inr late ↦ inr late ]),
        all_ended phases ops runs come.1 few.1 (elim over [ inl none ↦ inl (omega (arith, none, all)) | inr late ↦ inr late ]),
      )

  -- ---- a phase

  nearer : (phases : ℕ) (op : Op) (task : SeenTask) → IsComing start phases op task → (p : Progress)
      → IsNearer (setting start.config) task (kept_first op) p → ComesAt start (phases + 1) op (stand_after task p)
  nearer phases op task come (Over outcome) near = tt
  nearer phases op task come (UnderWay next) near =
      let other : eqb next.phase task.phase ≡ false = (let e = near.0 in grind (arith, nat_tests)) in
      subst (λ (b : Bool). ComesAt start (phases + 1) op (cond b Lost (Asks next))) (sym other)
      (record {
        asked = near.1;
        phase = (let e = near.0 in let f = come.phase in omega (arith, e, f));
        in_time = (let l = near.2 in let t = come.in_time in omega (arith, l, t));
      })

module _ {D : Type 0} (pending : D → Pending) (seen : D → List ℕ) (moment : D → ℕ) (left_since : D → ℕ → List ℕ → Type 0) (most : D → ℕ)
  where
    -- the operations of a call, from one place to another
    abbrev pub ComeFrom : Numbers → (first : List (Option (Stored D))) → List Running → ℕ → (last : List (Option (Stored D))) → List Running → ℕ
        → Type 0
    ComeFrom c first runs phases last then later =
        (start : SeenStore D) (ops : List Op) (more : ℕ) → IsValid start.config → AreApart ops
        → IsGoing pending seen moment left_since start (store_of c first) ops runs → length ops ≤ more → AllCome start phases ops runs
        → IsEnough seen most more (store_of c last) → AllCome start later ops then

module _ {D : Type 0} (pending : D → Pending) (seen : D → List ℕ) (moment : D → ℕ) (left_since : D → ℕ → List ℕ → Type 0) (most : D → ℕ)
    (counts_now : (disk : D) (t : ℕ) (bytes : List ℕ) → t ≤ moment disk → MayLeave (pending disk) bytes → left_since disk t bytes) where
  module _ (start now then : SeenStore D) (asks : ℕ → List Ask) (answers : List (Option (List Reply)))
      (turn : IsTurn pending seen moment left_since counts_now start now then asks answers)
      (ends : Endings start.config) (more : ℕ)
      (few : (i : ℕ) → i < start.config.n → length (asks i) ≤ more)
      (replied : (i : ℕ) → i < start.config.n → (answer : Option (List Reply)) × (slice_get answers i ≡ Some answer)
      × RepliesIn seen most (length (asks i)) (is_some answer) (seat_at now i) (seat_at then i))
      (enough : start.config.n ≤ count start.config.n (λ i. has_room seen most more (seat_at then i)) + start.config.t) where
    abbrev c : Numbers
    c = start.config

    -- a node that is up then, and has room, answered each ask
    answered : (j : ℕ) (ask : ℕ → Ask) → ((i : ℕ) → slice_get (asks i) j ≡ Some (ask i)) → (i : ℕ) → i < c.n
        → has_room seen most more (seat_at then i) ≡ true → is_answered (slice_index_or (column j answers) i None) ≡ true
    answered j ask asked i below has =
        let h = replied i below in
        let replies = is_there h.0 (h.2 more (few i below) has).1 in
        let e = turn.each i below in
        let same : e.0 ≡ Some replies.0 = (let f = e.1 in let g = h.1 in let k = replies.1 in cc) in
        let long = each_answered pending seen moment left_since (asks i) replies.0 (seat_at now i) (seat_at then i)
        (subst (λ (a : Option (List Reply)). WorksIn pending seen moment left_since (asks i) a (seat_at now i) (seat_at then i)) same e.2) in
        let within = slice_get_within (asks i) j (ask i) (asked i) in
        let reply : (x : Reply) × (slice_get replies.0 j ≡ Some x) = at_place replies.0 j (omega (arith, within, long)) in
        let there : slice_get (column j answers) i ≡ Some (Some reply.0) =
        slice_get-map (reply_at j) answers i ∙ ap (option_map (reply_at j)) (h.1 ∙ ap Some replies.1) ∙ ap Some reply.1 in
        ap is_answered (get_or_from_slice_get (column j answers) i (Some reply.0) None there)

    given : (j : ℕ) (ask : ℕ → Ask) → ((i : ℕ) → slice_get (asks i) j ≡ Some (ask i)) → c.n ≤ answers_given c.n (column j answers) + c.t
    given j ask asked =
        let all = count_within c.n (λ i. has_room seen most more (seat_at then i)) (λ i. is_answered (slice_index_or (column j answers) i None))
        (answered j ask asked) in
        omega (arith, all, enough)

    abbrev asked_of : ℕ → List Running → List Ask
    asked_of i runs = asks_to (setting c) i runs

    abbrev Placed : ℕ → List Running → Type 0
    Placed = IsPlaced pending seen moment left_since start now counts_now then asks answers turn

    one_comes : (phases : ℕ) (op : Op) (client j : ℕ) (stand : Stand) (runs : List Running)
        → StandsAt pending seen moment left_since start now op client stand
        → ((i k : ℕ) (ask : Ask) → slice_get (cons_option (ask_by (setting c) i stand) (asked_of i runs)) k ≡ Some ask
        → slice_get (asks i) (j + k) ≡ Some ask)
        → ComesAt start phases op stand → ComesAt start (phases + 1) op (stand_heard (setting c) j answers client stand)
    one_comes phases op client j (Asks task) runs asking placed come =
        let asked = λ (i : ℕ). subst (λ (m : ℕ). slice_get (asks i) m ≡ Some (ask_to (setting c) task i)) (omega arith)
        (placed i 0 (ask_to (setting c) task i) refl) in
        nearer start phases op task come (after_phase (setting c) client task (column j answers))
        (ends.phases client task (kept_first start op) (column j answers) come.asked
        (are_answers pending seen moment left_since counts_now start now then asks answers turn op client task asking j asked
        (first_nodes c))
        (given j (λ i. ask_to (setting c) task i) asked))
    one_comes phases op client j (Ended outcome) runs ended placed come = tt
    one_comes phases op client j Lost runs lost placed come = absurd come

    all_come : (phases client : ℕ) (ops : List Op) (runs : List Running) (j : ℕ)
        → AreGoing pending seen moment left_since start now client ops runs → Placed j runs → AllCome start phases ops runs
        → AllCome start (phases + 1) ops (after_answers (setting c) j answers runs)
    all_come phases client [] [] j going placed come = tt
    all_come phases client [] (r ∷ runs) j going placed come = absurd going
    all_come phases client (op ∷ ops) [] j going placed come = absurd going
    all_come phases client (op ∷ ops) (r ∷ runs) j going placed come = (
      subst (λ (k : ℕ). ComesAt start (phases + 1) op (stand_heard (setting c) j answers k r.stand)) (sym going.0)
          (one_comes phases op client j r.stand runs going.1 placed come.0),
      all_come phases (suc client) ops runs (j + how_many r.stand) going.2
          (placed_one pending seen moment left_since start now counts_now then asks answers turn j r.stand runs placed) come.1,
    )

  -- operations ask no more than there are of them
  few_asks : (s : SeenStore D) (now : SeenStore D) (client i : ℕ) (ops : List Op) (runs : List Running)
      → AreGoing pending seen moment left_since s now client ops runs → length (asks_to (setting s.config) i runs) ≤ length ops
  few_asks s now client i [] [] going = omega arith
  few_asks s now client i [] (r ∷ runs) going = absurd going
  few_asks s now client i (op ∷ ops) [] going = absurd going
  few_asks s now client i (op ∷ ops) (r ∷ runs) going = at r.stand (few_asks s now (suc client) i ops runs going.2)
    where
      at : (stand : Stand) → length (asks_to (setting s.config) i runs) ≤ length ops
          → length (cons_option (ask_by (setting s.config) i stand) (asks_to (setting s.config) i runs)) ≤ suc (length ops)
      at (Asks task) l = omega (arith, l)
      at (Ended outcome) l = omega (arith, l)
      at Lost l = omega (arith, l)

  module _ (ends : (c : Numbers) → IsValid c → Endings c) where
    pub come_more : (c : Numbers) (first mid last : List (Option (Stored D))) (runs now : List Running) (phases later then : ℕ)
        (answers : List (Option (List Reply))) → GoFrom pending seen moment left_since c first runs mid now
        → ComeFrom pending seen moment left_since most c first runs phases mid now later
        → AreHanded pending seen moment left_since (λ i. asks_to (setting c) i now) answers (store_of c mid) (store_of c last)
        → HaveReplied seen most (λ i. asks_to (setting c) i now) answers (store_of c mid) (store_of c last) → then ≡ later + 1
        → ComeFrom pending seen moment left_since most c first runs phases last (after_answers (setting c) 0 answers now) then
    come_more c first mid last runs now phases later then answers going_on coming handed replied next start ops more valid apart going few
        come enough =
        subst (λ (n : ℕ). AllCome start n ops (after_answers (setting c) 0 answers now)) (sym next)
        (subst (λ (d : Numbers). AllCome start (later + 1) ops (after_answers (setting d) 0 answers now)) (sym same)
        (all_come start (store_of c mid) (store_of c last) asks answers turn (ends start.config valid) more
        (λ i l. let a = few_asks start (store_of c mid) 1 i ops now so_far.operations in omega (arith, a, few))
        (λ i l. replied_there i (subst (λ (d : Numbers). i < d.n) (sym same) l))
        (subst (λ (d : Numbers). d.n ≤ count d.n (λ i. has_room seen most more (seat_at (store_of c last) i)) + d.t) same enough)
        later 1 ops now 0 so_far.operations
        (λ i k ask is. subst (λ (m : ℕ). slice_get (asks i) m ≡ Some ask) (omega arith) is)
        (coming start ops more valid apart going few come (enough_before replied enough))))
      where
        so_far : IsGoing pending seen moment left_since start (store_of c mid) ops now
        so_far = going_on start ops apart going

        same : c ≡ start.config
        same = so_far.config

        asks : ℕ → List Ask
        asks i = asks_to (setting start.config) i now

        handed_there : AreHanded pending seen moment left_since asks answers (store_of c mid) (store_of c last)
        handed_there = subst (λ (d : Numbers). AreHanded pending seen moment left_since (λ i. asks_to (setting d) i now) answers
            (store_of c mid) (store_of c last)) same handed

        replied_there : HaveReplied seen most asks answers (store_of c mid) (store_of c last)
        replied_there = subst (λ (d : Numbers). HaveReplied seen most (λ i. asks_to (setting d) i now) answers (store_of c mid)
            (store_of c last)) same replied

        turn : IsTurn pending seen moment left_since counts_now start (store_of c mid) (store_of c last) asks answers
        turn = record {
          count = handed_there.count ∙ ap (λ (d : Numbers). d.n) same;
          seats = so_far.seats;
          each = λ i l. handed_there.each i (subst (λ (d : Numbers). i < d.n) (sym same) l);
          own = λ i l. own_asks pending seen moment left_since start (store_of c mid) 1 ops now so_far.operations (are_own ops apart) i;
        }

        enough_before : HaveReplied seen most (λ i. asks_to (setting c) i now) answers (store_of c mid) (store_of c last)
            → IsEnough seen most more (store_of c last) → IsEnough seen most more (store_of c mid)
        enough_before replied enough =
            let all = count_within c.n (λ i. has_room seen most more (seat_at (store_of c last) i))
            (λ i. has_room seen most more (seat_at (store_of c mid) i))
            (λ i l has. (
            let a = few_asks start (store_of c mid) 1 i ops now so_far.operations in
            let b : length (asks_to (setting c) i now) ≤ more =
            subst (λ (d : Numbers). length (asks_to (setting d) i now) ≤ more) (sym same) (omega (arith, a, few)) in
            ((replied i l).2 more b has).0)) in
            omega (arith, all, enough)

  -- a call, from what it began to what it tells
  module _ (c d : Numbers) (seats last : List (Option (Stored D))) (ops : List Op) (runs now : List Running) (phases : ℕ) (same : d ≡ c)
      (first : runs ≡ begun (setting c) 1 ops) (one : phases ≡ 1) (valid : IsValid c) (ends : Endings c) (may : All (MayBegin c) ops)
      (apart : AreApart ops) (going : IsGoing pending seen moment left_since (store_of c seats) (store_of d seats) ops runs)
      (ended : (start : SeenStore D) (ops : List Op) (more : ℕ) → IsValid start.config → AreApart ops
      → IsGoing pending seen moment left_since start (store_of d seats) ops runs → length ops ≤ more → AllCome start phases ops runs
      → AreFew start ops → IsEnough seen most more (store_of d last)
      → AllByRecursion (λ (r : Running). is_some (end_of r.stand) ≡ true) now) where
    carried : AreFew (store_of c seats) ops → IsEnough seen most (length ops) (store_of c last)
        → AllByRecursion (λ (r : Running). is_some (end_of r.stand) ≡ true) now
    carried few enough =
        ended (store_of c seats) ops (length ops) valid apart going (omega arith)
        (subst (λ (n : ℕ). AllCome (store_of c seats) n ops runs) (sym one)
        (subst (λ (rs : List Running). AllCome (store_of c seats) 1 ops rs) (sym first)
        (all_begin (store_of c seats) ends 1 ops (recursion_from_All (MayBegin c) ops may)))) few
        (subst (λ (e : Numbers). IsEnough seen most (length ops) (store_of e last)) (sym same) enough)

    all_some : (rs : List Running) → AllByRecursion (λ (r : Running). is_some (end_of r.stand) ≡ true) rs
        → AllByRecursion (λ (o : Option Outcome). is_some o ≡ true) (map (λ (r : Running). end_of r.stand) rs)
    all_some [] all = tt
    all_some (r ∷ rs) all = (all.0, all_some rs all.1)

    pub told_all : {V E : Type 0} (items : V → List (Option Outcome)) (result : Result V E)
        → IfOk result (λ v. items v ≡ map (λ (r : Running). end_of r.stand) now)
        → IfOk result (λ v. AreFew (store_of c seats) ops → IsEnough seen most (length ops) (store_of c last)
        → AllByRecursion (λ (o : Option Outcome). is_some o ≡ true) (items v))
    told_all items (Ok v) are =
        λ few enough. subst (λ (os : List (Option Outcome)). AllByRecursion (λ (o : Option Outcome). is_some o ≡ true) os) (sym are)
        (all_some now (carried few enough))
    told_all items (Err e) are = tt
