-- All operations of a call, one by one: how they begin, go on, and are told.
use Rattle.std.proofs.Common.{◌≡◌, ◌≢◌, inl, ℕ, suc, ◌+◌, ◌≤◌, List, [], ◌∷◌, length, map, Option, Some, None, refl, sym, ◌∙◌, ap, subst, arith}
use Rattle.std.specs.List.{All, AllByRecursion, cons_option, slice_get}
use Rattle.quorum_rules.specs.Limits.{Numbers}
use Rattle.wire_forms.specs.declared.op.Op.{Op}
use Rattle.protocol.specs.Messages.{Ask, Reply}
use Rattle.protocol.specs.Instance.{setting}
use Rattle.protocol.specs.Seen.{block_of, work_of}
use Rattle.disk_model.specs.Crash.{Pending, MayLeave}
use Rattle.node_core.specs.Seen.{versions_in}
use Rattle.block_phases.specs.Phases.{ask_to, after_phase}
use Rattle.block_phases.specs.Executions.{StampedValue, value_stored}
use Rattle.block_phases.proofs.lemmas.Executing.{operations_begin, operations_cut_off}
use Rattle.batch_clients.specs.Batches.{Stand, Running, how_many, end_of, column, ask_by, asks_to, begun, stand_heard, after_answers}
use Rattle.batch_clients.specs.Batches.Stand.{Asks, Ended, Lost}
use Rattle.store_device.specs.Stores.{SeenStore, Nodes, IsFound, IsLeft, IsStore, kept_in, seat_at, down_in}
use Rattle.store_device.specs.Told.{kept_of, AreApart, AreDone, IsTold, untold}
use Rattle.store_device.specs.Going.{IsUntouched, HasCome, StandsAt, AreGoing, IsGoing, MayBegin}
use Rattle.store_device.proofs.Asked.{AreForOwn, AreNotFor}
use Rattle.store_device.proofs.Seats.{found_is_left, has_begun, left_at_first}
use Rattle.store_device.proofs.Turns.{IsTurn, gone_on, stays_untouched, lost_stays, end_stays, stands}

-- the operations are on blocks of their own, by recursion
abbrev pub AreOwn : List Op → Type 0
AreOwn [] = Unit {0}
AreOwn (op ∷ ops) = AllByRecursion (λ (o : Op). block_of op ≢ block_of o) ops × AreOwn ops

all_of : {X : Type 0} (P : X → Type 0) (xs : List X) → All P xs → AllByRecursion P xs
all_of P [] all = tt
all_of P (x ∷ xs) all = (all 0 x (omega arith), all_of P xs (λ k d l. all (suc k) d (omega arith)))

pub are_own : (ops : List Op) → AreApart ops → AreOwn ops
are_own [] apart = tt
are_own (op ∷ ops) apart = (
  all_of (λ (o : Op). block_of op ≢ block_of o) ops (λ k d l. apart 0 (suc k) d (omega arith) (omega arith)),
  are_own ops (λ i j d l m. apart (suc i) (suc j) d (omega arith) (omega arith)),
)

module _ {D : Type 0} (pending : D → Pending) (seen : D → List ℕ) (moment : D → ℕ) (left_since : D → ℕ → List ℕ → Type 0)
    (start now : SeenStore D) where
  abbrev c : Numbers
  c = start.config

  abbrev Going : ℕ → List Op → List Running → Type 0
  Going = AreGoing pending seen moment left_since start now

  abbrev asked_of : ℕ → List Running → List Ask
  asked_of i runs = asks_to (setting c) i runs

  -- what one operation asks, and what those after it ask
  abbrev with_ask : ℕ → Stand → List Ask → List Ask
  with_ask i stand rest = cons_option (ask_by (setting c) i stand) rest

  not_for_one : (op : Op) (client i block : ℕ) (stand : Stand) (rest : List Ask)
      → StandsAt pending seen moment left_since start now op client stand → block ≢ block_of op → AreNotFor block rest
      → AreNotFor block (with_ask i stand rest)
  not_for_one op client i block (Asks task) rest asking other none = (λ (same : task.block ≡ block). other (sym same ∙ asking.block), none)
  not_for_one op client i block (Ended outcome) rest ended other none = none
  not_for_one op client i block Lost rest lost other none = none

  -- operations on other blocks ask nothing of a block
  pub not_for : (client : ℕ) (ops : List Op) (runs : List Running) (block : ℕ) → Going client ops runs
      → AllByRecursion (λ (o : Op). block ≢ block_of o) ops → (i : ℕ) → AreNotFor block (asked_of i runs)
  not_for client [] [] block going others i = tt
  not_for client [] (r ∷ runs) block going others i = absurd going
  not_for client (op ∷ ops) [] block going others i = absurd going
  not_for client (op ∷ ops) (r ∷ runs) block going others i = not_for_one op client i block r.stand (asked_of i runs) going.1 others.0
      (not_for (suc client) ops runs block going.2 others.1 i)

  own_one : (op : Op) (client i : ℕ) (stand : Stand) (rest : List Ask) → StandsAt pending seen moment left_since start now op client stand
      → AreNotFor (block_of op) rest → AreForOwn rest → AreForOwn (with_ask i stand rest)
  own_one op client i (Asks task) rest asking none own = (subst (λ (block : ℕ). AreNotFor block rest) (sym asking.block) none, own)
  own_one op client i (Ended outcome) rest ended none own = own
  own_one op client i Lost rest lost none own = own

  -- what they ask is for blocks of their own
  pub own_asks : (client : ℕ) (ops : List Op) (runs : List Running) → Going client ops runs → AreOwn ops → (i : ℕ)
      → AreForOwn (asked_of i runs)
  own_asks client [] [] going own i = tt
  own_asks client [] (r ∷ runs) going own i = absurd going
  own_asks client (op ∷ ops) [] going own i = absurd going
  own_asks client (op ∷ ops) (r ∷ runs) going own i =
      own_one op client i r.stand (asked_of i runs) going.1 (not_for (suc client) ops runs (block_of op) going.2 own.0 i)
      (own_asks (suc client) ops runs going.2 own.1 i)

  module _ (counts_now : (disk : D) (t : ℕ) (bytes : List ℕ) → t ≤ moment disk → MayLeave (pending disk) bytes → left_since disk t bytes)
      (then : SeenStore D) (asks : ℕ → List Ask) (answers : List (Option (List Reply)))
      (turn : IsTurn pending seen moment left_since counts_now start now then asks answers) where
    -- what the operations from this one on ask has its place behind j others
    abbrev pub IsPlaced : ℕ → List Running → Type 0
    IsPlaced j runs = (i k : ℕ) (ask : Ask) → slice_get (asked_of i runs) k ≡ Some ask → slice_get (asks i) (j + k) ≡ Some ask

    -- where none of those asks for its block, no other does
    abbrev AreAlone : List Running → List Op → Type 0
    AreAlone runs ops = AllByRecursion (λ (op : Op). (i : ℕ) → AreNotFor (block_of op) (asked_of i runs) → AreNotFor (block_of op)
        (asks i)) ops

    pub placed_one : (j : ℕ) (stand : Stand) (runs : List Running)
        → ((i k : ℕ) (ask : Ask) → slice_get (with_ask i stand (asked_of i runs)) k ≡ Some ask → slice_get (asks i) (j + k) ≡ Some ask)
        → IsPlaced (j + how_many stand) runs
    placed_one j (Asks task) runs placed i k ask is = subst (λ (m : ℕ). slice_get (asks i) m ≡ Some ask) (omega arith)
        (placed i (suc k) ask is)
    placed_one j (Ended outcome) runs placed i k ask is = subst (λ (m : ℕ). slice_get (asks i) m ≡ Some ask) (omega arith)
        (placed i k ask is)
    placed_one j Lost runs placed i k ask is = subst (λ (m : ℕ). slice_get (asks i) m ≡ Some ask) (omega arith) (placed i k ask is)

    alone_rest : (op : Op) (client : ℕ) (r : Running) (runs : List Running) (os : List Op)
        → StandsAt pending seen moment left_since start now op client r.stand → AllByRecursion (λ (o : Op). block_of op ≢ block_of o) os
        → AreAlone (r ∷ runs) os → AreAlone runs os
    alone_rest op client r runs [] stand others alone = tt
    alone_rest op client r runs (o ∷ os) stand others alone = (
      λ i none. alone.0 i (not_for_one op client i (block_of o) r.stand (asked_of i runs) stand
          (λ (same : block_of o ≡ block_of op). others.0 (sym same)) none),
      alone_rest op client r runs os stand others.1 alone.1,
    )

    one_heard : (op : Op) (client j : ℕ) (stand : Stand) (runs : List Running)
        → StandsAt pending seen moment left_since start now op client stand
        → ((i k : ℕ) (ask : Ask) → slice_get (with_ask i stand (asked_of i runs)) k ≡ Some ask → slice_get (asks i) (j + k) ≡ Some ask)
        → ((i : ℕ) → AreNotFor (block_of op) (with_ask i stand (asked_of i runs)) → AreNotFor (block_of op) (asks i))
        → ((i : ℕ) → AreNotFor (block_of op) (asked_of i runs))
        → StandsAt pending seen moment left_since start then op client (stand_heard (setting c) j answers client stand)
    one_heard op client j (Asks task) runs asking placed alone none =
        stands pending seen moment left_since counts_now start now then asks answers turn op client task asking j
        (λ i. subst (λ (m : ℕ). slice_get (asks i) m ≡ Some (ask_to (setting c) task i)) (omega arith)
        (placed i 0 (ask_to (setting c) task i) refl))
        (after_phase (setting c) client task (column j answers)) refl
    one_heard op client j (Ended outcome) runs ended placed alone none = end_stays pending seen moment left_since counts_now start now
        then asks answers turn op client (λ i. alone i (none i)) outcome ended
    one_heard op client j Lost runs lost placed alone none = lost_stays pending seen moment left_since counts_now start now then asks
        answers turn op client (λ i. alone i (none i)) lost

    -- where all operations stand when the answers are heard
    pub all_heard : (client : ℕ) (ops : List Op) (runs : List Running) (j : ℕ) → Going client ops runs → AreOwn ops → IsPlaced j runs
        → AreAlone runs ops
        → AreGoing pending seen moment left_since start then client ops (after_answers (setting c) j answers runs)
    all_heard client [] [] j going own placed alone = tt
    all_heard client [] (r ∷ runs) j going own placed alone = absurd going
    all_heard client (op ∷ ops) [] j going own placed alone = absurd going
    all_heard client (op ∷ ops) (r ∷ runs) j going own placed alone = (
      going.0,
      subst (λ (k : ℕ). StandsAt pending seen moment left_since start then op client (stand_heard (setting c) j answers k r.stand))
          (sym going.0)
          (one_heard op client j r.stand runs going.1 placed alone.0 (not_for (suc client) ops runs (block_of op) going.2 own.0)),
      all_heard (suc client) ops runs (j + how_many r.stand) going.2 own.1 (placed_one j r.stand runs placed)
          (alone_rest op client r runs ops going.1 own.0 alone.1),
    )

    -- a phase of all operations
    pub goes_on : (ops : List Op) (runs : List Running) → IsGoing pending seen moment left_since start now ops runs → AreApart ops
        → ((i : ℕ) → asks i ≡ asked_of i runs) → then.config ≡ now.config
        → IsGoing pending seen moment left_since start then ops (after_answers (setting c) 0 answers runs)
    goes_on ops runs going apart same config = record {
      config = config ∙ going.config;
      seats = gone_on pending seen moment left_since counts_now start now then asks answers turn;
      operations = all_heard 1 ops runs 0 going.operations (are_own ops apart)
          (λ i k ask is. subst (λ (m : ℕ). slice_get (asks i) m ≡ Some ask) (omega arith)
          (ap (λ (l : List Ask). slice_get l k) (same i) ∙ is))
          (alone ops);
      others = λ block others. stays_untouched pending seen moment left_since counts_now start now then asks answers turn block
          (λ i. subst (AreNotFor block) (sym (same i)) (not_for 1 ops runs block going.operations (turned block ops others) i))
          (going.others block others);
    }
      where
        alone : (os : List Op) → AreAlone runs os
        alone [] = tt
        alone (o ∷ os) = (λ i none. subst (AreNotFor (block_of o)) (sym (same i)) none, alone os)

        turned : (block : ℕ) (os : List Op) → AllByRecursion (λ (o : Op). block_of o ≢ block) os
            → AllByRecursion (λ (o : Op). block ≢ block_of o) os
        turned block [] others = tt
        turned block (o ∷ os) others = (λ (e : block ≡ block_of o). others.0 (sym e), turned block os others.1)

  -- ---- what is told of operations that stand there

  -- what the last phase of each stores
  abbrev stored_one : (op : Op) (client : ℕ) (stand : Stand) → StandsAt pending seen moment left_since start now op client stand → Option StampedValue
  stored_one op client (Asks task) asking = value_stored task.stage
  stored_one op client (Ended outcome) ended = ended.stored
  stored_one op client Lost lost = lost.stored

  abbrev pub stored_all : (client : ℕ) (ops : List Op) (runs : List Running) → Going client ops runs → List (Option StampedValue)
  stored_all client [] [] going = []
  stored_all client [] (r ∷ runs) going = []
  stored_all client (op ∷ ops) [] going = []
  stored_all client (op ∷ ops) (r ∷ runs) going = stored_one op client r.stand going.1 ∷ stored_all (suc client) ops runs going.2

  module _ (counts_now : (disk : D) (t : ℕ) (bytes : List ℕ) → t ≤ moment disk → MayLeave (pending disk) bytes → left_since disk t bytes)
      (gone kept : Nodes) where
    cut_now : (op : Op) (client : ℕ) (stand : Stand) → IsLeft moment left_since start now gone kept
        → (stands : StandsAt pending seen moment left_since start now op client stand)
        → HasCome pending seen moment left_since start now op client None (stored_one op client stand stands) gone kept
    cut_now op client (Asks task) left asking =
        operations_cut_off (setting c) (down_in start) (block_of op) client (work_of op) task (kept_of (kept_in start gone) (block_of op))
        (kept_of (kept_in start gone) (block_of op)) (kept_of kept (block_of op))
        (asking.goes gone) (λ i l. inl (asking.untouched i (gone i) (kept i) l (left i l)))
    cut_now op client (Ended outcome) left ended = ended.left gone kept left
    cut_now op client Lost left lost = lost.left gone kept left

    all_cut : (client : ℕ) (ops : List Op) (runs : List Running) → IsLeft moment left_since start now gone kept
        → (going : Going client ops runs)
        → AreDone c (down_in start) client ops (untold ops) (stored_all client ops runs going) (kept_in start gone) kept
    all_cut client [] [] left going = tt
    all_cut client [] (r ∷ runs) left going = absurd going
    all_cut client (op ∷ ops) [] left going = absurd going
    all_cut client (op ∷ ops) (r ∷ runs) left going = (cut_now op client r.stand left going.1, all_cut (suc client) ops runs left going.2)

    -- a crash leaves operations that weren't told of
    pub cut_off_now : (ops : List Op) (runs : List Running) (going : IsGoing pending seen moment left_since start now ops runs)
        → IsLeft moment left_since start now gone kept
        → IsTold c (down_in start) ops (untold ops) (stored_all 1 ops runs going.operations) (kept_in start gone) kept
    cut_off_now ops runs going left = record {
      done = all_cut 1 ops runs left going.operations;
      others = λ block i others l. going.others
          block others i (gone i) (kept i) l (left i l);
    }

    told_now : (op : Op) (client : ℕ) (stand : Stand) → IsFound pending start now gone kept → IsLeft moment left_since start now gone kept
        → (stands : StandsAt pending seen moment left_since start now op client stand)
        → HasCome pending seen moment left_since start now op client (end_of stand) (stored_one op client stand stands) gone kept
    told_now op client (Asks task) found left asking = cut_now op client (Asks task) left asking
    told_now op client (Ended outcome) found left ended = ended.found gone kept found
    told_now op client Lost found left lost = cut_now op client Lost left lost

    all_told : (client : ℕ) (ops : List Op) (runs : List Running) → IsFound pending start now gone kept
        → IsLeft moment left_since start now gone kept → (going : Going client ops runs)
        → AreDone c (down_in start) client ops (map (λ (r : Running). end_of r.stand) runs) (stored_all client ops runs going)
        (kept_in start gone) kept
    all_told client [] [] found left going = tt
    all_told client [] (r ∷ runs) found left going = absurd going
    all_told client (op ∷ ops) [] found left going = absurd going
    all_told client (op ∷ ops) (r ∷ runs) found left going = (
      told_now op client r.stand found left going.1,
      all_told (suc client) ops
          runs found left going.2,
    )

    -- and the operations are told as they ended
    pub told_as_ended : (ops : List Op) (runs : List Running) (going : IsGoing pending seen moment left_since start now ops runs)
        → IsFound pending start now gone kept
        → IsTold c (down_in start) ops (map (λ (r : Running). end_of r.stand) runs) (stored_all 1 ops runs going.operations)
        (kept_in start gone) kept
    told_as_ended ops runs going found =
        let left : IsLeft moment left_since start now gone kept = λ i l. found_is_left pending seen moment left_since c i counts_now
        (seat_at start i) (seat_at now i) (gone i) (kept i) (going.seats i l) (found i l) in
        record {
          done = all_told 1 ops runs found left going.operations;
          others = λ block i others l. going.others block others i (gone i)
              (kept i) l (left i l);
        }

-- a call begins
module _ {D : Type 0} (pending : D → Pending) (seen : D → List ℕ) (moment : D → ℕ) (left_since : D → ℕ → List ℕ → Type 0)
    (only_now : (disk : D) (bytes : List ℕ) → left_since disk (moment disk) bytes → MayLeave (pending disk) bytes)
    (start : SeenStore D) (store : IsStore pending seen start) where
  untouched : (block : ℕ) → IsUntouched pending seen moment left_since start start block
  untouched block i gone kept l left =
      ap (λ n. versions_in n block) (left_at_first pending seen moment left_since start.config i only_now (seat_at start i) gone kept
      (store.sound i) left)

  all_begin : (client : ℕ) (ops : List Op) → 1 ≤ client → client + length ops ≤ 1001 → AllByRecursion (MayBegin start.config) ops
      → AreGoing pending seen moment left_since start start client ops (begun (setting start.config) client ops)
  all_begin client [] first few may = tt
  all_begin client (op ∷ ops) first few may = (
    refl,
    record {
      block = refl;
      there = may.0.there;
      goes = λ gone. operations_begin (setting start.config) (down_in start) (block_of op) client 1 (work_of op)
          (kept_of (kept_in start gone) (block_of op));
      untouched = untouched (block_of op);
    },
    all_begin (suc client) ops (omega arith) (omega arith) may.1,
  )

  pub has_started : (ops : List Op) → length ops ≤ 64 → AllByRecursion (MayBegin start.config) ops
      → IsGoing pending seen moment left_since start start ops (begun (setting start.config) 1 ops)
  has_started ops few may = record {
    config = refl;
    seats = λ i l. has_begun pending seen moment left_since start.config i (seat_at start i) (store.sound i);
    operations = all_begin 1 ops (omega arith) (omega arith) may;
    others = λ block others. untouched block;
  }
