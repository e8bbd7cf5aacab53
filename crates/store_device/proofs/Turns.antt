-- One phase of all operations of a call: what a crash leaves in it, and where they stand after it.
use Rattle.std.proofs.Common.{◌≡◌, ◌≢◌, ◌⊎◌, inl, inr, ℕ, ◌<◌, ◌≤◌, Bool, true, false, cond, not, eqb, List, [], ◌∷◌, length, take, Option, Some, None, refl, sym, ◌∙◌, ap, subst, arith}
use Rattle.std.specs.List.{slice_get}
use Rattle.std.specs.Option.{option_map}
use Rattle.std.proofs.lemmas.Bool.{cases_Bool, cases_lt}
use Rattle.std.proofs.lemmas.Bool.Decides.{nat_tests}
use Rattle.std.proofs.lemmas.Option.{slice_get-map, slice_get_within}
use Rattle.std.proofs.lemmas.List.{length-map}
use Rattle.quorum_rules.specs.Limits.{Numbers}
use Rattle.wire_forms.specs.declared.op.Op.{Op}
use Rattle.protocol.specs.Messages.{Ask, Reply, IsFormedReply}
use Rattle.protocol.specs.Instance.{setting}
use Rattle.protocol.specs.Nodes.{after, reply}
use Rattle.protocol.specs.Operations.{Outcome}
use Rattle.protocol.specs.Seen.{SeenTask, block_of, work_of}
use Rattle.disk_model.specs.Crash.{Pending, MayLeave}
use Rattle.node_core.specs.Seen.{SeenNode, versions_in, after_of, reply_of}
use Rattle.block_phases.specs.Phases.{Keeps, Progress, ask_to, after_phase, AreAnswers, IsAfterPhase, HasDone}
use Rattle.block_phases.specs.Phases.Progress.{UnderWay, Over}
use Rattle.block_phases.specs.Executions.{StampedValue, OnlyPresentAnswer, value_stored}
use Rattle.block_phases.specs.Laws.{ContinuesAs}
use Rattle.block_phases.proofs.lemmas.Executing.{operations_go_on, operations_cut_off}
use Rattle.block_phases.proofs.lemmas.Alike.{completed_alike, given_up_alike}
use Rattle.version_disk.specs.Deeds.{after_asks}
use Rattle.batch_clients.specs.Batches.{stand_after, reply_at, column}
use Rattle.batch_clients.specs.Batches.Stand.{Asks, Lost}
use Rattle.store_device.specs.Stores.{SeenStore, Nodes, IsFound, IsFoundAt, IsLeft, IsLeftAt, kept_in, seat_at, down_in, is_up}
use Rattle.store_device.specs.Told.{kept_of}
use Rattle.store_device.specs.Working.{WorksIn, HasGoneOn}
use Rattle.store_device.specs.Going.{IsUntouched, MayBeCutOff, IsAsking, HasEnded, WasGivenUp, StandsAt}
use Rattle.store_device.proofs.Asked.{AreForOwn, AreNotFor, IsNodeOf, all_take, all_get, stays, reply_among, done_among, few_among}
use Rattle.store_device.proofs.Hearing.{is_storing, quiet, phase_on, storing_stays}
use Rattle.store_device.proofs.Seats.{IsWholly, IsInPart, IsTaken, left_at, found_at, found_is_left, answered_at, answered_up, goes_on}

-- what there is below a number for each is there for all at once
choose : {A : Type 0} (n : ℕ) (d : ℕ → A) (P : ℕ → A → Type 0) → ((i : ℕ) → i < n → (a : A) × P i a)
    → (f : ℕ → A) × ((i : ℕ) → i < n → P i (f i))
choose {A = A} n d P each = (λ i. pick i (cases_lt i n), λ i l. is i l (cases_lt i n))
  where
    pick : (i : ℕ) → (i < n) ⊎ (n ≤ i) → A
    pick i (inl l) = (each i l).0
    pick i (inr past) = d i

    is : (i : ℕ) → i < n → (h : (i < n) ⊎ (n ≤ i)) → P i (pick i h)
    is i l (inl below) = (each i below).1
    is i l (inr past) = absurd (omega arith)

pub take_all : {X : Type 0} (xs : List X) → take (length xs) xs ≡ xs
take_all [] = refl
take_all {X = X} (x ∷ xs) = ap (λ (l : List X). x ∷ l) (take_all xs)

-- an answer in a column is one of a node that answered
pub in_column : (j : ℕ) (answers : List (Option (List Reply))) (i : ℕ) (given : Option Reply) → slice_get (column j answers) i ≡ Some given
    → (answer : Option (List Reply)) × (slice_get answers i ≡ Some answer) × (reply_at j answer ≡ given)
in_column j answers i given is = at (slice_get answers i) refl
  where
    at : (found : Option (Option (List Reply))) → slice_get answers i ≡ found
        → (answer : Option (List Reply)) × (slice_get answers i ≡ Some answer) × (reply_at j answer ≡ given)
    at None e = absurd (let h : None ≡ Some given = sym (slice_get-map (reply_at j) answers i ∙ ap (option_map (reply_at j)) e) ∙ is in cc)
    at (Some answer) e = (
      answer,
      e,
      let h : Some (reply_at j answer) ≡ Some given = sym
          (slice_get-map (reply_at j) answers i ∙ ap (option_map (reply_at j)) e) ∙ is in cc,
    )

module _ {D : Type 0} (pending : D → Pending) (seen : D → List ℕ) (moment : D → ℕ) (left_since : D → ℕ → List ℕ → Type 0)
    (counts_now : (disk : D) (t : ℕ) (bytes : List ℕ) → t ≤ moment disk → MayLeave (pending disk) bytes → left_since disk t bytes)
    (start now then : SeenStore D) (asks : ℕ → List Ask) (answers : List (Option (List Reply))) where
  -- each seat's node was handed its asks, which are for blocks of their own, and these are the answers
  pub record IsTurn : Type 0 where
    pub count : length answers ≡ start.config.n
    pub seats : (i : ℕ) → i < start.config.n → HasGoneOn pending seen moment left_since start.config i (seat_at start i) (seat_at now i)
    pub each : (i : ℕ) → i < start.config.n
        → (answer : Option (List Reply)) × (slice_get answers i ≡ Some answer)
        × WorksIn pending seen moment left_since (asks i) answer (seat_at now i) (seat_at then i)
    pub own : (i : ℕ) → i < start.config.n → AreForOwn (asks i)

  module _ (turn : IsTurn) where
    abbrev c : Numbers
    c = start.config

    abbrev Untouched : ℕ → Type 0
    Untouched = IsUntouched pending seen moment left_since start now

    abbrev UntouchedThen : ℕ → Type 0
    UntouchedThen = IsUntouched pending seen moment left_since start then

    works_as : (i : ℕ) (l : i < c.n) (answer : Option (List Reply)) → slice_get answers i ≡ Some answer
        → WorksIn pending seen moment left_since (asks i) answer (seat_at now i) (seat_at then i)
    works_as i l answer is =
        let e = turn.each i l in
        let same : e.0 ≡ answer = (let h = e.1 in cc) in
        subst (λ (a : Option (List Reply)). WorksIn pending seen moment left_since (asks i) a (seat_at now i) (seat_at then i)) same e.2

    -- what a crash leaves of a node is what it left before, or that when the first few asks are done
    pub left_before : (gone kept : Nodes) → IsLeft moment left_since start then gone kept
        → (before : Nodes) × ((i : ℕ) → i < c.n
        → IsLeftAt moment left_since c i (seat_at start i) (seat_at now i) (gone i) (before i)
        × IsInPart c i (asks i) (before i) (kept i))
    left_before gone kept left =
        choose c.n gone (λ (i : ℕ) (before : SeenNode). IsLeftAt moment left_since c i (seat_at start i) (seat_at now i) (gone i) before
        × IsInPart c i (asks i) before (kept i))
        (λ i l. let e = turn.each i l in let h = left_at pending seen moment left_since c i counts_now (asks i) e.0 (seat_at start i)
        (seat_at now i) (seat_at then i) (gone i) (kept i) (turn.seats i l) e.2 (left i l) in (h.0, (h.1, h.2)))

    pub found_before : (gone kept : Nodes) → IsFound pending start then gone kept
        → (before : Nodes) × ((i : ℕ) → i < c.n → IsFoundAt pending c i (seat_at start i) (seat_at now i) (gone i) (before i)
        × ((answer : Option (List Reply)) → slice_get answers i ≡ Some answer → IsTaken c i (asks i) answer (before i) (kept i)))
    found_before gone kept found =
        choose c.n gone (λ (i : ℕ) (before : SeenNode). IsFoundAt pending c i (seat_at start i) (seat_at now i) (gone i) before
        × ((answer : Option (List Reply)) → slice_get answers i ≡ Some answer → IsTaken c i (asks i) answer before (kept i)))
        (λ i l.
        let e = turn.each i l in
        let h = found_at pending seen moment left_since c i counts_now (asks i) e.0 (seat_at start i) (seat_at now i) (seat_at then i)
        (gone i) (kept i) (turn.seats i l) e.2 (found i l) in (
          h.0,
          (
            h.1,
            λ (answer : Option (List Reply)) (is : slice_get answers i ≡ Some answer).
                let same : e.0 ≡ answer = (let f = e.1 in cc) in
                subst (λ (a : Option (List Reply)). IsTaken c i (asks i) a h.0 (kept i)) same h.2,
          ),
        ))

    pub gone_on : (i : ℕ) → i < c.n → HasGoneOn pending seen moment left_since c i (seat_at start i) (seat_at then i)
    gone_on i l = let e = turn.each i l in goes_on pending seen moment left_since c i (asks i) e.0 (seat_at start i) (seat_at now i)
        (seat_at then i) (turn.seats i l) e.2

    left_now : (i : ℕ) (gone kept : SeenNode) → i < c.n → IsFoundAt pending c i (seat_at start i) (seat_at now i) gone kept
        → IsLeftAt moment left_since c i (seat_at start i) (seat_at now i) gone kept
    left_now i gone kept l found = found_is_left pending seen moment left_since c i counts_now (seat_at start i) (seat_at now i) gone kept
        (turn.seats i l) found

    -- of a block for which none of its asks is, a node keeps what it kept
    same_in : (block i : ℕ) (before kept : SeenNode) → AreNotFor block (asks i) → IsInPart c i (asks i) before kept
        → versions_in kept block ≡ versions_in before block
    same_in block i before kept none part = elim part [
      | inl same ↦ ap (λ (n : SeenNode). versions_in n block) same
      | inr few ↦ ap (λ (n : SeenNode). versions_in n block) few.few
          ∙ stays before (take few.k (asks i)) block (all_take (λ (a : Ask). a.block ≢ block) few.k (asks i) none)
    ]

    in_part : (i : ℕ) (before kept : SeenNode) (answer : Option (List Reply)) → IsTaken c i (asks i) answer before kept
        → IsInPart c i (asks i) before kept
    in_part i before kept None taken = taken
    in_part i before kept (Some replies) taken = inr (record {
      node = taken.node;
      k = length (asks i);
      few = taken.all ∙ ap (after_asks
          before) (sym (take_all (asks i)));
    })

    pub stays_untouched : (block : ℕ) → ((i : ℕ) → AreNotFor block (asks i)) → Untouched block → UntouchedThen block
    stays_untouched block none untouched i gone kept l left =
        let e = turn.each i l in
        let h = left_at pending seen moment left_since c i counts_now (asks i) e.0 (seat_at start i) (seat_at now i) (seat_at then i) gone
        kept (turn.seats i l) e.2 left in
        same_in block i h.0 kept (none i) h.2 ∙ untouched i gone h.0 l h.1

    -- an operation that asks nothing
    module _ (op : Op) (client : ℕ) (none : (i : ℕ) → AreNotFor (block_of op) (asks i)) where
      pub cut_stays : (stored : Option StampedValue) → MayBeCutOff pending seen moment left_since start now op client stored
          → MayBeCutOff pending seen moment left_since start then op client stored
      cut_stays stored cut gone kept left =
          let h = left_before gone kept left in
          given_up_alike (setting c) (down_in start) (block_of op) client (work_of op) stored (kept_of (kept_in start gone) (block_of op))
          (kept_of (kept_in start gone) (block_of op)) (kept_of h.0 (block_of op)) (kept_of kept (block_of op)) (λ i l. refl)
          (λ i l. same_in (block_of op) i (h.0 i) (kept i) (none i) (h.1 i l).1) (cut gone h.0 (λ i l. (h.1 i l).0))

      pub lost_stays : WasGivenUp pending seen moment left_since start now op client
          → WasGivenUp pending seen moment left_since start then op client
      lost_stays lost = record { stored = lost.stored; left = cut_stays lost.stored lost.left }

      pub end_stays : (outcome : Outcome) → HasEnded pending seen moment left_since start now op client outcome
          → HasEnded pending seen moment left_since start then op client outcome
      end_stays outcome ended = record {
        stored = ended.stored;
        found = λ gone kept found. (
            let h = found_before gone kept found in
            completed_alike (setting c) (down_in start) (block_of op) client (work_of op) outcome
            (kept_of (kept_in start gone) (block_of op)) (kept_of (kept_in start gone) (block_of op)) (kept_of h.0 (block_of op))
            (kept_of kept (block_of op)) (λ i l. refl)
            (λ i l. let e = turn.each i l in same_in (block_of op) i (h.0 i) (kept i) (none i)
            (in_part i (h.0 i) (kept i) e.0 ((h.1 i l).1 e.0 e.1)))
            (ended.found gone h.0 (λ i l. (h.1 i l).0)));
        left = cut_stays ended.stored ended.left;
      }

    -- an operation that asks
    module _ (op : Op) (client : ℕ) (task : SeenTask)
        (asking : IsAsking pending seen moment left_since start now op client task)
        (j : ℕ) (asked : (i : ℕ) → slice_get (asks i) j ≡ Some (ask_to (setting c) task i)) where
      abbrev b : ℕ
      b = block_of op

      abbrev old : Nodes → Keeps
      old gone = kept_of (kept_in start gone) b

      at_block : (node : SeenNode) → versions_in node b ≡ versions_in node task.block
      at_block node = ap (versions_in node) (sym asking.block)

      as_first : (gone : Nodes) (i : ℕ) (node : SeenNode) → i < c.n
          → IsLeftAt moment left_since c i (seat_at start i) (seat_at now i) (gone i) node → versions_in node task.block ≡ old gone i
      as_first gone i node l left = sym (at_block node) ∙ asking.untouched i (gone i) node l left

      told_is : (gone : Nodes) (i : ℕ) (node : SeenNode) → i < c.n → IsNodeOf c i node
          → IsLeftAt moment left_since c i (seat_at start i) (seat_at now i) (gone i) node
          → reply_of node (ask_to (setting c) task i) ≡ reply (setting c) i (old gone i) (ask_to (setting c) task i)
      told_is gone i node l of left = let e = as_first gone i node l left in λ x. reply (setting (of.config x)) (of.numbered x)
          (e x) (ask_to (setting c) task i)

      done_is : (gone : Nodes) (i : ℕ) (node : SeenNode) → i < c.n → IsNodeOf c i node
          → IsLeftAt moment left_since c i (seat_at start i) (seat_at now i) (gone i) node
          → after_of node (ask_to (setting c) task i) ≡ after (setting c) i (old gone i) (ask_to (setting c) task i)
      done_is gone i node l of left = let e = as_first gone i node l left in λ x. after (setting (of.config x)) (of.numbered x)
          (e x) (ask_to (setting c) task i)

      there : (i : ℕ) (node : SeenNode) → IsNodeOf c i node → task.block < length node.blocks
      there i node of = let block = asking.block in let inside = asking.there in let count = of.count in omega arith

      -- a node of which a crash leaves this has done the ask, or hasn't
      one_done : (gone : Nodes) (i : ℕ) (before kept : SeenNode) → i < c.n
          → IsLeftAt moment left_since c i (seat_at start i) (seat_at now i) (gone i) before → IsInPart c i (asks i) before kept
          → (versions_in kept b ≡ old gone i) ⊎ HasDone (setting c) task i (old gone i) (versions_in kept b)
      one_done gone i before kept l left part = elim part [
        | inl same ↦ inl (ap (λ (n : SeenNode). versions_in n b) same ∙ asking.untouched i (gone i) before l left)
        | inr few ↦ elim (few_among few.k (asks i) before j (ask_to (setting c) task i) (turn.own i l) (asked i)
            (there i before few.node)) [
              | inl same ↦ inl (at_block kept ∙ ap (λ (n : SeenNode). versions_in n task.block) few.few ∙ same
                  ∙ as_first gone i before l left)
              | inr done ↦ inr (at_block kept ∙ ap (λ (n : SeenNode). versions_in n task.block) few.few ∙ done
                  ∙ done_is gone i before l few.node left)
            ]
      ]

      whole_done : (gone : Nodes) (i : ℕ) (before kept : SeenNode) (replies : List Reply) → i < c.n
          → IsLeftAt moment left_since c i (seat_at start i) (seat_at now i) (gone i) before
          → IsWholly c i (asks i) replies before kept → HasDone (setting c) task i (old gone i) (versions_in kept b)
      whole_done gone i before kept replies l left whole =
          at_block kept ∙ ap (λ (n : SeenNode). versions_in n task.block) whole.all
          ∙ done_among (asks i) before j (ask_to (setting c) task i) (turn.own i l) (asked i) (there i before whole.node)
          ∙ done_is gone i before l whole.node left

      pub cut_off : MayBeCutOff pending seen moment left_since start then op client (value_stored task.stage)
      cut_off gone kept left =
          let h = left_before gone kept left in
          operations_cut_off (setting c) (down_in start) b client (work_of op) task (old gone) (old gone) (kept_of kept b) (asking.goes gone)
          (λ i l. one_done gone i (h.0 i) (kept i) l (h.1 i l).0 (h.1 i l).1)

      pub untouched_still : is_storing task.stage ≡ false → UntouchedThen b
      untouched_still calm i gone kept l left =
          let e = turn.each i l in
          let h = left_at pending seen moment left_since c i counts_now (asks i) e.0 (seat_at start i) (seat_at now i) (seat_at then i)
          gone kept (turn.seats i l) e.2 left in
          let first = asking.untouched i gone h.0 l h.1 in
          elim h.2 [
            | inl same ↦ ap (λ (n : SeenNode). versions_in n b) same ∙ first
            | inr few ↦ elim (few_among few.k (asks i) h.0 j (ask_to (setting c) task i) (turn.own i l) (asked i) (there i h.0 few.node)) [
              | inl same ↦ at_block kept ∙ ap (λ (n : SeenNode). versions_in n task.block) few.few ∙ same ∙ sym (at_block h.0) ∙ first
              | inr done ↦ at_block kept ∙ ap (λ (n : SeenNode). versions_in n task.block) few.few ∙ done
                  ∙ quiet (setting h.0.config) (setting c) task.stage h.0.number i task.block (versions_in h.0 task.block) calm
                  ∙ sym (at_block h.0) ∙ first
            ]
          ]

      -- an answer that the operation hears is one of a node's
      record IsOfNode (i : ℕ) (given : Reply) : Type 0 where
        pub replies : List Reply
        pub answered : slice_get answers i ≡ Some (Some replies)
        pub at : slice_get replies j ≡ Some given
        pub below : i < c.n

      below_n : (i : ℕ) (answer : Option (List Reply)) → slice_get answers i ≡ Some answer → i < c.n
      below_n i answer is = let l = slice_get_within answers i answer is in let count = turn.count in omega arith

      of_node : (i : ℕ) (given : Reply) → slice_get (column j answers) i ≡ Some (Some given) → IsOfNode i given
      of_node i given is = let h = in_column j answers i (Some given) is in at h.0 h.1 h.2
        where
          at : (answer : Option (List Reply)) → slice_get answers i ≡ Some answer → reply_at j answer ≡ Some given → IsOfNode i given
          at None e f = absurd cc
          at (Some replies) e f = record { replies = replies; answered = e; at = f; below = below_n i (Some replies) e }

      pub are_answers : (gone : Nodes) → AreAnswers (setting c) task (old gone) (column j answers)
      are_answers gone = record {
        count = length-map answers (reply_at j) ∙ turn.count;
        formed = λ i given is. (
            let h = of_node i given is in
            let a = answered_at pending seen moment left_since c i counts_now (asks i) h.replies (seat_at start i) (seat_at now i)
            (seat_at then i) (gone i) (turn.seats i h.below) (works_as i h.below (Some h.replies) h.answered) in
            all_get IsFormedReply h.replies j given a.4 h.at);
        answers = λ i given is. (
            let h = of_node i given is in
            let a = answered_at pending seen moment left_since c i counts_now (asks i) h.replies (seat_at start i) (seat_at now i)
            (seat_at then i) (gone i) (turn.seats i h.below) (works_as i h.below (Some h.replies) h.answered) in
            let told : Some given ≡ Some (reply_of a.0 (ask_to (setting c) task i)) =
            sym h.at ∙ ap (λ (rs : List Reply). slice_get rs j) a.3
            ∙ reply_among (asks i) a.0 j (ask_to (setting c) task i) (turn.own i h.below) (asked i) in
            let same : given ≡ reply_of a.0 (ask_to (setting c) task i) = cc in
            same ∙ told_is gone i a.0 h.below a.1 a.2);
      }

      -- who wasn't up when the call began answers nothing
      up_at_first : (i : ℕ) (given : Reply) → slice_get (column j answers) i ≡ Some (Some given) → is_up (seat_at start i) ≡ true
      up_at_first i given is =
          let h = of_node i given is in
          answered_up pending seen moment left_since c i counts_now (asks i) h.replies (seat_at start i) (seat_at now i) (seat_at then i)
          (turn.seats i h.below) (works_as i h.below (Some h.replies) h.answered)

      only_present : OnlyPresentAnswer (down_in start) (column j answers)
      only_present i given is = ap not (up_at_first i given is)

      is_after : (gone kept : Nodes) → IsFound pending start then gone kept
          → IsAfterPhase (setting c) task (old gone) (column j answers) (kept_of kept b)
      is_after gone kept found =
          let h = found_before gone kept found in
          record {
            answered = λ i given is. (
                let r = of_node i given is in
                let n = h.1 i r.below in
                whole_done gone i (h.0 i) (kept i) r.replies r.below (left_now i (gone i) (h.0 i) r.below n.0)
                (n.1 (Some r.replies) r.answered));
            silent = λ i is. (
                let r = in_column j answers i None is in
                let l = below_n i r.0 r.1 in
                let n = h.1 i l in
                one_done gone i (h.0 i) (kept i) l (left_now i (gone i) (h.0 i) l n.0)
                (in_part i (h.0 i) (kept i) r.0 (n.1 r.0 r.1)));
          }

      is_after_calm : (gone : Nodes) → is_storing task.stage ≡ false
          → IsAfterPhase (setting c) task (old gone) (column j answers) (old gone)
      is_after_calm gone calm = record {
        answered = λ i given is. sym (quiet (setting c) (setting c) task.stage i i task.block (old gone i) calm);
        silent = λ i is. inl refl;
      }

      -- where the phase leaves the operation
      pub stands : (p : Progress) → after_phase (setting c) client task (column j answers) ≡ p
          → StandsAt pending seen moment left_since start then op client (stand_after task p)
      stands (Over outcome) e = record {
        stored = value_stored task.stage;
        found = λ gone kept found.
            subst (λ (q : Progress). ContinuesAs (setting c) (down_in start) b client (work_of op) q (old gone) (kept_of kept b)) e
            (operations_go_on (setting c) (down_in start) b client (work_of op) task (column j answers) (old gone) (old gone) (kept_of kept b)
            (asking.goes gone) (are_answers gone) only_present (is_after gone kept found));
        left = cut_off;
      }
      stands (UnderWay next) e = at (eqb next.phase task.phase) refl
        where
          goes_on_calm : is_storing task.stage ≡ false → IsAsking pending seen moment left_since start then op client next
          goes_on_calm calm = record {
            block = phase_on (setting c) client task (column j answers) next e ∙ asking.block;
            there = asking.there;
            goes = λ gone.
                subst (λ (q : Progress). ContinuesAs (setting c) (down_in start) b client (work_of op) q (old gone) (old gone)) e
                (operations_go_on (setting c) (down_in start) b client (work_of op) task (column j answers) (old gone) (old gone) (old gone)
                (asking.goes gone) (are_answers gone) only_present (is_after_calm gone calm));
            untouched = untouched_still calm;
          }

          at : (t : Bool) → eqb next.phase task.phase ≡ t
              → StandsAt pending seen moment left_since start then op client (cond t Lost (Asks next))
          at true same = record { stored = value_stored task.stage; left = cut_off }
          at false other = elim (cases_Bool (is_storing task.stage)) [
            | inl storing ↦ absurd (let same = storing_stays (setting c) client task (column j answers) next storing e in grind
                (arith, nat_tests))
            | inr calm ↦ goes_on_calm calm
          ]
