-- What is known of the operations of a batch, and of what they ask.
use Rattle.std.proofs.Common.{◌≡◌, ◌≢◌, inl, inr, ℕ, zero, suc, ◌+◌, ◌-◌, Bool, true, false, cond, eqb, ltb, List, [], ◌∷◌, length, map, take, sum, refl, sym, ap, subst, ◌∙◌, arith, Option}
use Rattle.std.specs.Prelude.{slice_get}
use Rattle.std.specs.List.{AllByRecursion, AllPairs, AllZip, Contains}
use Rattle.std.specs.declared.option.Option.TheVariants.{None, Some}
use Rattle.std.proofs.lemmas.List.Sums.{sum_by-cons}
use Rattle.std.proofs.lemmas.List.Kept.{AllPairs-cons}
use Rattle.std.proofs.lemmas.List.Elements.{All-from_recursion, recursion_from_All}
use Rattle.lists.proofs.lemmas.Members.{Contains-none, Contains-cons_cases, Contains-head, Contains-rest}
use Rattle.wire_forms.specs.declared.op.Op.{Op}
use Rattle.protocol.specs.Messages.{Ask, Reply, Tag}
use Rattle.protocol.specs.Setting.{Setting}
use Rattle.protocol.specs.Operations.{Work, Decision, decide, answered}
use Rattle.protocol.specs.Operations.Decision.{GoesOn, Ends}
use Rattle.protocol.specs.Seen.{SeenTask, task_at, answers_of, seen_begun, seen_counted, is_counted, by_decision, hearing, block_of, work_of}
use Rattle.protocol.specs.Seen.Hearing.{Ignored, Counted}
use Rattle.block_phases.specs.Phases.{Progress, tag_of, ask_to, progress, heard_from, after_phase}
use Rattle.block_phases.specs.Phases.Progress.{UnderWay, Over}
use Rattle.batch_clients.specs.Batches.{Stand, Running, how_many, column, begun, asks_to, stand_after, stand_heard, after_answers}
use Rattle.batch_clients.specs.Batches.Stand.{Asks, Ended, Lost}

-- how many operations ask
abbrev pub asking : List Running → ℕ
asking [] = 0
asking (r ∷ runs) = how_many r.stand + asking runs

pub asking_is : (runs : List Running) → asking runs ≡ sum (map (λ (r : Running). how_many r.stand) runs)
asking_is [] = refl
asking_is (r ∷ runs) = ap (λ (n : ℕ). how_many r.stand + n) (asking_is runs) ∙ sym (sum_by-cons (λ (n : ℕ). n) (how_many r.stand) (map (λ (x : Running). how_many x.stand) runs))

-- an operation that asks is on this block, and does this
abbrev pub IsOn : ℕ → Work → Stand → Type 0
IsOn block work (Asks task) = (task.block ≡ block) × (task.work ≡ work)
IsOn block work _ = Unit {0}

-- each operation that asks is on its block
abbrev pub AreOn : List ℕ → List Running → Type 0
AreOn blocks runs = AllZip (λ (block : ℕ) (r : Running). (work : Work) × IsOn block work r.stand) blocks runs

-- no two are equal
abbrev pub AreDistinct : List ℕ → Type 0
AreDistinct blocks = AllPairs (λ (x y : ℕ). x ≢ y) blocks

abbrev Apart : List ℕ → Type 0
Apart [] = Unit {0}
Apart (x ∷ xs) = AllByRecursion (λ (y : ℕ). x ≢ y) xs × Apart xs

apart_of : (xs : List ℕ) → AreDistinct xs → Apart xs
apart_of [] h = tt
apart_of (x ∷ xs) h = (
  recursion_from_All (λ (y : ℕ). x ≢ y) xs (λ k d lt. h 0 (suc k) d (omega arith) (omega (arith, lt))),
  apart_of xs (λ i j d lt le. h (suc i) (suc j) d (omega (arith, lt)) (omega (arith, le))),
)

distinct_of : (xs : List ℕ) → Apart xs → AreDistinct xs
distinct_of [] h = λ i j d lt le. absurd (omega (arith, le))
distinct_of (x ∷ xs) h = AllPairs-cons (λ (a b : ℕ). a ≢ b) x xs (All-from_recursion (λ (y : ℕ). x ≢ y) xs h.0) (distinct_of xs h.1)

-- this operation of them asks the node this
abbrev pub IsAskedBy : Setting → ℕ → Ask → List Running → Type 0
IsAskedBy s i ask runs = (r : Running) × (task : SeenTask) × Contains runs r × (r.stand ≡ Asks task) × (ask ≡ ask_to s task i)

module _ (s : Setting) where
  -- ---- what hearing makes of operations

  module _ (answers : List (Option (List Reply))) where
    pub length_after : (j : ℕ) (runs : List Running) → length (after_answers s j answers runs) ≡ length runs
    length_after j [] = refl
    length_after j (r ∷ runs) = ap suc (length_after (j + how_many r.stand) runs)

    pub clients_after : (j : ℕ) (runs : List Running) → map (λ (r : Running). r.client) (after_answers s j answers runs) ≡ map (λ (r : Running). r.client) runs
    clients_after j [] = refl
    clients_after j (r ∷ runs) = ap (λ (l : List ℕ). r.client ∷ l) (clients_after (j + how_many r.stand) runs)

    -- each hears the answers to the ask whose number is how many ask before it
    pub after_at : (j : ℕ) (runs : List Running) (m : ℕ) (r : Running) → slice_get runs m ≡ Some r
        → slice_get (after_answers s j answers runs) m ≡ Some (record { client = r.client; stand = stand_heard s (j + asking (take m runs)) answers r.client r.stand })
    after_at j [] m r at = absurd cc
    after_at j (x ∷ runs) zero r at =
        let same : x ≡ r = cc in
        let k : j ≡ j + 0 = omega arith in
        ap (λ (y : Running). Some (record { client = y.client; stand = stand_heard s j answers y.client y.stand })) same
        ∙ ap (λ (n : ℕ). Some (record { client = r.client; stand = stand_heard s n answers r.client r.stand })) k
    after_at j (x ∷ runs) (suc m) r at =
        after_at (j + how_many x.stand) runs m r at
        ∙ ap (λ (n : ℕ). Some (record { client = r.client; stand = stand_heard s n answers r.client r.stand })) (omega arith)

  -- ---- what is asked of a node

  module _ (i : ℕ) where
    pub length_asks : (runs : List Running) → length (asks_to s i runs) ≡ asking runs
    length_asks [] = refl
    length_asks (r ∷ runs) = by r.stand refl (length_asks runs)
      where
        by : (stand : Stand) → r.stand ≡ stand → length (asks_to s i runs) ≡ asking runs → length (asks_to s i (r ∷ runs)) ≡ asking (r ∷ runs)
        by (Asks task) e rest = rw (e) (omega (arith, rest))
        by (Ended outcome) e rest = rw (e) (omega (arith, rest))
        by Lost e rest = rw (e) (omega (arith, rest))

    -- an operation's ask stands at the place that is how many ask before it
    pub asks_at : (runs : List Running) (m : ℕ) (r : Running) (task : SeenTask) → slice_get runs m ≡ Some r → r.stand ≡ Asks task → slice_get (asks_to s i runs) (asking (take m runs)) ≡ Some (ask_to s task i)
    asks_at [] m r task at is = absurd cc
    asks_at (x ∷ runs) zero r task at is =
        let same : x ≡ r = cc in
        let stand : x.stand ≡ Asks task = ap (λ (y : Running). y.stand) same ∙ is in
        rw (stand) refl
    asks_at (x ∷ runs) (suc m) r task at is = by x.stand refl (asks_at runs m r task at is)
      where
        by : (stand : Stand) → x.stand ≡ stand → slice_get (asks_to s i runs) (asking (take m runs)) ≡ Some (ask_to s task i) → slice_get (asks_to s i (x ∷ runs)) (asking (x ∷ take m runs)) ≡ Some (ask_to s task i)
        by (Asks other) e rest = rw (e) (let n : 1 + asking (take m runs) ≡ suc (asking (take m runs)) = omega arith in ap (slice_get (ask_to s other i ∷ asks_to s i runs)) n ∙ rest)
        by (Ended outcome) e rest = rw (e) (let n : 0 + asking (take m runs) ≡ asking (take m runs) = omega arith in ap (slice_get (asks_to s i runs)) n ∙ rest)
        by Lost e rest = rw (e) (let n : 0 + asking (take m runs) ≡ asking (take m runs) = omega arith in ap (slice_get (asks_to s i runs)) n ∙ rest)

    pub block_asked : (task : SeenTask) → (ask_to s task i).block ≡ task.block
    block_asked task = refl

    -- what is asked is what one of the operations asks
    pub asked_by : (runs : List Running) (ask : Ask) → Contains (asks_to s i runs) ask → IsAskedBy s i ask runs
    asked_by [] ask h = absurd (Contains-none ask h)
    asked_by (x ∷ runs) ask h = by x.stand refl (asked_by runs ask)
      where
        further : IsAskedBy s i ask runs → IsAskedBy s i ask (x ∷ runs)
        further f = (f.0, f.1, Contains-rest f.0 x runs f.2, f.3, f.4)

        by : (stand : Stand) → x.stand ≡ stand → (Contains (asks_to s i runs) ask → IsAskedBy s i ask runs) → IsAskedBy s i ask (x ∷ runs)
        by (Asks task) e rest =
            let there : Contains (ask_to s task i ∷ asks_to s i runs) ask = rw (e) at h in
            elim (Contains-cons_cases ask (ask_to s task i) (asks_to s i runs) there) [ inl is ↦ (x, task, Contains-head x runs, e, is) | inr later ↦ further (rest later) ]
        by (Ended outcome) e rest = further (rest (rw (e) at h))
        by Lost e rest = further (rest (rw (e) at h))

    pub block_of_asked : (runs : List Running) (ask : Ask) → Contains (asks_to s i runs) ask → (r : Running) × (task : SeenTask) × Contains runs r × (r.stand ≡ Asks task) × (ask.block ≡ task.block)
    block_of_asked runs ask h = let f = asked_by runs ask h in (f.0, f.1, f.2, f.3, ap (λ (a : Ask). a.block) f.4)

  -- ---- operations that have just begun

  pub length_begun : (client : ℕ) (ops : List Op) → length (begun s client ops) ≡ length ops
  length_begun client [] = refl
  length_begun client (op ∷ ops) = ap suc (length_begun (suc client) ops)

  pub begun_at : (client : ℕ) (ops : List Op) (k : ℕ) (op : Op) → slice_get ops k ≡ Some op → slice_get (begun s client ops) k ≡ Some (record { client = client + k; stand = Asks (seen_begun s 1 (block_of op) (work_of op)) })
  begun_at client [] k op at = absurd cc
  begun_at client (x ∷ ops) zero op at =
      let same : x ≡ op = cc in
      let n : client ≡ client + 0 = omega arith in
      λ j. Some (record { client = n j; stand = Asks (seen_begun s 1 (block_of (same j)) (work_of (same j))) })
  begun_at client (x ∷ ops) (suc k) op at =
      begun_at (suc client) ops k op at ∙ ap (λ (n : ℕ). Some (record { client = n; stand = Asks (seen_begun s 1 (block_of op) (work_of op)) })) (omega arith)

  pub begun_on : (client : ℕ) (ops : List Op) → AreOn (map block_of ops) (begun s client ops)
  begun_on client [] = tt
  begun_on client (op ∷ ops) = ((work_of op, (refl, refl)), begun_on (suc client) ops)

  -- ---- hearing keeps an operation's block and work

  abbrev Keeps : ℕ → Work → Progress → Type 0
  Keeps block work (UnderWay task) = (task.block ≡ block) × (task.work ≡ work)
  Keeps block work (Over outcome) = Unit {0}

  module _ (block : ℕ) (work : Work) where
    one_keeps : (b f : Bool) (t v : SeenTask) (d : Decision) → (t.block ≡ block) × (t.work ≡ work) → (v.block ≡ block) × (v.work ≡ work) → Keeps block work (progress s t (cond b (cond f (Counted v) (by_decision s v d)) Ignored))
    one_keeps true true t v d h k = k
    one_keeps true false t v (GoesOn stage) h k = k
    one_keeps true false t v (Ends outcome) h k = tt
    one_keeps false f t v d h k = h

    phase_keeps : (client : ℕ) (tag : Tag) (p : Progress) (i : ℕ) (replies : List (Option Reply)) → Keeps block work p → Keeps block work (heard_from s client tag p i replies)
    phase_keeps client tag p i [] h = h
    phase_keeps client tag (UnderWay t) i (None ∷ replies) h = phase_keeps client tag (UnderWay t) (suc i) replies h
    phase_keeps client tag (UnderWay t) i (Some reply ∷ replies) h =
        phase_keeps client tag (progress s t (hearing s client t i tag reply)) (suc i) replies
        (one_keeps (is_counted s t i tag reply) (ltb (answered s (λ j. answers_of (seen_counted t i reply) j)) (s.n - s.t)) t (seen_counted t i reply) (decide s client (task_at 0 (seen_counted t i reply)) t.stage) h h)
    phase_keeps client tag (Over outcome) i (given ∷ replies) h = phase_keeps client tag (Over outcome) (suc i) replies h

    by_stand : (b : Bool) (next : SeenTask) → (next.block ≡ block) × (next.work ≡ work) → IsOn block work (cond b Lost (Asks next))
    by_stand true next h = tt
    by_stand false next h = h

    stand_keeps : (task : SeenTask) (p : Progress) → Keeps block work p → IsOn block work (stand_after task p)
    stand_keeps task (UnderWay next) h = by_stand (eqb next.phase task.phase) next h
    stand_keeps task (Over outcome) h = tt

    pub heard_on : (j : ℕ) (answers : List (Option (List Reply))) (client : ℕ) (stand : Stand) → IsOn block work stand → IsOn block work (stand_heard s j answers client stand)
    heard_on j answers client (Asks task) h = stand_keeps task (after_phase s client task (column j answers)) (phase_keeps client (tag_of task) (UnderWay task) 0 (column j answers) h)
    heard_on j answers client (Ended outcome) h = tt
    heard_on j answers client Lost h = tt

  pub after_on : (answers : List (Option (List Reply))) (j : ℕ) (blocks : List ℕ) (runs : List Running) → AreOn blocks runs → AreOn blocks (after_answers s j answers runs)
  after_on answers j [] [] h = tt
  after_on answers j [] (r ∷ runs) h = absurd h
  after_on answers j (block ∷ blocks) [] h = absurd h
  after_on answers j (block ∷ blocks) (r ∷ runs) h = ((h.0.0, heard_on block h.0.0 j answers r.client r.stand h.0.1), after_on answers (j + how_many r.stand) blocks runs h.1)

  -- ---- where the operations are on distinct blocks, no two asks of a node are on one block

  module _ (i : ℕ) where
    abbrev blocks_asked : List Running → List ℕ
    blocks_asked runs = map (λ (a : Ask). a.block) (asks_to s i runs)

    apart_from : (block : ℕ) (blocks : List ℕ) (runs : List Running) → AreOn blocks runs → AllByRecursion (λ (x : ℕ). block ≢ x) blocks → AllByRecursion (λ (x : ℕ). block ≢ x) (blocks_asked runs)
    apart_from block [] [] h apart = tt
    apart_from block [] (r ∷ runs) h apart = absurd h
    apart_from block (b ∷ blocks) [] h apart = absurd h
    apart_from block (b ∷ blocks) (r ∷ runs) h apart = by r.stand refl (apart_from block blocks runs h.1 apart.1)
      where
        by : (stand : Stand) → r.stand ≡ stand → AllByRecursion (λ (x : ℕ). block ≢ x) (blocks_asked runs) → AllByRecursion (λ (x : ℕ). block ≢ x) (blocks_asked (r ∷ runs))
        by (Asks task) e rest =
            let on : IsOn b h.0.0 (Asks task) = subst (IsOn b h.0.0) e h.0.1 in
            rw (e) ((λ same. apart.0 (same ∙ on.0)), rest)
        by (Ended outcome) e rest = rw (e) rest
        by Lost e rest = rw (e) rest

    asks_apart : (blocks : List ℕ) (runs : List Running) → AreOn blocks runs → Apart blocks → Apart (blocks_asked runs)
    asks_apart [] [] h distinct = tt
    asks_apart [] (r ∷ runs) h distinct = absurd h
    asks_apart (b ∷ blocks) [] h distinct = absurd h
    asks_apart (b ∷ blocks) (r ∷ runs) h distinct = by r.stand refl (asks_apart blocks runs h.1 distinct.1)
      where
        by : (stand : Stand) → r.stand ≡ stand → Apart (blocks_asked runs) → Apart (blocks_asked (r ∷ runs))
        by (Asks task) e rest =
            let on : IsOn b h.0.0 (Asks task) = subst (IsOn b h.0.0) e h.0.1 in
            rw (e) (subst (λ (x : ℕ). AllByRecursion (λ (y : ℕ). x ≢ y) (blocks_asked runs)) (sym on.0) (apart_from b blocks runs h.1 distinct.0), rest)
        by (Ended outcome) e rest = rw (e) rest
        by Lost e rest = rw (e) rest

    pub asks_distinct : (blocks : List ℕ) (runs : List Running) → AreOn blocks runs → AreDistinct blocks → AreDistinct (map (λ (a : Ask). a.block) (asks_to s i runs))
    asks_distinct blocks runs h distinct = distinct_of (blocks_asked runs) (asks_apart blocks runs h (apart_of blocks distinct))
