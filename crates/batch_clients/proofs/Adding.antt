-- Operations are put beside one another, and what they ask.
use Rattle.std.proofs.Common.{◌≡◌, ℕ, zero, suc, ◌+◌, ◌-◌, ◌^◌, ◌<◌, ◌≤◌, List, [], ◌∷◌, ◌++◌, length, map, replicate, drop, get_or, refl, sym, ap, subst, ◌∙◌, arith, add-one, drop-cons, append_assoc, append-nil, Option}
use Rattle.std.specs.Prelude.{slice_get, option_to_list, All}
use Rattle.std.specs.List.{filter_map}
use Rattle.std.specs.declared.option.Option.TheVariants.{None, Some}
use Rattle.std.proofs.lemmas.List.{length-map, length-replicate, map-append}
use Rattle.std.proofs.lemmas.List.Elements.{All-nil, All-push, All-head, All-tail, filter_map-append}
use Rattle.quorum_rules.specs.Limits.{Numbers}
use Rattle.wire_forms.specs.declared.op.Op.{Op}
use Rattle.protocol.specs.Messages.{Ask, Reply}
use Rattle.protocol.specs.Setting.{Setting}
use Rattle.protocol.specs.Instance.{setting}
use Rattle.protocol.specs.Seen.{SeenTask, ops_of, block_of, work_of, seen_begun}
use Rattle.operation_core.specs.Clients.{ClientView, started, with_started}
use Rattle.client_core.specs.Clients.{idle_client}
use Rattle.block_phases.specs.Phases.{after_phase}
use Rattle.batch_clients.specs.declared.run.Run.{Run}
use Rattle.batch_clients.specs.declared.run.Standing.TheVariants.{Asking}
use Rattle.batch_clients.specs.Batches.{Stand, Running, how_many, reply_at, column, ask_by, asks_to, begun, stand_after, stand_heard, after_answers, AreAsksOf}
use Rattle.batch_clients.specs.Batches.Stand.{Asks as AsksOne, Ended, Lost}
use Rattle.batch_clients.specs.Parts.{running, stand_of, stand_in, phase_at, rest_of, left_by, AskMore, IsAdded, IsRun}

module _ (s : Setting) where
  one_asks : (i : ℕ) (r : Running) → filter_map (λ (x : Running). ask_by s i x.stand) (r ∷ []) ≡ option_to_list (ask_by s i r.stand)
  one_asks i r = by (ask_by s i r.stand) refl
    where
      by : (o : Option Ask) → ask_by s i r.stand ≡ o → filter_map (λ (x : Running). ask_by s i x.stand) (r ∷ []) ≡ option_to_list (ask_by s i r.stand)
      by None e = rw (e) refl
      by (Some ask) e = rw (e) refl

  asks_push : (i : ℕ) (runs : List Running) (r : Running) → asks_to s i (runs ++ r ∷ []) ≡ asks_to s i runs ++ option_to_list (ask_by s i r.stand)
  asks_push i runs r = filter_map-append (λ (x : Running). ask_by s i x.stand) runs (r ∷ []) ∙ ap (λ l. asks_to s i runs ++ l) (one_asks i r)

  get_replicate : {A : Type 0} (n i : ℕ) (x : A) → i < n → slice_get (replicate n x) i ≡ Some x
  get_replicate zero i x lt = absurd (omega arith)
  get_replicate (suc n) zero x lt = refl
  get_replicate (suc n) (suc i) x lt = get_replicate n i x (omega arith)

  pub none_ask : (asks : List (List Ask)) → asks ≡ replicate s.n [] → AreAsksOf s [] asks
  none_ask asks is = record { count = ap length is ∙ length-replicate s.n []; each = λ i lt. ap (λ l. slice_get l i) is ∙ get_replicate s.n i [] lt }

  pub one_more_asks : (runs : List Running) (r : Running) (old new : List (List Ask)) → AreAsksOf s runs old → AskMore s r.stand old new → AreAsksOf s (runs ++ r ∷ []) new
  one_more_asks runs r old new h more = record {
    count = more.count ∙ h.count;
    each = λ i lt. more.each i (asks_to s i runs) lt (h.each i lt) ∙ ap (λ (l : List Ask). Some l) (sym (asks_push i runs r));
  }

  -- an operation that asks nothing leaves what is asked
  nothing_each : (stand : Stand) (asks : List (List Ask)) → ((i : ℕ) → ask_by s i stand ≡ None) → AskMore s stand asks asks
  nothing_each stand asks none = record { count = refl; each = λ i more lt at. at ∙ ap (λ (l : List Ask). Some l) (sym (ap (λ (o : Option Ask). more ++ option_to_list o) (none i) ∙ append-nil more)) }

  pub ended_asks_nothing : (stand : Stand) (asks : List (List Ask)) → how_many stand ≡ 0 → AskMore s stand asks asks
  ended_asks_nothing (AsksOne task) asks none = absurd (omega arith)
  ended_asks_nothing (Ended outcome) asks none = nothing_each (Ended outcome) asks (λ i. refl)
  ended_asks_nothing Lost asks none = nothing_each Lost asks (λ i. refl)

  -- the answers to ask number j+1 of each node are those to number j of what is left without the first
  later_reply : (j : ℕ) (x : Option (List Reply)) → reply_at (suc j) x ≡ reply_at j (rest_of x)
  later_reply j None = refl
  later_reply j (Some []) = refl
  later_reply j (Some (reply ∷ replies)) = refl

  later_column : (j : ℕ) (answers : List (Option (List Reply))) → column (suc j) answers ≡ column j (map rest_of answers)
  later_column j [] = refl
  later_column j (x ∷ answers) = let head = later_reply j x in let tail = later_column j answers in λ k. head k ∷ tail k

  later_heard : (j : ℕ) (answers : List (Option (List Reply))) (client : ℕ) (stand : Stand) → stand_heard s (suc j) answers client stand ≡ stand_heard s j (map rest_of answers) client stand
  later_heard j answers client (AsksOne task) = ap (λ (l : List (Option Reply)). stand_after task (after_phase s client task l)) (later_column j answers)
  later_heard j answers client (Ended outcome) = refl
  later_heard j answers client Lost = refl

  pub later_answers : (j k : ℕ) (answers : List (Option (List Reply))) (runs : List Running) → k ≡ suc j → after_answers s k answers runs ≡ after_answers s j (map rest_of answers) runs
  later_answers j k answers [] is = refl
  later_answers j k answers (r ∷ runs) is =
      let head : stand_heard s k answers r.client r.stand ≡ stand_heard s j (map rest_of answers) r.client r.stand = ap (λ (i : ℕ). stand_heard s i answers r.client r.stand) is ∙ later_heard j answers r.client r.stand in
      let tail = later_answers (j + how_many r.stand) (k + how_many r.stand) answers runs (omega (arith, is)) in
      λ i. record { client = r.client; stand = head i } ∷ tail i

  after_left : (answers : List (Option (List Reply))) (stand : Stand) (runs : List Running) → after_answers s (0 + how_many stand) answers runs ≡ after_answers s 0 (left_by stand answers) runs
  after_left answers (AsksOne task) runs = later_answers 0 (0 + 1) answers runs refl
  after_left answers (Ended outcome) runs = refl
  after_left answers Lost runs = refl

  pub after_first : (answers left : List (Option (List Reply))) (r : Running) (runs : List Running) → left ≡ left_by r.stand answers
      → after_answers s 0 answers (r ∷ runs) ≡ record { client = r.client; stand = stand_heard s 0 answers r.client r.stand } ∷ after_answers s 0 left runs
  after_first answers left r runs is =
      ap (λ (l : List Running). record { client = r.client; stand = stand_heard s 0 answers r.client r.stand } ∷ l)
      (after_left answers r.stand runs ∙ ap (λ l. after_answers s 0 l runs) (sym is))

pub length_left : (stand : Stand) (answers left : List (Option (List Reply))) → left ≡ left_by stand answers → length left ≡ length answers
length_left (AsksOne task) answers left is = ap length is ∙ length-map answers rest_of
length_left (Ended outcome) answers left is = ap length is
length_left Lost answers left is = ap length is

run_later : (c : Numbers) (p q : ℕ) (r : Run) → p ≤ q → IsRun c p r → IsRun c q r
run_later c p q r le h = record { standing = h.standing; early = omega (arith, h.early, le) }

-- the first operations have heard their answers, the rest hasn't, and these answers are left
pub record IsGoing (c : Numbers) (answers : List (Option (List Reply))) (runs : List Run) (left : List (Option (List Reply))) (rest heard : List Run) (asks : List (List Ask)) : Type 0 where
  pub comes : after_answers (setting c) 0 answers (map running runs) ≡ map running heard ++ after_answers (setting c) 0 left (map running rest)
  pub asked : AreAsksOf (setting c) (map running heard) asks
  pub early : All (IsRun c (2 ^ 64 - 2)) rest
  pub full : length left ≡ c.n
  pub runs_are : (p : ℕ) → All (IsRun c p) runs → All (IsRun c p) rest × All (IsRun c (p + 1)) heard

module _ (c : Numbers) (answers : List (Option (List Reply))) (runs : List Run) where
  pub going_begins : (left : List (Option (List Reply))) → left ≡ answers → length answers ≡ c.n → All (IsRun c (2 ^ 64 - 2)) runs → (asks : List (List Ask)) → asks ≡ replicate c.n []
      → (rest : List Run) → rest ≡ runs → IsGoing c answers runs left rest [] asks
  going_begins left same full early asks none rest is = record {
    comes = ap (λ l. after_answers (setting c) 0 l (map running runs)) (sym same) ∙ ap (λ l. after_answers (setting c) 0 left (map running l)) (sym is);
    asked = none_ask (setting c) asks none;
    early = subst (All (IsRun c (2 ^ 64 - 2))) (sym is) early;
    full = ap length same ∙ full;
    runs_are = λ p all. (subst (All (IsRun c p)) (sym is) all, All-nil (IsRun c (p + 1)));
  }

  module _ (left : List (Option (List Reply))) (run : Run) (rest heard : List Run) (asks : List (List Ask)) (h : IsGoing c answers runs left (run ∷ rest) heard asks) where
    pub next_early : IsRun c (2 ^ 64 - 2) run
    next_early = All-head (IsRun c (2 ^ 64 - 2)) run rest h.early

    pub going_on : (now : List (Option (List Reply))) (new : List Run) (more : List (List Ask)) → now ≡ left_by (stand_of run.standing) left
        → IsAdded c (record { client = run.id; stand = stand_heard (setting c) 0 left run.id (stand_of run.standing) }) (phase_at (stand_of run.standing) + 1) heard new asks more
        → IsGoing c answers runs now rest new more
    going_on now new more is a =
        let r : Running = record { client = run.id; stand = stand_heard (setting c) 0 left run.id (stand_of run.standing) } in
        let pushed : map running new ≡ map running heard ++ r ∷ [] = ap (map running) a.runs ∙ map-append running heard (a.run ∷ []) ∙ ap (λ x. map running heard ++ x ∷ []) a.stands in
        record {
          comes =
              h.comes ∙ ap (λ l. map running heard ++ l) (after_first (setting c) left now (running run) (map running rest) is)
              ∙ sym (append_assoc (map running heard) (r ∷ []) (after_answers (setting c) 0 now (map running rest)))
              ∙ ap (λ l. l ++ after_answers (setting c) 0 now (map running rest)) (sym pushed);
          asked = subst (λ l. AreAsksOf (setting c) l more) (sym pushed) (one_more_asks (setting c) (map running heard) r asks more h.asked a.asked);
          early = All-tail (IsRun c (2 ^ 64 - 2)) run rest h.early;
          full = length_left (stand_of run.standing) left now is ∙ h.full;
          runs_are = λ p all.
              let both = h.runs_are p all in
              let first = All-head (IsRun c p) run rest both.0 in (
                All-tail (IsRun c p) run rest both.0,
                subst (All (IsRun c (p + 1))) (sym a.runs) (All-push (IsRun c (p + 1)) heard a.run both.1 (run_later c (phase_at (stand_of run.standing) + 1) (p + 1) a.run (let e = first.early in omega (arith, e)) a.is_run)),
              );
        }

  pub going_ends : (left : List (Option (List Reply))) (heard : List Run) (asks : List (List Ask)) → IsGoing c answers runs left [] heard asks → map running heard ≡ after_answers (setting c) 0 answers (map running runs)
  going_ends left heard asks h = sym (h.comes ∙ append-nil (map running heard))

-- an operation that begins
abbrev first_stand : Numbers → Op → Stand
first_stand c op = AsksOne (seen_begun (setting c) 1 (block_of op) (work_of op))

module _ (c : Numbers) (id : ℕ) (op : Op) (runs new : List Run) (asks more : List (List Ask)) where
  pub added_first : (client later : ClientView) → client ≡ idle_client c id 0 → later ≡ with_started client (started client op) → AskMore (setting client.config) (AsksOne (started client op)) asks more → new ≡ runs ++ record { id = id; standing = Asking later } ∷ []
      → IsAdded c (record { client = id; stand = first_stand c op }) 1 runs new asks more
  added_first client later is then asked push =
      let idle = idle_client c id 0 in
      let now : later ≡ with_started idle (started idle op) = then ∙ ap (λ (x : ClientView). with_started x (started x op)) is in
      let task : later.seen.task ≡ Some (seen_begun (setting c) 1 (block_of op) (work_of op)) = ap (λ (x : ClientView). x.seen.task) now in
      record {
        run = record { id = id; standing = Asking later };
        runs = push;
        stands = (λ j. record { client = id; stand = stand_in (task j) });
        is_run = record {
          standing = record {
            cluster = ap (λ (x : ClientView). x.config) now;
            own = ap (λ (x : ClientView). x.id) now;
            task = seen_begun (setting c) 1 (block_of op) (work_of op);
            under_way = task;
            number = sym (ap (λ (x : ClientView). ops_of x.seen) now);
          };
          early = (let e = ap (λ (o : Option SeenTask). phase_at (stand_in o)) task in omega (arith, e));
        };
        asked = subst (λ (x : ClientView). AskMore (setting x.config) (AsksOne (started x op)) asks more) is asked;
      }

-- one more operation has begun
module _ (c : Numbers) (ops : List Op) (i id : ℕ) (op : Op) (there : i < length ops) (is : op ≡ get_or ops i op) (runs new : List Run) (asks more : List (List Ask))
    (a : IsAdded c (record { client = id; stand = first_stand c op }) 1 runs new asks more) where
  pushed_first : map running new ≡ map running runs ++ record { client = id; stand = first_stand c op } ∷ []
  pushed_first = ap (map running) a.runs ∙ map-append running runs (a.run ∷ []) ∙ ap (λ x. map running runs ++ x ∷ []) a.stands

  pub one_begun : map running runs ++ begun (setting c) id (drop i ops) ≡ begun (setting c) 1 ops → map running new ++ begun (setting c) (id + 1) (drop (i + 1) ops) ≡ begun (setting c) 1 ops
  one_begun made =
      let split : drop i ops ≡ op ∷ drop (suc i) ops = drop-cons ops i op there ∙ ap (λ x. x ∷ drop (suc i) ops) (sym is) in
      rw (add-one, add-one)
      (ap (λ l. l ++ begun (setting c) (suc id) (drop (suc i) ops)) pushed_first
      ∙ append_assoc (map running runs) (record { client = id; stand = first_stand c op } ∷ []) (begun (setting c) (suc id) (drop (suc i) ops))
      ∙ sym (ap (λ l. map running runs ++ begun (setting c) id l) split)
      ∙ made)

  pub one_asked : AreAsksOf (setting c) (map running runs) asks → AreAsksOf (setting c) (map running new) more
  one_asked h = subst (λ l. AreAsksOf (setting c) l more) (sym pushed_first) (one_more_asks (setting c) (map running runs) (record { client = id; stand = first_stand c op }) asks more h a.asked)

  pub one_run : All (IsRun c 1) runs → All (IsRun c 1) new
  one_run h = subst (All (IsRun c 1)) (sym a.runs) (All-push (IsRun c 1) runs a.run h a.is_run)
