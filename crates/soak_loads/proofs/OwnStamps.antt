-- A write that a client ended has a stamp of its own client, and of some time.
use Rattle.std.proofs.Common.{◌≡◌, ℕ, ◌+◌, ◌-◌, ◌^◌, ◌≤◌, Bool, true, false, cond, List, [], ◌∷◌, ◌++◌, Option, refl, sym, subst, ◌∙◌, arith}
use Rattle.std.specs.Prelude.{◌==◌}
use Rattle.std.specs.declared.option.Option.TheVariants.{None, Some}
use Rattle.std.specs.List.{Contains, AllByRecursion}
use Rattle.quorum_rules.specs.Limits.{Numbers}
use Rattle.stamp_order.specs.declared.Stamp.{Stamp}
use Rattle.wire_forms.specs.declared.message.Message.{Message}
use Rattle.wire_forms.specs.declared.message.Body.{Body}
use Rattle.wire_forms.specs.declared.message.Body.TheVariants.{Ask as Asks, Answer as Answers}
use Rattle.run_words.specs.declared.outcome.Outcome.TheVariants.{Wrote, Spent}
use Rattle.protocol.specs.Messages.{Reply, Tag}
use Rattle.protocol.specs.Setting.{Setting, verifier_of}
use Rattle.protocol.specs.Instance.{setting}
use Rattle.protocol.specs.Count.{one_more}
use Rattle.protocol.specs.Operations.{Task, Work, Stage, Outcome, Decision, first_work, value_of, stored, drawn_from, decide}
use Rattle.protocol.specs.Operations.Work.{Reads, Writes}
use Rattle.protocol.specs.Operations.Stage.{Times, Versions, Storing}
use Rattle.protocol.specs.Operations.Decision.{GoesOn, Ends}
use Rattle.protocol.specs.Seen.{SeenTask, Hearing, task_at, hearing, after_counting, by_decision, seen_counted, work_of}
use Rattle.protocol.specs.Seen.Hearing.{Ignored, Counted, Begins, Ended as EndsTask}
use Rattle.protocol.proofs.lemmas.Entries.{member_of}
use Rattle.operation_core.specs.Clients.{ClientView, told, hears}
use Rattle.journals.specs.declared.desk.DeskAct.{DeskAct}
use Rattle.journals.specs.declared.desk.DeskAct.TheVariants.{Start, Crash, Call}
use Rattle.journals.specs.declared.desk.DeskEntry.{DeskEntry}
use Rattle.journals.specs.Desks.{DeskState, Ended, new_desk, by_hearing, ended_by, desk_heard, desk_after, desk_after_all}

-- the client's stamp, of some time
abbrev pub IsOwn : ℕ → Stamp → Type 0
IsOwn client stamp = (stamp.client ≡ client) × (1 ≤ stamp.time)

-- a write asks for times, and then that its value is stored by its own stamp
abbrev AsksOwn : ℕ → Work → Stage → Type 0
AsksOwn client Reads stage = Unit {0}
AsksOwn client (Writes value) Times = Unit {0}
AsksOwn client (Writes value) (Versions bound) = ⊥
AsksOwn client (Writes value) (Storing stamp kept) = IsOwn client stamp

-- a write that wrote did so by its own stamp
abbrev pub EndsOwn : ℕ → Work → Outcome → Type 0
EndsOwn client (Writes value) (Wrote stamp) = IsOwn client stamp
EndsOwn client _ _ = Unit {0}

-- ---- how a phase ends

abbrev DecidesOwn : ℕ → Work → Decision → Type 0
DecidesOwn client work (GoesOn stage) = AsksOwn client work stage
DecidesOwn client work (Ends outcome) = EndsOwn client work outcome

decision_by : (client : ℕ) (work : Work) (b : Bool) (d e : Decision) → DecidesOwn client work d → DecidesOwn client work e → DecidesOwn client work (cond b d e)
decision_by client work true d e p q = p
decision_by client work false d e p q = q

reads_own : (client : ℕ) (d : Decision) → DecidesOwn client Reads d
reads_own client (GoesOn stage) = tt
reads_own client (Ends outcome) = tt

module _ (s : Setting) (client : ℕ) where
  decide_own : (task : Task) (work : Work) (stage : Stage) → task.work ≡ work → AsksOwn client work stage → DecidesOwn client work (decide s client task stage)
  decide_own task Reads stage e h = reads_own client (decide s client task stage)
  decide_own task (Writes value) Times e h =
      let drawn = drawn_from s task.answers in
      decision_by client (Writes value) (drawn == 2 ^ 64 - 1) (Ends Spent)
      (GoesOn (Storing (record { time = drawn + 1; client = client; verifier = verifier_of s (value_of task.work) }) (value_of task.work))) tt (refl, omega arith)
  decide_own task (Writes value) (Versions bound) e h = absurd h
  decide_own task (Writes value) (Storing stamp kept) e h = subst (λ (work : Work). EndsOwn client (Writes value) (stored work task.rounds stamp kept)) (sym e) h

  -- ---- what an answer does

  -- the operation that goes on, or ends, does so by its own stamp
  abbrev HearsOwn : Option SeenTask → Hearing → Type 0
  HearsOwn task Ignored = Unit {0}
  HearsOwn task (Counted t) = AsksOwn client t.work t.stage
  HearsOwn task (Begins t) = AsksOwn client t.work t.stage
  HearsOwn None (EndsTask outcome) = Unit {0}
  HearsOwn (Some t) (EndsTask outcome) = EndsOwn client t.work outcome

  hearing_by : (t : SeenTask) (b : Bool) (h k : Hearing) → HearsOwn (Some t) h → HearsOwn (Some t) k → HearsOwn (Some t) (cond b h k)
  hearing_by t true h k p q = p
  hearing_by t false h k p q = q

  decision_own : (t u : SeenTask) → u.work ≡ t.work → (d : Decision) → DecidesOwn client u.work d → HearsOwn (Some t) (by_decision s u d)
  decision_own t u e (GoesOn stage) h = h
  decision_own t u e (Ends outcome) h = subst (λ (work : Work). EndsOwn client work outcome) e h

  counting_own : (t u : SeenTask) → u.work ≡ t.work → AsksOwn client u.work u.stage → HearsOwn (Some t) (after_counting s client u)
  counting_own t u e h =
      hearing_by t _ (Counted u) (by_decision s u (decide s client (task_at 0 u) u.stage)) h
      (decision_own t u e (decide s client (task_at 0 u) u.stage) (decide_own (task_at 0 u) u.work u.stage refl h))

  hearing_own : (t : SeenTask) (node : ℕ) (tag : Tag) (reply : Reply) → AsksOwn client t.work t.stage → HearsOwn (Some t) (hearing s client t node tag reply)
  hearing_own t node tag reply h =
      hearing_by t _ (after_counting s client (seen_counted t node reply)) Ignored (counting_own t (seen_counted t node reply) refl h) tt

-- ---- a client

abbrev TaskOwn : ℕ → Option SeenTask → Type 0
TaskOwn client None = Unit {0}
TaskOwn client (Some t) = AsksOwn client t.work t.stage

-- the client's operation under way asks by its own stamp, and those that it ended have one
record IsOwnDesk (client : ℕ) (d : DeskState) : Type 0 where
  id : d.client.id ≡ client
  task : TaskOwn client d.client.seen.task
  ended : AllByRecursion (λ x. EndsOwn client x.work x.outcome) d.ended

told_own : (view : ClientView) (t : SeenTask) (m : Message) (body : Body) → AsksOwn view.id t.work t.stage → HearsOwn (setting view.config) view.id (Some t) (told view t m body)
told_own view t m (Asks ask) h = tt
told_own view t m (Answers reply) h =
    hearing_by (setting view.config) view.id t _ (hearing (setting view.config) view.id t m.node m.tag reply) Ignored
    (hearing_own (setting view.config) view.id t m.node m.tag reply h) tt

hears_own : (view : ClientView) (task : Option SeenTask) (m : Message) → TaskOwn view.id task → HearsOwn (setting view.config) view.id task (hears view task m)
hears_own view None m h = tt
hears_own view (Some t) m h = told_own view t m m.body h

module _ (s : Setting) (client : ℕ) where
  id_kept : (view : ClientView) (h : Hearing) → (by_hearing view h).id ≡ view.id
  id_kept view Ignored = refl
  id_kept view (Counted t) = refl
  id_kept view (Begins t) = refl
  id_kept view (EndsTask outcome) = refl

  task_own : (view : ClientView) (task : Option SeenTask) (h : Hearing) → TaskOwn client view.seen.task → HearsOwn s client task h → TaskOwn client (by_hearing view h).seen.task
  task_own view task Ignored own heard = own
  task_own view task (Counted t) own heard = heard
  task_own view task (Begins t) own heard = heard
  task_own view task (EndsTask outcome) own heard = tt

  all_push : (xs : List Ended) (x : Ended) → AllByRecursion (λ y. EndsOwn client y.work y.outcome) xs → EndsOwn client x.work x.outcome
      → AllByRecursion (λ y. EndsOwn client y.work y.outcome) (xs ++ x ∷ [])
  all_push [] x all own = (own, tt)
  all_push (y ∷ ys) x all own = (all.0, all_push ys x all.1 own)

  ended_own : (xs : List Ended) (start end : ℕ) (task : Option SeenTask) (h : Hearing) → AllByRecursion (λ y. EndsOwn client y.work y.outcome) xs → HearsOwn s client task h
      → AllByRecursion (λ y. EndsOwn client y.work y.outcome) (one_more xs (ended_by start end task h))
  ended_own xs start end None h all heard = all
  ended_own xs start end (Some t) Ignored all heard = all
  ended_own xs start end (Some t) (Counted u) all heard = all
  ended_own xs start end (Some t) (Begins u) all heard = all
  ended_own xs start end (Some t) (EndsTask outcome) all heard =
      all_push xs (record { block = t.block; work = t.work; start = start; end = end; outcome = outcome }) all heard

started_own : (client : ℕ) (work : Work) → AsksOwn client work (first_work work)
started_own client Reads = tt
started_own client (Writes value) = tt

module _ (client : ℕ) where
  heard_own : (d : DeskState) (n : ℕ) (m : Message) → IsOwnDesk client d → IsOwnDesk client (desk_heard d n (hears d.client d.client.seen.task m))
  heard_own d n m own =
      let s = setting d.client.config in
      let task = d.client.seen.task in
      let h = hears d.client task m in
      let heard : HearsOwn s client task h =
      subst (λ (k : ℕ). HearsOwn s k task h) own.id (hears_own d.client task m (subst (λ (k : ℕ). TaskOwn k task) (sym own.id) own.task)) in
      record {
        id = id_kept s client d.client h ∙ own.id;
        task = task_own s client d.client task h own.task heard;
        ended = ended_own s client d.ended d.began n task h own.ended heard;
      }

  after_own : (d : DeskState) (n : ℕ) (act : DeskAct) → IsOwnDesk client d → IsOwnDesk client (desk_after d n act)
  after_own d n (Start op) own = record { id = own.id; task = started_own client (work_of op); ended = own.ended }
  after_own d n Crash own = record { id = own.id; task = own.task; ended = own.ended }
  after_own d n (Call way ask None) own = own
  after_own d n (Call way ask (Some m)) own = heard_own d n m own

  all_own : (d : DeskState) (es : List DeskEntry) → IsOwnDesk client d → IsOwnDesk client (desk_after_all d es)
  all_own d [] own = own
  all_own d (e ∷ es) own = all_own (desk_after d e.number e.act) es (after_own d e.number e.act own)

pub own_stamps : (config : Numbers) (client : ℕ) (es : List DeskEntry) (x : Ended) → Contains (desk_after_all (new_desk config client) es).ended x → EndsOwn client x.work x.outcome
own_stamps config client es x there =
    let own = all_own client (new_desk config client) es (record { id = refl; task = tt; ended = tt }) in
    member_of (λ (y : Ended). EndsOwn client y.work y.outcome) (desk_after_all (new_desk config client) es).ended x own.ended there
