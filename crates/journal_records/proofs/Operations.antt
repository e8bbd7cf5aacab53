-- The operations that a correct client ended, and the one under way, are those that it started.
use Rattle.std.proofs.Common.{◌≡◌, ℕ, ◌+◌, zero, suc, Bool, true, false, List, [], ◌∷◌, ◌++◌, length, map, Option, refl, sym, ◌∙◌, ap, cond, arith, append-nil, append_assoc, length-append}
use Rattle.std.specs.Prelude.{slice_get}
use Rattle.std.specs.declared.option.Option.TheVariants.{None, Some}
use Rattle.std.proofs.lemmas.List.Recursion.{is_count_by}
use Rattle.wire_forms.specs.declared.op.Op.{Op}
use Rattle.wire_forms.specs.declared.message.Message.{Message}
use Rattle.wire_forms.specs.declared.message.Body.{Body}
use Rattle.wire_forms.specs.declared.message.Body.TheVariants.{Ask as Asks, Answer as Answers}
use Rattle.protocol.specs.Messages.{Reply, Tag}
use Rattle.protocol.specs.Setting.{Setting}
use Rattle.protocol.specs.Instance.{setting}
use Rattle.protocol.specs.Operations.{Work, Decision, decide}
use Rattle.protocol.specs.Operations.Decision.{GoesOn, Ends}
use Rattle.protocol.specs.Seen.{SeenTask, Hearing, hearing, after_counting, by_decision, seen_counted, is_counted, task_at, block_of, work_of}
use Rattle.protocol.specs.Seen.Hearing.{Ignored, Counted, Begins, Ended as Ends_}
use Rattle.operation_core.specs.Clients.{ClientView, told, hears}
use Rattle.journals.specs.declared.desk.DeskEntry.{DeskEntry}
use Rattle.journals.specs.declared.desk.DeskAct.{DeskAct}
use Rattle.journals.specs.declared.desk.DeskAct.TheVariants.{Start, Crash, Call}
use Rattle.journals.specs.Desks.{DeskState, Ended, ActsAs, DeskKept, by_hearing, ended_by, desk_heard, desk_after, desk_after_all}
use Rattle.protocol.specs.Count.{one_more}
use Rattle.plan_followed.specs.Clients.{starts, times}

-- what an operation is on, and does
abbrev pub What : Type 0
What = ℕ × Work

abbrev pub of_op : Op → What
of_op op = (block_of op, work_of op)

abbrev pub of_ended : Ended → What
of_ended x = (x.block, x.work)

abbrev pub of_task : Option SeenTask → List What
of_task None = []
of_task (Some t) = (t.block, t.work) ∷ []

-- the operations that have ended, and then the one under way
abbrev pub begun_by : DeskState → List What
begun_by d = map of_ended d.ended ++ of_task d.client.seen.task

abbrev pub started_by : DeskAct → List What
started_by (Start op) = of_op op ∷ []
started_by Crash = []
started_by (Call way ask reply) = []

abbrev pub started_in : List DeskEntry → List What
started_in [] = []
started_in (e ∷ es) = started_by e.act ++ started_in es

-- an answer that goes on with an operation keeps what it is on and does
abbrev Keeps : SeenTask → Hearing → Type 0
Keeps t Ignored = Unit {0}
Keeps t (Counted u) = (u.block ≡ t.block) × (u.work ≡ t.work)
Keeps t (Begins u) = (u.block ≡ t.block) × (u.work ≡ t.work)
Keeps t (Ends_ outcome) = Unit {0}

either : (t : SeenTask) (b : Bool) (h k : Hearing) → Keeps t h → Keeps t k → Keeps t (cond b h k)
either t true h k p q = p
either t false h k p q = q

module _ (s : Setting) where
  decided : (t u : SeenTask) (d : Decision) → u.block ≡ t.block → u.work ≡ t.work → Keeps t (by_decision s u d)
  decided t u (GoesOn stage) b w = (b, w)
  decided t u (Ends outcome) b w = tt

  counted : (client : ℕ) (t u : SeenTask) → u.block ≡ t.block → u.work ≡ t.work → Keeps t (after_counting s client u)
  counted client t u b w = either t _ (Counted u) (by_decision s u (decide s client (task_at 0 u) u.stage)) (b, w) (decided t u (decide s client (task_at 0 u) u.stage) b w)

  heard : (client : ℕ) (t : SeenTask) (node : ℕ) (tag : Tag) (reply : Reply) → Keeps t (hearing s client t node tag reply)
  heard client t node tag reply = either t (is_counted s t node tag reply) (after_counting s client (seen_counted t node reply)) Ignored (counted client t (seen_counted t node reply) refl refl) tt

told_keeps : (c : ClientView) (t : SeenTask) (m : Message) (body : Body) → Keeps t (told c t m body)
told_keeps c t m (Asks ask) = tt
told_keeps c t m (Answers reply) = either t _ (hearing (setting c.config) c.id t m.node m.tag reply) Ignored (heard (setting c.config) c.id t m.node m.tag reply) tt

-- the operation under way after an answer
abbrev pub task_after : Option SeenTask → Hearing → Option SeenTask
task_after task Ignored = task
task_after task (Counted t) = Some t
task_after task (Begins t) = Some t
task_after task (Ends_ outcome) = None

pub task_is : (c : ClientView) (h : Hearing) → (by_hearing c h).seen.task ≡ task_after c.seen.task h
task_is c Ignored = refl
task_is c (Counted t) = refl
task_is c (Begins t) = refl
task_is c (Ends_ outcome) = refl

pair_is : (x y : What) → x.0 ≡ y.0 → x.1 ≡ y.1 → x ≡ y
pair_is (a, v) (b, w) e f = cc

ended_push : (xs : List Ended) (x : Ended) → map of_ended (xs ++ x ∷ []) ≡ map of_ended xs ++ of_ended x ∷ []
ended_push [] x = refl
ended_push (y ∷ xs) x = ap (λ (r : List What). of_ended y ∷ r) (ended_push xs x)

-- what is heard while an operation is under way
parts_heard : (ended : List Ended) (began n : ℕ) (t : SeenTask) (h : Hearing) → Keeps t h
    → map of_ended (one_more ended (ended_by began n (Some t) h)) ++ of_task (task_after (Some t) h) ≡ map of_ended ended ++ of_task (Some t)
parts_heard ended began n t Ignored k = refl
parts_heard ended began n t (Counted u) k = ap (λ (p : What). map of_ended ended ++ p ∷ []) (pair_is (u.block, u.work) (t.block, t.work) k.0 k.1)
parts_heard ended began n t (Begins u) k = ap (λ (p : What). map of_ended ended ++ p ∷ []) (pair_is (u.block, u.work) (t.block, t.work) k.0 k.1)
parts_heard ended began n t (Ends_ outcome) k =
    append-nil (map of_ended (ended ++ record { block = t.block; work = t.work; start = began; end = n; outcome = outcome } ∷ []))
    ∙ ended_push ended (record { block = t.block; work = t.work; start = began; end = n; outcome = outcome })

begun_heard : (d : DeskState) (n : ℕ) (m : Message) (task : Option SeenTask) → d.client.seen.task ≡ task → begun_by (desk_heard d n (hears d.client task m)) ≡ begun_by d
begun_heard d n m None e = ap (λ (o : Option SeenTask). map of_ended (one_more d.ended (ended_by d.began n o Ignored)) ++ of_task d.client.seen.task) e
begun_heard d n m (Some t) e =
    let h = told d.client t m m.body in
    ap (λ (o : Option SeenTask). map of_ended (one_more d.ended (ended_by d.began n d.client.seen.task h)) ++ of_task o) (task_is d.client h)
    ∙ ap (λ (o : Option SeenTask). map of_ended (one_more d.ended (ended_by d.began n o h)) ++ of_task (task_after o h)) e
    ∙ parts_heard d.ended d.began n t h (told_keeps d.client t m m.body)
    ∙ ap (λ (o : Option SeenTask). map of_ended d.ended ++ of_task o) (sym e)

begun_after : (d : DeskState) (n : ℕ) (act : DeskAct) → ActsAs false d act → begun_by (desk_after d n act) ≡ begun_by d ++ started_by act
begun_after d n (Start op) goes =
    ap (λ (xs : List What). xs ++ of_op op ∷ []) (sym (ap (λ (o : Option SeenTask). map of_ended d.ended ++ of_task o) goes.1.idle ∙ append-nil (map of_ended d.ended)))
begun_after d n Crash goes = sym (append-nil (begun_by d))
begun_after d n (Call way ask None) goes = sym (append-nil (begun_by d))
begun_after d n (Call way ask (Some m)) goes = begun_heard d n m d.client.seen.task refl ∙ sym (append-nil (begun_by d))

pub begun_all : (es : List DeskEntry) (d : DeskState) → DeskKept false d es → begun_by (desk_after_all d es) ≡ begun_by d ++ started_in es
begun_all [] d kept = sym (append-nil (begun_by d))
begun_all (e ∷ es) d kept =
    begun_all es (desk_after d e.number e.act) kept.1
    ∙ ap (λ (xs : List What). xs ++ started_in es) (begun_after d e.number e.act kept.0)
    ∙ append_assoc (begun_by d) (started_by e.act) (started_in es)

-- ---- the k-th operation that was started

started_one : (act : DeskAct) (es : List DeskEntry) → length (started_by act ++ started_in es) ≡ cond (starts act) (1 + length (started_in es)) (length (started_in es))
started_one (Start op) es = omega arith
started_one Crash es = refl
started_one (Call way ask reply) es = refl

pub started_count : (es : List DeskEntry) → times starts es ≡ length (started_in es)
started_count es = sym (is_count_by (λ (xs : List DeskEntry). length (started_in xs)) (λ (e : DeskEntry). starts e.act) refl (λ e xs. started_one e.act xs) es)

-- an operation, started after others
pub record IsKth (es : List DeskEntry) (k : ℕ) (what : What) : Type 0 where
  pub before : List DeskEntry
  pub rest : List DeskEntry
  pub entry : DeskEntry
  pub op : Op
  pub split : es ≡ before ++ entry ∷ rest
  pub starts : entry.act ≡ Start op
  pub place : length (started_in before) ≡ k
  pub is : what ≡ of_op op

behind : (e : DeskEntry) (es : List DeskEntry) (k m : ℕ) (what : What) → IsKth es k what → m ≡ length (started_by e.act) + k → IsKth (e ∷ es) m what
behind e es k m what h count = record {
  before = e ∷ h.before;
  rest = h.rest;
  entry = h.entry;
  op = h.op;
  split = ap (λ (xs : List DeskEntry). e ∷ xs) h.split;
  starts = h.starts;
  place = (let both : length (started_by e.act ++ started_in h.before) ≡ length (started_by e.act) + length (started_in h.before) = length-append (started_by e.act) (started_in h.before) in let p = h.place in omega (arith, both, p, count));
  is = h.is;
}

kth_by : (e : DeskEntry) (es : List DeskEntry) (what : What) (act : DeskAct) → e.act ≡ act → ((k : ℕ) → slice_get (started_in es) k ≡ Some what → IsKth es k what)
    → (k : ℕ) → slice_get (started_by act ++ started_in es) k ≡ Some what → IsKth (e ∷ es) k what
kth_by e es what (Start op) q rest zero h = record {
  before = [];
  rest = es;
  entry = e;
  op = op;
  split = refl;
  starts = q;
  place = refl;
  is = (let first : Some (of_op op) ≡ Some what = h in same_of (of_op op) what first);
}
  where
    same_of : (a b : What) → Some a ≡ Some b → b ≡ a
    same_of a b e = cc
kth_by e es what (Start op) q rest (suc k) h =
    let count : length (started_by e.act) ≡ 1 = ap (λ (a : DeskAct). length (started_by a)) q in
    behind e es k (suc k) what (rest k h) (omega (arith, count))
kth_by e es what Crash q rest k h =
    let count : length (started_by e.act) ≡ 0 = ap (λ (a : DeskAct). length (started_by a)) q in
    behind e es k k what (rest k h) (omega (arith, count))
kth_by e es what (Call way ask reply) q rest k h =
    let count : length (started_by e.act) ≡ 0 = ap (λ (a : DeskAct). length (started_by a)) q in
    behind e es k k what (rest k h) (omega (arith, count))

pub kth_started : (es : List DeskEntry) (k : ℕ) (what : What) → slice_get (started_in es) k ≡ Some what → IsKth es k what
kth_started [] k what h = absurd cc
kth_started (e ∷ es) k what h = kth_by e es what e.act refl (λ i g. kth_started es i what g) k h
