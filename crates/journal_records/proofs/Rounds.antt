-- A client begins no more rounds than it has entries.
use Rattle.std.proofs.Common.{◌≡◌, ℕ, ◌+◌, ◌≤◌, Bool, true, false, cond, List, [], ◌∷◌, length, map, Option, refl, ◌∙◌, ap, arith}
use Rattle.std.specs.declared.option.Option.TheVariants.{None, Some}
use Rattle.stamp_order.specs.declared.Stamp.{Stamp}
use Rattle.stamp_order.specs.declared.Bound.{Bound}
use Rattle.stamp_order.specs.declared.Bound.TheVariants.{AtMost, Below}
use Rattle.stamp_order.specs.Stamps.{same_stamp}
use Rattle.std.specs.Prelude.{not, leb, ltb, ◌==◌, ◌-◌, ◌^◌}
use Rattle.wire_forms.specs.declared.message.Message.{Message}
use Rattle.wire_forms.specs.declared.message.Body.{Body}
use Rattle.wire_forms.specs.declared.message.Body.TheVariants.{Ask as Asks, Answer as Answers}
use Rattle.run_words.specs.declared.outcome.How.TheVariants.{Plain}
use Rattle.run_words.specs.declared.outcome.Outcome.TheVariants.{Gave, Spent}
use Rattle.protocol.specs.Messages.{Reply, Tag}
use Rattle.protocol.specs.Setting.{Setting, first_stamp, same_digests, zeros}
use Rattle.protocol.specs.Instance.{setting}
use Rattle.protocol.specs.Operations.{Task, Work, Stage, Decision, decide, decide_pivot, drawn_from, pivot, support, candidate, chosen, sum_of_first, stored, first_work, rounds_after}
use Rattle.protocol.specs.Operations.Work.{Reads, Writes}
use Rattle.protocol.specs.Operations.Stage.{Times, Versions, Storing}
use Rattle.protocol.specs.Operations.Decision.{GoesOn, Ends}
use Rattle.protocol.specs.World.{Record}
use Rattle.protocol.specs.Report.{rounds_of}
use Rattle.protocol.specs.Count.{one_more}
use Rattle.protocol.specs.Seen.{SeenTask, Hearing, hearing, after_counting, by_decision, seen_counted, is_counted, task_at, started_task, work_of}
use Rattle.protocol.specs.Seen.Hearing.{Ignored, Counted, Begins, Ended as Ends_}
use Rattle.operation_core.specs.Clients.{ClientView, told, hears}
use Rattle.journals.specs.declared.desk.DeskEntry.{DeskEntry}
use Rattle.journals.specs.declared.desk.DeskAct.{DeskAct}
use Rattle.journals.specs.declared.desk.DeskAct.TheVariants.{Start, Crash, Call}
use Rattle.journals.specs.Desks.{DeskState, Ended, ended_by, desk_heard, desk_after, desk_after_all}
use Rattle.journals.specs.Agreement.{ended_record}
use Rattle.journals.specs.Records.{record_of_task, client_records}
use Rattle.journal_records.proofs.Operations.{task_after, task_is}
use Rattle.journal_records.proofs.Totals.{total, total_append}

-- ---- an answer adds at most one round

-- an operation that ends tells no more rounds than it has begun
abbrev EndsIn : ℕ → Decision → Type 0
EndsIn k (GoesOn stage) = Unit {0}
EndsIn k (Ends outcome) = rounds_of (Some outcome) ≤ k

time_in : (k : ℕ) (b : Bool) (stage : Stage) → EndsIn k (cond b (Ends Spent) (GoesOn stage))
time_in k true stage = omega arith
time_in k false stage = tt

pivot_cases : (k : ℕ) (a b d e : Bool) (first p : Stamp) (zero value : List ℕ)
    → EndsIn k (cond a (Ends (Gave first zero Plain k)) (cond b (GoesOn (Versions (AtMost p))) (cond d (GoesOn (Versions (Below p))) (cond e (Ends (Gave p value Plain k)) (GoesOn (Storing p value))))))
pivot_cases k true b d e first p zero value = omega arith
pivot_cases k false true d e first p zero value = tt
pivot_cases k false false true e first p zero value = tt
pivot_cases k false false false true first p zero value = omega arith
pivot_cases k false false false false first p zero value = tt

stored_in : (work : Work) (k : ℕ) (stamp : Stamp) (value : List ℕ) → rounds_of (Some (stored work k stamp value)) ≤ k
stored_in Reads k stamp value = omega arith
stored_in (Writes written) k stamp value = omega arith

module _ (s : Setting) where
  pivot_in : (answers : ℕ → Option Reply) (bound : Bound) (k : ℕ) (o : Option Stamp) → EndsIn k (decide_pivot s answers bound k o)
  pivot_in answers bound k None = omega arith
  pivot_in answers bound k (Some p) =
      let carried = support s answers bound p in
      let value = candidate s answers bound p in
      let apart = not (same_digests (s.sum_of value) (sum_of_first (chosen s answers bound p))) in
      pivot_cases k (same_stamp p (first_stamp s)) (ltb carried (s.qc - s.t)) apart (leb (s.qc + s.b) carried) (first_stamp s) p (zeros s) value

  decided_in : (client : ℕ) (task : Task) (stage : Stage) → EndsIn task.rounds (decide s client task stage)
  decided_in client task Times = time_in task.rounds (drawn_from s task.answers == 2 ^ 64 - 1) _
  decided_in client task (Versions bound) = pivot_in task.answers bound task.rounds (pivot s task.answers bound)
  decided_in client task (Storing stamp value) = stored_in task.work task.rounds stamp value

-- what an answer does to an operation of so many rounds
abbrev Adds : ℕ → Hearing → Type 0
Adds k Ignored = Unit {0}
Adds k (Counted u) = u.rounds ≤ k
Adds k (Begins u) = u.rounds ≤ k + 1
Adds k (Ends_ outcome) = rounds_of (Some outcome) ≤ k

adds_either : (k : ℕ) (b : Bool) (h g : Hearing) → Adds k h → Adds k g → Adds k (cond b h g)
adds_either k true h g p q = p
adds_either k false h g p q = q

one_round : (stage : Stage) (k : ℕ) → rounds_after stage k ≤ k + 1
one_round Times k = omega arith
one_round (Versions bound) k = omega arith
one_round (Storing stamp value) k = omega arith

module _ (s : Setting) where
  by_adds : (u : SeenTask) (d : Decision) → EndsIn u.rounds d → Adds u.rounds (by_decision s u d)
  by_adds u (GoesOn stage) h = one_round stage u.rounds
  by_adds u (Ends outcome) h = h

  hearing_adds : (client : ℕ) (t : SeenTask) (node : ℕ) (tag : Tag) (reply : Reply) → Adds t.rounds (hearing s client t node tag reply)
  hearing_adds client t node tag reply =
      let u = seen_counted t node reply in
      adds_either t.rounds (is_counted s t node tag reply) (after_counting s client u) Ignored
      (adds_either t.rounds _ (Counted u) (by_decision s u (decide s client (task_at 0 u) u.stage)) (omega arith) (by_adds u (decide s client (task_at 0 u) u.stage) (decided_in s client (task_at 0 u) u.stage))) tt

told_adds : (c : ClientView) (t : SeenTask) (m : Message) (body : Body) → Adds t.rounds (told c t m body)
told_adds c t m (Asks ask) = tt
told_adds c t m (Answers reply) = adds_either t.rounds _ (hearing (setting c.config) c.id t m.node m.tag reply) Ignored (hearing_adds (setting c.config) c.id t m.node m.tag reply) tt

-- ---- a client's rounds

abbrev rounds_under : Option SeenTask → ℕ
rounds_under None = 0
rounds_under (Some t) = t.rounds

-- those of the reads that ended, and of what is under way
abbrev rounds_at : DeskState → ℕ
rounds_at d = total (λ x. rounds_of (Some x.outcome)) d.ended + rounds_under d.client.seen.task

parts_few : (ended : List Ended) (began n : ℕ) (t : SeenTask) (h : Hearing) → Adds t.rounds h
    → total (λ x. rounds_of (Some x.outcome)) (one_more ended (ended_by began n (Some t) h)) + rounds_under (task_after (Some t) h) ≤ total (λ x. rounds_of (Some x.outcome)) ended + t.rounds + 1
parts_few ended began n t Ignored k = omega arith
parts_few ended began n t (Counted u) k = omega (arith, k)
parts_few ended began n t (Begins u) k = omega (arith, k)
parts_few ended began n t (Ends_ outcome) k =
    let x : Ended = record { block = t.block; work = t.work; start = began; end = n; outcome = outcome } in
    let more = total_append (λ (y : Ended). rounds_of (Some y.outcome)) ended (x ∷ []) in
    omega (arith, more, k)

heard_few : (d : DeskState) (n : ℕ) (m : Message) (task : Option SeenTask) → d.client.seen.task ≡ task → rounds_at (desk_heard d n (hears d.client task m)) ≤ rounds_at d + 1
heard_few d n m None e =
    let same : rounds_at (desk_heard d n (hears d.client None m)) ≡ rounds_at d = ap (λ (o : Option SeenTask). total (λ (x : Ended). rounds_of (Some x.outcome)) (one_more d.ended (ended_by d.began n o Ignored)) + rounds_under d.client.seen.task) e in
    omega (arith, same)
heard_few d n m (Some t) e =
    let h = told d.client t m m.body in
    let is : rounds_at (desk_heard d n h) ≡ total (λ (x : Ended). rounds_of (Some x.outcome)) (one_more d.ended (ended_by d.began n (Some t) h)) + rounds_under (task_after (Some t) h) =
    ap (λ (o : Option SeenTask). total (λ (x : Ended). rounds_of (Some x.outcome)) (one_more d.ended (ended_by d.began n d.client.seen.task h)) + rounds_under o) (task_is d.client h)
    ∙ ap (λ (o : Option SeenTask). total (λ (x : Ended). rounds_of (Some x.outcome)) (one_more d.ended (ended_by d.began n o h)) + rounds_under (task_after o h)) e in
    let few = parts_few d.ended d.began n t h (told_adds d.client t m m.body) in
    let was : rounds_at d ≡ total (λ (x : Ended). rounds_of (Some x.outcome)) d.ended + t.rounds = ap (λ (o : Option SeenTask). total (λ (x : Ended). rounds_of (Some x.outcome)) d.ended + rounds_under o) e in
    omega (arith, is, few, was)

first_round : (work : Work) → rounds_after (first_work work) 0 ≤ 1
first_round work = one_round (first_work work) 0

after_few : (d : DeskState) (n : ℕ) (act : DeskAct) → rounds_at (desk_after d n act) ≤ rounds_at d + 1
after_few d n (Start op) = let one = first_round (work_of op) in omega (arith, one)
after_few d n Crash = omega arith
after_few d n (Call way ask None) = omega arith
after_few d n (Call way ask (Some m)) = heard_few d n m d.client.seen.task refl

all_few : (es : List DeskEntry) (d : DeskState) → rounds_at (desk_after_all d es) ≤ rounds_at d + length es
all_few [] d = omega arith
all_few (e ∷ es) d =
    let rest = all_few es (desk_after d e.number e.act) in
    let one = after_few d e.number e.act in
    omega (arith, rest, one)

-- ---- and those of its records

records_ended : (c : ℕ) (xs : List Ended) → total (λ r. rounds_of r.outcome) (map (ended_record c) xs) ≡ total (λ x. rounds_of (Some x.outcome)) xs
records_ended c [] = refl
records_ended c (x ∷ xs) = ap (λ (n : ℕ). rounds_of (Some x.outcome) + n) (records_ended c xs)

records_open : (c place : ℕ) (task : Option SeenTask) → total (λ r. rounds_of r.outcome) (record_of_task c (started_task place task)) ≡ 0
records_open c place None = refl
records_open c place (Some t) = refl

-- the records of a client that has done nothing but these entries tell no more rounds
pub rounds_told : (c : ℕ) (d : DeskState) (es : List DeskEntry) → d.ended ≡ [] → d.client.seen.task ≡ None → total (λ r. rounds_of r.outcome) (client_records c (desk_after_all d es)) ≤ length es
rounds_told c d es none idle =
    let last = desk_after_all d es in
    let few = all_few es d in
    let begin : rounds_at d ≡ 0 = (λ i. total (λ (x : Ended). rounds_of (Some x.outcome)) (none i) + rounds_under (idle i)) in
    let both = total_append (λ (r : Record). rounds_of r.outcome) (map (ended_record c) last.ended) (record_of_task c (started_task (last.began + 1) last.client.seen.task)) in
    let ended = records_ended c last.ended in
    let opened = records_open c (last.began + 1) last.client.seen.task in
    omega (arith, few, begin, both, ended, opened)
