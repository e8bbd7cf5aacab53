-- What a client that hears an answer can do.
use Rattle.std.proofs.Common.{◌≡◌, ℕ, ◌+◌, ◌-◌, ◌≤◌, Bool, true, false, cond, [], Option, refl, arith, ltb}
use Rattle.std.specs.declared.option.Option.TheVariants.{None, Some}
use Rattle.std.specs.List.{Contains}
use Rattle.std.proofs.lemmas.Bool.Decides.{nat_tests}
use Rattle.protocol.specs.Count.{update}
use Rattle.protocol.specs.Messages.{Reply, Body, Message}
use Rattle.wire_forms.specs.declared.Body.TheVariants.{Ask as Asks, Answer as Answers}
use Rattle.protocol.specs.Setting.{Setting, IsValid}
use Rattle.protocol.specs.Operations.{is_counted, Task, Stage, Outcome, Decision, is_of_kind, answered, decide, goes_on, mail, counted}
use Rattle.protocol.specs.Operations.Decision.{GoesOn, Ends}
use Rattle.protocol.specs.World.{World, IsAnswerTo, only_place, moved, decided, advanced, heard, heard_by, open_record, closed_record, under_way}
use Rattle.protocol.proofs.Invariant.{IsSafe}
use Rattle.protocol.proofs.lemmas.Sending.{is_under_way}
use Rattle.protocol.proofs.Runs.{task_hears}

-- the task with these answers counted
abbrev pub filled : Task → (ℕ → Option Reply) → Task
filled task answers = record { op = task.op; block = task.block; work = task.work; start = task.start; phase = task.phase; rounds = task.rounds; stage = task.stage; answers = answers }

-- each of the answers was sent
abbrev pub AreSent : World → ℕ → Task → (ℕ → Option Reply) → Type 0
AreSent w c task answers = (i : ℕ) (reply : Reply) → answers i ≡ Some reply → Contains w.pool (record { client = c; node = i; tag = record { op = task.op; phase = task.phase }; body = Answers reply }) × (is_of_kind task.stage reply ≡ true)

module _ (s : Setting) (good : IsValid s) (w : World) (safe : IsSafe s w) (place : ℕ) (later : w.place ≤ place) (c : ℕ) (P : World → Type 0) (same : P (only_place s w place))
    (counting : (task : Task) (answers : ℕ → Option Reply) → under_way w c ≡ Some task → AreSent w c task answers → P (moved s w place c (Some (filled task answers)) [] (open_record c (filled task answers))))
    (going : (task : Task) (answers : ℕ → Option Reply) → under_way w c ≡ Some task → AreSent w c task answers → s.n ≤ answered s answers + s.t → (stage : Stage) → decide s c (filled task answers) task.stage ≡ GoesOn stage
    → P (moved s w place c (Some (goes_on (filled task answers) stage)) (mail s c (goes_on (filled task answers) stage)) (open_record c (goes_on (filled task answers) stage))))
    (ending : (task : Task) (answers : ℕ → Option Reply) → under_way w c ≡ Some task → AreSent w c task answers → s.n ≤ answered s answers + s.t → (outcome : Outcome) → decide s c (filled task answers) task.stage ≡ Ends outcome
    → P (moved s w place c None [] (closed_record c (filled task answers) place outcome))) where
  decided_case : (task : Task) (answers : ℕ → Option Reply) → under_way w c ≡ Some task → AreSent w c task answers → s.n ≤ answered s answers + s.t → (d : Decision) → decide s c (filled task answers) task.stage ≡ d
      → P (decided s w place c (filled task answers) d)
  decided_case task answers busy sent enough (GoesOn stage) e = going task answers busy sent enough stage e
  decided_case task answers busy sent enough (Ends outcome) e = ending task answers busy sent enough outcome e

  advanced_case : (task : Task) (answers : ℕ → Option Reply) → under_way w c ≡ Some task → AreSent w c task answers → P (advanced s w place c (filled task answers))
  advanced_case task answers busy sent = at (ltb (answered s answers) (s.n - s.t)) refl
    where
      at : (b : Bool) → ltb (answered s answers) (s.n - s.t) ≡ b
          → P (cond b (moved s w place c (Some (filled task answers)) [] (open_record c (filled task answers))) (decided s w place c (filled task answers) (decide s c (filled task answers) task.stage)))
      at true e = counting task answers busy sent
      at false e = decided_case task answers busy sent (grind (arith, nat_tests)) (decide s c (filled task answers) task.stage) refl

  counted_case : (task : Task) → under_way w c ≡ Some task → (m : Message) → Contains w.pool m → m.client ≡ c → (reply : Reply) → m.body ≡ Answers reply → (b : Bool) → is_counted s task m.node m.tag reply ≡ b
      → P (cond b (advanced s w place c (counted task m.node reply)) (only_place s w place))
  counted_case task busy m there of_c reply body false e = same
  counted_case task busy m there of_c reply body true e =
      advanced_case task (update task.answers m.node (Some reply)) busy (task_hears s good w safe place later c task busy m there of_c reply body e)

  task_case : (m : Message) → Contains w.pool m → m.client ≡ c → w.client_crashed c ≡ false → (reply : Reply) → m.body ≡ Answers reply → (o : Option Task) → w.task c ≡ o → P (heard_by s w place c o m reply)
  task_case m there of_c up reply body None e = same
  task_case m there of_c up reply body (Some task) e = counted_case task (is_under_way s w safe place later c task up e) m there of_c reply body (is_counted s task m.node m.tag reply) refl

  pub heard_case : (m : Message) → Contains w.pool m → w.client_crashed c ≡ false → IsAnswerTo s c m → P (heard s w place c m m.body)
  heard_case m there up h = by m.body refl
    where
      by : (body : Body) → m.body ≡ body → P (heard s w place c m body)
      by (Asks ask) e = same
      by (Answers reply) e = task_case m there h.0 up reply e (w.task c) refl
