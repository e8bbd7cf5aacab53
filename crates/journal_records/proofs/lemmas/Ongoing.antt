-- In each run records without an outcome are of operations under way, and each operation under way has its record.
use Rattle.std.proofs.Common.{◌≡◌, ◌⊎◌, ℕ, ◌+◌, ◌-◌, ◌≤◌, Bool, true, false, cond, List, [], ◌∷◌, ◌++◌, Option, refl, sym, ◌∙◌, ap, subst, inl, inr, arith, ltb}
use Rattle.std.specs.declared.option.Option.TheVariants.{None, Some}
use Rattle.std.specs.List.{Contains}
use Rattle.std.proofs.lemmas.List.Elements.{Contains-append_cases, Contains-append_left, Contains-push}
use Rattle.wire_forms.specs.declared.Body.TheVariants.{Ask as Asks, Answer as Answers}
use Rattle.protocol.specs.Messages.{Message, Body, Reply, Stamp}
use Rattle.protocol.specs.Count.{update}
use Rattle.protocol.specs.Setting.{Setting}
use Rattle.protocol.specs.Operations.{is_counted, Task, Decision, counted, goes_on, begun, decide, answered, mail}
use Rattle.protocol.specs.Operations.Decision.{GoesOn, Ends}
use Rattle.protocol.specs.World.{World, Record, Event, Allowed, AllAllowed, happens, all_happen, start_world, only_place, moved, decided, advanced, heard, heard_by, given, resent_by, pruned_at, with_record, open_record, closed_record, last_op, greatest_given}
use Rattle.protocol.specs.World.Event.{Start, Resend, Give, Hear, CrashNode, CrashClient, Lie, Prune, Back}
use Rattle.protocol.specs.Facts.{HasOperation, IsSameOperation}
use Rattle.protocol.specs.Lines.{Line, Run, IsRun, IsPlayable, plays, events}
use Rattle.protocol.specs.Instance.{InEachRun, setting_of}
use Rattle.protocol.specs.Laws.{OneIsReplaced, RefusesExactly, RunsComeApart}
use Rattle.journals.proofs.lemmas.Lists.{at_update}
use Rattle.journal_records.specs.Open.{RecordsTellTasks, TasksAreRecorded, RecordsAreOfCorrect}
use Rattle.lists.proofs.lemmas.Members.{Contains-none, Contains-one}
use Rattle.protocol.proofs.lemmas.Counting.{update-cases, update-same}

-- the record is of what its client has under way, or the client came back
abbrev Tells : Record → Option Task → ℕ → Type 0
Tells r task life = ((t : Task) × (task ≡ Some t) × (r ≡ open_record r.client t)) ⊎ (1 ≤ life)

-- all that holds of the records of a run's world
abbrev pub AreTold : Setting → World → Type 0
AreTold s w = RecordsTellTasks w × TasksAreRecorded w × RecordsAreOfCorrect s w

pub some_once : {A : Type 0} (o : Option A) (a b : A) → o ≡ Some a → o ≡ Some b → a ≡ b
some_once o a b p q = cc

no_task : (t : Task) → ◌≡◌ {A = Option Task} None (Some t) → ⊥
no_task t e = absurd (cc)

-- the record that a client's move leaves is of what the move leaves under way
record IsLeft (c : ℕ) (o : Option Task) (new : Record) : Type 0 where
  pending : new.outcome ≡ None → (t : Task) × (o ≡ Some t) × (new ≡ open_record c t)
  kept : (t : Task) → o ≡ Some t → new ≡ open_record c t

left_open : (c : ℕ) (t : Task) → IsLeft c (Some t) (open_record c t)
left_open c t = record { pending = λ p. (t, refl, refl); kept = λ u e. let same : t ≡ u = some_once (Some t) t u refl e in ap (λ (x : Task). open_record c x) same }

module _ (replaced : (records : List Record) → OneIsReplaced records) (s : Setting) (w : World) (place : ℕ) (h : AreTold s w) where
  -- a new operation of an idle client
  starts : (c : ℕ) (task : Task) → w.task c ≡ None → s.lying_client c ≡ false
      → RecordsTellTasks (record w { task = update w.task c (Some task); records = w.records ++ open_record c task ∷ [] })
      × TasksAreRecorded (record w { task = update w.task c (Some task); records = w.records ++ open_record c task ∷ [] })
      × RecordsAreOfCorrect s (record w { task = update w.task c (Some task); records = w.records ++ open_record c task ∷ [] })
  starts c task idle right = (tell, recorded, correct)
    where
      came : (r : Record) → Tells r (w.task c) (w.life c) → Tells r (Some task) (w.life c)
      came r (inl busy) = absurd (let e = busy.1 in cc)
      came r (inr back) = inr back

      tell : (r : Record) → Contains (w.records ++ open_record c task ∷ []) r → r.outcome ≡ None → Tells r (update w.task c (Some task) r.client) (w.life r.client)
      tell r there pending = elim (Contains-append_cases w.records (open_record c task ∷ []) r there) [
        | inl old ↦ at_update (λ j o. Tells r o (w.life j)) w.task c (Some task) r.client (λ own. came r (subst (λ j. Tells r (w.task j) (w.life j)) own (h.0 r old pending))) (λ other. h.0 r old pending)
        | inr new ↦ subst (λ (x : Record). Tells x (update w.task c (Some task) x.client) (w.life x.client)) (sym (Contains-one r (open_record c task) new)) (inl (task, update-same w.task c (Some task), refl))
      ]

      recorded : (j : ℕ) (t : Task) → update w.task c (Some task) j ≡ Some t → Contains (w.records ++ open_record c task ∷ []) (open_record j t)
      recorded j t = at_update (λ i o. o ≡ Some t → Contains (w.records ++ open_record c task ∷ []) (open_record i t)) w.task c (Some task) j
          (λ own e. subst (λ (x : Task). Contains (w.records ++ open_record c task ∷ []) (open_record c x)) (some_once (Some task) task t refl e) (Contains-push w.records (open_record c task)))
          (λ other e. Contains-append_left w.records (open_record c task ∷ []) (open_record j t) (h.1 j t e))

      correct : (r : Record) → Contains (w.records ++ open_record c task ∷ []) r → s.lying_client r.client ≡ false
      correct r there = elim (Contains-append_cases w.records (open_record c task ∷ []) r there) [
        | inl old ↦ h.2 r old
        | inr new ↦ subst (λ (x : Record). s.lying_client x.client ≡ false) (sym (Contains-one r (open_record c task) new)) right
      ]

  -- the operation under way goes on or ends, and its record with it
  moves : (c : ℕ) (old : Task) (o : Option Task) (more : List Message) (new : Record) → w.task c ≡ Some old → new.client ≡ c → new.start ≡ old.start → IsLeft c o new → AreTold s (moved s w place c o more new)
  moves c old o more new busy client start left = (tell, recorded, correct)
    where
      apart_from : (r : Record) → (IsSameOperation r new → ⊥) → r.client ≡ c → Tells r (w.task c) (w.life c) → Tells r o (w.life c)
      apart_from r apart same (inl q) =
          let one : q.0 ≡ old = some_once (w.task c) q.0 old q.1 busy in
          absurd (apart (same ∙ sym client, ap (λ (x : Record). x.start) q.2 ∙ ap (λ (t : Task). t.start) one ∙ sym start))
      apart_from r apart same (inr back) = inr back

      own : (r : Record) → r ≡ new → r.outcome ≡ None → Tells r (update w.task c o r.client) (w.life r.client)
      own r is pending =
          let t = left.pending (sym (ap (λ (x : Record). x.outcome) is) ∙ pending) in
          subst (λ (x : Record). Tells x (update w.task c o x.client) (w.life x.client)) (sym (is ∙ t.2)) (inl (t.0, update-same w.task c o ∙ t.1, refl))

      tell : (r : Record) → Contains (with_record w.records new) r → r.outcome ≡ None → Tells r (update w.task c o r.client) (w.life r.client)
      tell r there pending = elim ((replaced w.records new r).0 there) [
        | inl is ↦ own r is.0 pending
        | inr rest ↦ at_update (λ j q. Tells r q (w.life j)) w.task c o r.client (λ same. apart_from r rest.1 same (subst (λ j. Tells r (w.task j) (w.life j)) same (h.0 r rest.0 pending))) (λ apart. h.0 r rest.0 pending)
      ]

      has : HasOperation w.records new
      has = (open_record c old, h.1 c old busy, (sym client, sym start))

      recorded : (j : ℕ) (t : Task) → update w.task c o j ≡ Some t → Contains (with_record w.records new) (open_record j t)
      recorded j t = at_update (λ i q. q ≡ Some t → Contains (with_record w.records new) (open_record i t)) w.task c o j
          (λ own e. (replaced w.records new (open_record c t)).1 (inl (sym (left.kept t e), has)))
          (λ other e. (replaced w.records new (open_record j t)).1 (inr (h.1 j t e, λ same. other (same.0 ∙ client))))

      correct : (r : Record) → Contains (with_record w.records new) r → s.lying_client r.client ≡ false
      correct r there = elim ((replaced w.records new r).0 there) [
        | inl is ↦ ap (λ (x : Record). s.lying_client x.client) is.0 ∙ ap s.lying_client client ∙ h.2 (open_record c old) (h.1 c old busy)
        | inr rest ↦ h.2 r rest.0
      ]

  decides : (c : ℕ) (task : Task) (d : Decision) (old : Task) → w.task c ≡ Some old → task.start ≡ old.start → AreTold s (decided s w place c task d)
  decides c task (GoesOn stage) old busy start = moves c old (Some (goes_on task stage)) (mail s c (goes_on task stage)) (open_record c (goes_on task stage)) busy refl start (left_open c (goes_on task stage))
  decides c task (Ends outcome) old busy start =
      moves c old None [] (closed_record c task place outcome) busy refl start (record {
        pending = λ p. absurd (let e : Some outcome ≡ None = p in cc);
        kept = λ t p. absurd (no_task t p);
      })

  advances : (c : ℕ) (task old : Task) → w.task c ≡ Some old → task.start ≡ old.start → AreTold s (advanced s w place c task)
  advances c task old busy start = at (ltb (answered s task.answers) (s.n - s.t))
    where
      at : (b : Bool) → AreTold s (cond b (moved s w place c (Some task) [] (open_record c task)) (decided s w place c task (decide s c task task.stage)))
      at true = moves c old (Some task) [] (open_record c task) busy refl start (left_open c task)
      at false = decides c task (decide s c task task.stage) old busy start

  hears_by : (c : ℕ) (o : Option Task) → w.task c ≡ o → (m : Message) (reply : Reply) → AreTold s (heard_by s w place c o m reply)
  hears_by c None busy m reply = h
  hears_by c (Some task) busy m reply = at (is_counted s task m.node m.tag reply)
    where
      at : (b : Bool) → AreTold s (cond b (advanced s w place c (counted task m.node reply)) (only_place s w place))
      at true = advances c (counted task m.node reply) task busy refl
      at false = h

  hears : (c : ℕ) (m : Message) (body : Body) → AreTold s (heard s w place c m body)
  hears c m (Asks ask) = h
  hears c m (Answers reply) = hears_by c (w.task c) refl m reply

  gives : (i : ℕ) (m : Message) (body : Body) → AreTold s (given s w place i m body)
  gives i m (Asks ask) = h
  gives i m (Answers reply) = h

  resends : (c : ℕ) (o : Option Task) → AreTold s (resent_by s w place c o)
  resends c None = h
  resends c (Some task) = h

  prunes : (i block : ℕ) (o : Option Stamp) → AreTold s (pruned_at s w place i block o)
  prunes i block None = h
  prunes i block (Some stamp) = h

  comes_back : (c : ℕ) → AreTold s (happens s w place (Back c))
  comes_back c = (tell, recorded, h.2)
    where
      tell : RecordsTellTasks (happens s w place (Back c))
      tell r there pending = elim (update-cases w.life c (w.life c + 1) r.client) [
        | inl same ↦ inr (let e = same.1 in omega (arith, e))
        | inr other ↦ elim (update-cases w.task c None r.client) [
          | inl same ↦ absurd (other.0 same.0)
          | inr idle ↦ subst (λ (o : Option Task). Tells r o (update w.life c (w.life c + 1) r.client)) (sym idle.1) (subst (λ (l : ℕ). Tells r (w.task r.client) l) (sym other.1) (h.0 r there pending))
        ]
      ]

      recorded : TasksAreRecorded (happens s w place (Back c))
      recorded j t = at_update (λ i o. o ≡ Some t → Contains w.records (open_record i t)) w.task c None j (λ own e. absurd (cc)) (λ other e. h.1 j t e)

  told_after : (e : Event) → Allowed s w place e → AreTold s (happens s w place e)
  told_after (Start c block work) a = starts c (begun (last_op w c + 1) block work place) a.idle a.correct
  told_after (Resend c) a = resends c (w.task c)
  told_after (Give i m) a = gives i m m.body
  told_after (Hear c m) a = hears c m m.body
  told_after (CrashNode i) a = h
  told_after (CrashClient c) a = h
  told_after (Lie m) a = h
  told_after (Prune i block) a = prunes i block (greatest_given block w.records)
  told_after (Back c) a = comes_back c

module _ (replaced : (records : List Record) → OneIsReplaced records) (s : Setting) where
  events_keep : (es : List Event) (w : World) (place : ℕ) → AllAllowed s w place es → AreTold s w → AreTold s (all_happen s w place es)
  events_keep [] w place a h = h
  events_keep (e ∷ es) w place a h = events_keep es (happens s w place e) place a.1 (told_after replaced s w place h e a.0)

  module _ (refuses : (lines : List (ℕ × Line)) (w : World) → IsRun s lines w → RefusesExactly s w) (apart : (w : World) → RunsComeApart s w) where
    lines_keep : (more done : List (ℕ × Line)) (w last : World) → IsRun s done w → AreTold s w → Run s w more last → AreTold s last
    lines_keep [] done w last run h rest = subst (AreTold s) (sym rest) h
    lines_keep (l ∷ ls) done w last run h rest =
        let next = plays s w l.0 l.1 in
        let can : IsPlayable s w l.0 l.1 = (refuses done w run l.0 l.1 rest.0 rest.1).0 rest.2 in
        let reached : IsRun s (done ++ l ∷ []) next = (apart (start_world s) done (l ∷ []) next).1 (w, run, (rest.0, rest.1, rest.2, refl)) in
        let kept : AreTold s next = events_keep (events s w l.1) w l.0 can.1 h in
        lines_keep ls (done ++ l ∷ []) next last reached kept rest.3

pub are_told : ((records : List Record) → OneIsReplaced records) → InEachRun RefusesExactly → ((s : Setting) (w : World) → RunsComeApart s w) → InEachRun AreTold
are_told replaced refuses apart c lying_node lying_client cluster lines w run =
    let s = setting_of c lying_node lying_client in
    lines_keep replaced s (λ ls v r. refuses c lying_node lying_client cluster ls v r) (apart s) lines [] (start_world s) w refl (
      λ r there pending. absurd (Contains-none r there),
      λ j t busy. absurd (no_task t busy),
      λ r there. absurd (Contains-none r there),
    ) run
