-- How high the times of a run rise, and that writes keep what they chose.
use Rattle.std.proofs.Common.{◌≡◌, ◌⊎◌, ℕ, ◌+◌, ◌-◌, ◌^◌, ◌≤◌, Bool, true, false, cond, ◌&&◌, List, [], ◌∷◌, ◌++◌, Option, refl, sym, ◌∙◌, ap, subst, inl, inr, arith, leb, eqb}
use Rattle.std.specs.declared.option.Option.TheVariants.{None, Some}
use Rattle.std.specs.List.{Contains}
use Rattle.std.proofs.lemmas.Bool.Decides.{nat_tests}
use Rattle.std.proofs.lemmas.List.Elements.{Contains-append_cases, Contains-append_left}
use Rattle.protocol.specs.Reach.{reaches, highest}
use Rattle.stamp_order.specs.declared.Stamp.{Stamp}
use Rattle.protocol.specs.Messages.{Reply, Body, Message}
use Rattle.wire_forms.specs.declared.Reply.TheVariants.{TimeIs, Found, Nothing, Ack, Refused}
use Rattle.wire_forms.specs.declared.Body.TheVariants.{Ask as Asks, Answer as Answers}
use Rattle.protocol.specs.Setting.{Setting, IsValid, honest, verifier_of}
use Rattle.protocol.specs.Operations.{Task, Work, Stage, Outcome, Decision, begun, first_work, answered, time_of, time_or_zero, decide, decide_time, drawn_from, stored, value_of, goes_on, mail}
use Rattle.protocol.specs.Operations.Work.{Reads, Writes}
use Rattle.protocol.specs.Operations.Stage.{Times, Versions, Storing}
use Rattle.run_words.specs.declared.outcome.Outcome.TheVariants.{Spent}
use Rattle.protocol.specs.Operations.Decision.{GoesOn, Ends}
use Rattle.protocol.specs.World.{World, Record, Event, Allowed, happens, given, heard, moved, resent_by, pruned_at, open_record, closed_record, chosen_stamp, stamp_of_outcome, under_way, greatest_given, with_record, last_op, IsAnswerTo, start_world}
use Rattle.protocol.specs.World.Event.{Start, Resend, Give, Hear, CrashNode, CrashClient, Lie, Prune, Back}
use Rattle.protocol.specs.History.{HasWrite}
use Rattle.protocol.specs.Bounds.{is_chosen, ceiling, IsLow}
use Rattle.protocol.proofs.lemmas.Counting.{both_true, count_shared, some_passes}
use Rattle.protocol.proofs.lemmas.Highest.{highest_is}
use Rattle.protocol.proofs.lemmas.Order.{times_order}
use Rattle.protocol.proofs.Invariant.{IsSafe, IsStage, IsOutcome, Fits}
use Rattle.protocol.proofs.lemmas.Rounds.{honest_many, fits_at}
use Rattle.protocol.proofs.Hearing.{IsDecision, full_decided}
use Rattle.protocol.proofs.Origins.{HasOrigins, IsKnown}
use Rattle.protocol.proofs.lemmas.Replacing.{with_cases}
use Rattle.protocol.proofs.Heard.{filled, AreSent, heard_case}
use Rattle.protocol.proofs.Choices.{IsNewer, writes_still, choices_still, choices_more, choices_push, only_open, keeps_stamp, lied_push, lie_low}
use Rattle.lists.proofs.lemmas.Members.{Contains-none, Contains-one}

pub start_low : (s : Setting) → IsLow s (start_world s)
start_low s = record { chosen = λ r value stamp h. absurd (Contains-none r h); spent = λ r h. absurd (Contains-none r h) }

-- what a world's records keep
abbrev pub KeepsWrites : List Record → List Record → Type 0
KeepsWrites rs us = (block : ℕ) (stamp : Stamp) → HasWrite rs block stamp → HasWrite us block stamp

module _ (s : Setting) (good : IsValid s) (w : World) (safe : IsSafe s w) (origins : HasOrigins s w) (place : ℕ) (later : w.place ≤ place) (c : ℕ) where
  module _ (task : Task) (answers : ℕ → Option Reply) (busy : under_way w c ≡ Some task) (sent : AreSent w c task answers) where
    abbrev old : Record
    old = open_record c task

    newer_same : IsNewer old (open_record c (filled task answers))
    newer_same = record { client = refl; start = refl; block = refl; work = refl; stamp = λ value t e f. f }

    newer_on : (stage : Stage) → decide s c (filled task answers) task.stage ≡ GoesOn stage → IsNewer old (open_record c (goes_on (filled task answers) stage))
    newer_on stage d = record { client = refl; start = refl; block = refl; work = refl; stamp = λ value t e f. let k = keeps_stamp s c task answers value t e f in (rw d at k) }

    newer_end : (outcome : Outcome) → decide s c (filled task answers) task.stage ≡ Ends outcome → IsNewer old (closed_record c (filled task answers) place outcome)
    newer_end outcome d = record { client = refl; start = refl; block = refl; work = refl; stamp = λ value t e f. let k = keeps_stamp s c task answers value t e f in (rw d at k) }

    only : (r : Record) → IsNewer old r → (x : Record) → Contains w.records x → x.client ≡ r.client → x.start ≡ r.start → x ≡ old
    only r n x h e f = only_open s w safe c task busy x h (e ∙ sym n.client) (f ∙ sym n.start)

    kept : (r : Record) → IsNewer old r → KeepsWrites w.records (with_record w.records r)
    kept r n = writes_still w.records old r n (only r n)

    pub ceiling_still : (r : Record) → IsNewer old r → (next : Option Task) (more : List Message) (block : ℕ) → ceiling s w block ≤ ceiling s (moved s w place c next more r) block
    ceiling_still r n next more block = omega (arith, lied_push s block w.pool more, choices_still w.records old r n (only r n) block)

  pub heard_writes : (m : Message) → Contains w.pool m → w.client_crashed c ≡ false → IsAnswerTo s c m → KeepsWrites w.records (heard s w place c m m.body).records
  heard_writes =
      heard_case s good w safe place later c (λ v. KeepsWrites w.records v.records) (λ block stamp h. h)
      (λ task answers busy sent. kept task answers busy sent (open_record c (filled task answers)) (newer_same task answers busy sent))
      (λ task answers busy sent enough stage e. kept task answers busy sent (open_record c (goes_on (filled task answers) stage)) (newer_on task answers busy sent stage e))
      (λ task answers busy sent enough outcome e. kept task answers busy sent (closed_record c (filled task answers) place outcome) (newer_end task answers busy sent outcome e))

  module _ (low : IsLow s w) where
    known_low : (block : ℕ) (stamp : Stamp) → IsKnown s w block stamp → stamp.time ≤ ceiling s w block
    known_low block stamp (inl e) = rw e (omega arith)
    known_low block stamp (inr (inl h)) = let k = low.chosen h.write h.value stamp h.there h.writes h.chose in rw h.of_block at k
    known_low block stamp (inr (inr h)) = omega (arith, lie_low s w block stamp h)

    module _ (task : Task) (answers : ℕ → Option Reply) (busy : under_way w c ≡ Some task) (sent : AreSent w c task answers) where
      low_open : (value : List ℕ) (t : Stamp) → task.work ≡ Writes value → chosen_stamp task.work task.stage ≡ Some t → t.time ≤ ceiling s w task.block
      low_open value t e f = low.chosen (open_record c task) value t (origins.tasks c task busy).1 e f

      abbrev IsLowDecision : Work → Decision → Type 0
      IsLowDecision work (GoesOn stage) =
          (value : List ℕ) (t : Stamp) → work ≡ Writes value → chosen_stamp work stage ≡ Some t → (t.time ≤ ceiling s w task.block) ⊎ ((t.time ≤ ceiling s w task.block + 1) × (is_chosen task.work (chosen_stamp task.work task.stage) ≡ false))
      IsLowDecision work (Ends outcome) =
          ((value : List ℕ) (t : Stamp) → work ≡ Writes value → stamp_of_outcome outcome ≡ Some t → t.time ≤ ceiling s w task.block) × (outcome ≡ Spent → 2 ^ 64 - 1 ≤ ceiling s w task.block)

      module _ (enough : s.n ≤ answered s answers + s.t) where
        time_is : (o : Option Reply) (x : ℕ) → reaches leb x (time_of o) ≡ true → (time : ℕ) × (o ≡ Some (TimeIs time)) × (x ≤ time)
        time_is (Some (TimeIs time)) x h = (time, refl, grind (arith, nat_tests))
        time_is None x h = absurd (cc)
        time_is (Some (Found v)) x h = absurd (cc)
        time_is (Some Nothing) x h = absurd (cc)
        time_is (Some Ack) x h = absurd (cc)
        time_is (Some (Refused reason)) x h = absurd (cc)

        fits_time : (i time : ℕ) (stage : Stage) → stage ≡ Times → Fits s w i task.block stage (TimeIs time) → (stamp : Stamp) × Rattle.protocol.proofs.Invariant.Accepts s w i task.block stamp × (time ≡ stamp.time)
        fits_time i time stage e h = let k : Fits s w i task.block Times (TimeIs time) = rw e at h in k

        accepted_low : (i : ℕ) (stamp : Stamp) → Rattle.protocol.proofs.Invariant.Accepts s w i task.block stamp → stamp.time ≤ ceiling s w task.block
        accepted_low i stamp (inl e) = rw e (omega arith)
        accepted_low i stamp (inr h) = known_low task.block stamp (origins.kept i task.block stamp h)

        drawn_low : task.stage ≡ Times → drawn_from s answers ≤ ceiling s w task.block
        drawn_low stage = at (highest leb s.n (λ i. time_of (answers i)) (s.b + 1)) refl
          where
            at : (o : Option ℕ) → highest leb s.n (λ i. time_of (answers i)) (s.b + 1) ≡ o → time_or_zero o ≤ ceiling s w task.block
            at None e = omega arith
            at (Some x) e =
                let g = highest_is leb times_order s.n (s.b + 1) (λ i. time_of (answers i)) x e in
                let both = λ (i : ℕ). honest s i && reaches leb x (time_of (answers i)) in
                let y = some_passes s.n both (omega (arith, count_shared s.n (honest s) (λ i. reaches leb x (time_of (answers i))), honest_many s good, g.3)) in
                let b = both_true _ _ y.2 in
                let t = time_is (answers y.0) x b.1 in
                let f = fits_time y.0 t.0 task.stage stage (fits_at s good w safe c task busy answers sent enough y.0 (TimeIs t.0) y.1 b.0 t.1) in
                omega (arith, t.2, f.2, accepted_low y.0 f.0 f.1)

        time_low : (value : List ℕ) → task.work ≡ Writes value → task.stage ≡ Times → IsLowDecision (Writes value) (decide_time s c value (drawn_from s answers))
        time_low value work stage = at (eqb (drawn_from s answers) (2 ^ 64 - 1)) refl
          where
            unchosen : is_chosen task.work (chosen_stamp task.work task.stage) ≡ false
            unchosen = rw (work, stage) refl

            new : Stamp
            new = record { time = drawn_from s answers + 1; client = c; verifier = verifier_of s value }

            at : (b : Bool) → eqb (drawn_from s answers) (2 ^ 64 - 1) ≡ b → IsLowDecision (Writes value) (cond b (Ends Spent) (GoesOn (Storing new value)))
            at true e = ((λ v t f g. absurd (cc g)), λ f. let d = drawn_low stage in let k : drawn_from s answers ≡ 2 ^ 64 - 1 = far (drawn_from s answers) e in omega (arith, d, k))
              where
                far : (x : ℕ) → eqb x (2 ^ 64 - 1) ≡ true → x ≡ 2 ^ 64 - 1
                far x e = grind (arith, nat_tests)
            at false e = λ v t f g. let q : new ≡ t = cc g in let z : new.time ≡ t.time = ap (λ (x : Stamp). x.time) q in inr (omega (arith, z, drawn_low stage), unchosen)

        no_spent : (outcome : Outcome) (stamp : Option Stamp) → IsOutcome s Reads stamp (Some outcome) → outcome ≡ Spent → ⊥
        no_spent outcome stamp h e = let k : IsOutcome s Reads stamp (Some Spent) = rw e at h in k

        reads_low : task.work ≡ Reads → (d : Decision) → IsDecision s good w safe place later c task busy answers sent Reads d → IsLowDecision Reads d
        reads_low e (GoesOn stage) h = λ value t f g. absurd (cc f)
        reads_low e (Ends outcome) h = ((λ value t f g. absurd (cc f)), λ f. absurd (no_spent outcome (stamp_of_outcome outcome) h.0 f))

        stored_low : (value v : List ℕ) (p : Stamp) → task.work ≡ Writes value → task.stage ≡ Storing p v → IsLowDecision (Writes value) (Ends (stored (Writes value) task.rounds p v))
        stored_low value v p e f = ((λ u t g h. low_open value t e (let k : chosen_stamp task.work task.stage ≡ Some p = rw (e, f) refl in k ∙ h)), λ g. absurd (cc g))

        decided_low : (work : Work) → task.work ≡ work → (stage : Stage) → task.stage ≡ stage → IsStage s work stage → IsLowDecision work (decide s c (filled task answers) stage)
        decided_low Reads e stage f h = reads_low e (decide s c (filled task answers) stage) (full_decided s good w safe place later c task busy answers sent enough stage f Reads e h)
        decided_low (Writes value) e Times f h = subst (λ (v : List ℕ). IsLowDecision (Writes value) (decide_time s c v (drawn_from s answers))) (sym (ap (value_of) e)) (time_low value e f)
        decided_low (Writes value) e (Versions bound) f h = absurd h
        decided_low (Writes value) e (Storing p v) f h = subst (λ (k : Work). IsLowDecision (Writes value) (Ends (stored k task.rounds p v))) (sym e) (stored_low value v p e f)

        decision : IsLowDecision task.work (decide s c (filled task answers) task.stage)
        decision = decided_low task.work refl task.stage refl (safe.tasks c task busy).stage

      went_low : (next : Option Task) (more : List Message) (r : Record) → IsNewer (open_record c task) r
          → ((value : List ℕ) (t : Stamp) → r.work ≡ Writes value → r.stamp ≡ Some t → t.time ≤ ceiling s (moved s w place c next more r) r.block)
          → (r.outcome ≡ Some Spent → 2 ^ 64 - 1 ≤ ceiling s (moved s w place c next more r) r.block) → IsLow s (moved s w place c next more r)
      went_low next more r n chosen spent = record {
        chosen = λ x value t h e f. elim (with_cases w.records r x h) [
          | inl k ↦ (let g = chosen value t (sym (ap (λ (y : Record). y.work) k) ∙ e) (sym (ap (λ (y : Record). y.stamp) k) ∙ f) in rw k g)
          | inr k ↦ omega (arith, low.chosen x value t k.0 e f, ceiling_still task answers busy sent r n next more x.block)
        ];
        spent = λ x h e. elim (with_cases w.records r x h) [
          | inl k ↦ (let g = spent (sym (ap (λ (y : Record). y.outcome) k) ∙ e) in rw k g)
          | inr k ↦ omega (arith, low.spent x k.0 e, ceiling_still task answers busy sent r n next more x.block)
        ];
      }

      on_low : s.n ≤ answered s answers + s.t → (stage : Stage) (e : decide s c (filled task answers) task.stage ≡ GoesOn stage)
          → IsLow s (moved s w place c (Some (goes_on (filled task answers) stage)) (mail s c (goes_on (filled task answers) stage)) (open_record c (goes_on (filled task answers) stage)))
      on_low enough stage e =
          let z : Task = goes_on (filled task answers) stage in
          let r : Record = open_record c z in
          let n = newer_on task answers busy sent stage e in
          let d : IsLowDecision task.work (GoesOn stage) = (let k = decision enough in rw e at k) in
          went_low (Some z) (mail s c z) r n (λ value t f g. elim (d value t f g) [
            | inl l ↦ omega (arith, l, ceiling_still task answers busy sent r n (Some z) (mail s c z) task.block)
            | inr l ↦
                (let now : is_chosen r.work r.stamp ≡ true = is_now r.work r.stamp value t f g in
                let more = choices_more w.records (open_record c task) r n (only task answers busy sent r n) task.block refl now l.1 (origins.tasks c task busy).1 in
                omega (arith, l.0, more, lied_push s task.block w.pool (mail s c z)))
          ]) (λ f. absurd (cc f))
        where
          is_now : (work : Work) (o : Option Stamp) (value : List ℕ) (t : Stamp) → work ≡ Writes value → o ≡ Some t → is_chosen work o ≡ true
          is_now work o value t e f = rw (e, f) refl

      end_low : s.n ≤ answered s answers + s.t → (outcome : Outcome) (e : decide s c (filled task answers) task.stage ≡ Ends outcome) → IsLow s (moved s w place c None [] (closed_record c (filled task answers) place outcome))
      end_low enough outcome e =
          let r : Record = closed_record c (filled task answers) place outcome in
          let n = newer_end task answers busy sent outcome e in
          let d : IsLowDecision task.work (Ends outcome) = (let k = decision enough in rw e at k) in
          went_low None [] r n (λ value t f g. omega (arith, d.0 value t f g, ceiling_still task answers busy sent r n None [] task.block))
          (λ f. omega (arith, d.1 (cc f), ceiling_still task answers busy sent r n None [] task.block))

      count_low : IsLow s (moved s w place c (Some (filled task answers)) [] (open_record c (filled task answers)))
      count_low =
          let r : Record = open_record c (filled task answers) in
          let n = newer_same task answers busy sent in
          went_low (Some (filled task answers)) [] r n (λ value t f g. omega (arith, low_open value t f g, ceiling_still task answers busy sent r n (Some (filled task answers)) [] task.block)) (λ f. absurd (cc f))

    heard_low : (m : Message) → Contains w.pool m → w.client_crashed c ≡ false → IsAnswerTo s c m → IsLow s (heard s w place c m m.body)
    heard_low = heard_case s good w safe place later c (λ v. IsLow s v) (record { chosen = low.chosen; spent = low.spent }) count_low on_low end_low

module _ (s : Setting) (good : IsValid s) (w : World) (safe : IsSafe s w) (origins : HasOrigins s w) (place : ℕ) where
  given_writes : (i : ℕ) (m : Message) (body : Body) → KeepsWrites w.records (given s w place i m body).records
  given_writes i m (Asks ask) = λ block stamp h. h
  given_writes i m (Answers reply) = λ block stamp h. h

  resent_writes : (c : ℕ) (o : Option Task) → KeepsWrites w.records (resent_by s w place c o).records
  resent_writes c None = λ block stamp h. h
  resent_writes c (Some task) = λ block stamp h. h

  pruned_writes : (i block : ℕ) (o : Option Stamp) → KeepsWrites w.records (pruned_at s w place i block o).records
  pruned_writes i block None = λ b stamp h. h
  pruned_writes i block (Some t) = λ b stamp h. h

  pub happens_writes : (e : Event) → Allowed s w place e → KeepsWrites w.records (happens s w place e).records
  happens_writes (Start c block work) h = λ b stamp k. record { write = k.write; there = Contains-append_left w.records _ k.write k.there; of_block = k.of_block; value = k.value; writes = k.writes; chose = k.chose }
  happens_writes (Resend c) h = resent_writes c (w.task c)
  happens_writes (Give i m) h = given_writes i m m.body
  happens_writes (Hear c m) h = heard_writes s good w safe origins place h.later c m h.sent h.up h.answers
  happens_writes (CrashNode i) h = λ b stamp k. k
  happens_writes (CrashClient c) h = λ b stamp k. k
  happens_writes (Lie m) h = λ b stamp k. k
  happens_writes (Prune i block) h = pruned_writes i block (greatest_given block w.records)
  happens_writes (Back c) h = λ b stamp k. k

  module _ (low : IsLow s w) where
    -- more messages, with the same records
    more_low : (v : World) (more : List Message) → v.pool ≡ w.pool ++ more → v.records ≡ w.records → IsLow s v
    more_low v more e f = record {
      chosen = λ r value t h g k. rw (e, f) (let q = low.chosen r value t (rw f at h) g k in omega (arith, q, lied_push s r.block w.pool more));
      spent = λ r h g. rw (e, f) (let q = low.spent r (rw f at h) g in omega (arith, q, lied_push s r.block w.pool more));
    }

    given_low : (i : ℕ) (m : Message) (body : Body) → IsLow s (given s w place i m body)
    given_low i m (Asks ask) = more_low (given s w place i m (Asks ask)) _ refl refl
    given_low i m (Answers reply) = record { chosen = low.chosen; spent = low.spent }

    resent_low : (c : ℕ) (o : Option Task) → IsLow s (resent_by s w place c o)
    resent_low c None = record { chosen = low.chosen; spent = low.spent }
    resent_low c (Some task) = more_low (resent_by s w place c (Some task)) (mail s c task) refl refl

    pruned_low : (i block : ℕ) (o : Option Stamp) → IsLow s (pruned_at s w place i block o)
    pruned_low i block None = record { chosen = low.chosen; spent = low.spent }
    pruned_low i block (Some stamp) = record { chosen = low.chosen; spent = low.spent }

    no_choice : (work : Work) (t : Stamp) → chosen_stamp work (first_work work) ≡ Some t → ⊥
    no_choice Reads t e = cc
    no_choice (Writes value) t e = cc

    started_low : (c block : ℕ) (work : Work) → IsLow s (happens s w place (Start c block work))
    started_low c block work =
        let new : Task = begun (last_op w c + 1) block work place in
        let more = λ (b : ℕ). lied_push s b w.pool (mail s c new) in
        let chose = λ (b : ℕ). choices_push b w.records (open_record c new) in
        record {
          chosen = λ r value t h e f. elim (Contains-append_cases w.records (open_record c new ∷ []) r h) [
            | inl k ↦ omega (arith, low.chosen r value t k e f, more r.block, chose r.block)
            | inr k ↦ absurd (no_choice work t (sym (ap (λ (x : Record). x.stamp) (Contains-one r (open_record c new) k)) ∙ f))
          ];
          spent = λ r h e. elim (Contains-append_cases w.records (open_record c new ∷ []) r h) [
            | inl k ↦ omega (arith, low.spent r k e, more r.block, chose r.block)
            | inr k ↦ absurd (let q : r.outcome ≡ None = ap (λ (x : Record). x.outcome) (Contains-one r (open_record c new) k) in cc)
          ];
        }

    pub happens_low : (e : Event) → Allowed s w place e → IsLow s (happens s w place e)
    happens_low (Start c block work) h = started_low c block work
    happens_low (Resend c) h = resent_low c (w.task c)
    happens_low (Give i m) h = given_low i m m.body
    happens_low (Hear c m) h = heard_low s good w safe origins place h.later c low m h.sent h.up h.answers
    happens_low (CrashNode i) h = record { chosen = low.chosen; spent = low.spent }
    happens_low (CrashClient c) h = record { chosen = low.chosen; spent = low.spent }
    happens_low (Lie m) h = more_low (happens s w place (Lie m)) (m ∷ []) refl refl
    happens_low (Prune i block) h = pruned_low i block (greatest_given block w.records)
    happens_low (Back c) h = record { chosen = low.chosen; spent = low.spent }
