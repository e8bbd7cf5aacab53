-- What has ended, and what isn't under way any more, stays; and each end and start is at the place of a line.
use Rattle.std.proofs.Common.{◌≡◌, ◌⊎◌, ◌↔◌, ℕ, ◌<◌, ◌≤◌, ◌&&◌, Bool, true, false, cond, eqb, List, [], ◌∷◌, ◌++◌, Option, refl, sym, ◌∙◌, ap, subst, inl, inr, arith}
use Rattle.std.specs.declared.option.Option.TheVariants.{None, Some}
use Rattle.std.specs.List.{Contains}
use Rattle.std.proofs.lemmas.List.Elements.{Contains-append_cases, Contains-append_left}
use Rattle.stamp_order.specs.declared.Stamp.{Stamp}
use Rattle.protocol.specs.Messages.{Body, Message}
use Rattle.wire_forms.specs.declared.Body.TheVariants.{Ask as Asks, Answer as Answers}
use Rattle.protocol.specs.Setting.{Setting, IsValid}
use Rattle.protocol.specs.Operations.{Task, Work, mail, goes_on}
use Rattle.protocol.specs.World.{World, Record, Event, Allowed, AllAllowed, happens, all_happen, moved, heard, given, resent_by, pruned_at, only_place, open_record, closed_record, replaced_by, under_way, unless, greatest_given, start_world, IsAnswerTo}
use Rattle.protocol.specs.World.Event.{Start, Resend, Give, Hear, CrashNode, CrashClient, Lie, Prune, Back}
use Rattle.protocol.specs.Lines.{Line, Run, events, plays}
use Rattle.protocol.specs.Facts.{IsSameOperation, HasOperation}
use Rattle.protocol.specs.Moments.{IsLineAt}
use Rattle.protocol.proofs.lemmas.Counting.{update-cases}
use Rattle.protocol.proofs.lemmas.Tests.{are_same}
use Rattle.protocol.proofs.lemmas.Replacing.{with_cases, with_iff}
use Rattle.protocol.proofs.Growing.{happens_more}
use Rattle.protocol.proofs.Invariant.{IsSafe}
use Rattle.protocol.proofs.lemmas.Sending.{unless_some, crash_fewer, back_fewer}
use Rattle.protocol.proofs.Starting.{task_cases}
use Rattle.protocol.proofs.Heard.{filled, heard_case}
use Rattle.protocol.proofs.Runs.{happens_safe}
use Rattle.protocol.proofs.lemmas.Playing.{no_fault, events_allowed}
use Rattle.protocol.proofs.Plays.{IsRight, start_right, plays_right, run_right}
use Rattle.protocol.proofs.Inductions.{run_keeps}
use Rattle.protocol.proofs.lemmas.Kept.{run_parts}
use Rattle.lists.proofs.lemmas.Members.{Contains-none, Contains-one, Contains-map}

-- an event takes place no earlier than those before it
allowed_later : (s : Setting) (w : World) (place : ℕ) (e : Event) → Allowed s w place e → w.place ≤ place
allowed_later s w place (Start c block work) h = let l = h.later in omega (arith, l)
allowed_later s w place (Resend c) h = h.later
allowed_later s w place (Give i m) h = h.later
allowed_later s w place (Hear c m) h = h.later
allowed_later s w place (CrashNode i) h = h.0
allowed_later s w place (CrashClient c) h = h.0
allowed_later s w place (Lie m) h = h.0
allowed_later s w place (Prune i block) h = h.later
allowed_later s w place (Back c) h = h.0

-- the record's operation isn't under way
abbrev pub IsOver : World → Record → Type 0
IsOver w r = (task : Task) → under_way w r.client ≡ Some task → task.start ≡ r.start → ⊥

-- from one world to a next one, at this place: what is under way was so before or has begun since; each operation stays, as it is if
-- it wasn't under way; what has ended had done so before, or ends at this place; what has begun had done so before, or has begun since
pub record IsStep (w : World) (place : ℕ) (v : World) : Type 0 where
  pub tasks : (c : ℕ) (z : Task) → under_way v c ≡ Some z → ((t : Task) × (under_way w c ≡ Some t) × (z.start ≡ t.start)) ⊎ (w.place < z.start)
  pub keep : (r : Record) → Contains w.records r → HasOperation v.records r
  pub stay : (r : Record) → Contains w.records r → IsOver w r → Contains v.records r
  pub ends : (r : Record) (end : ℕ) → Contains v.records r → r.end ≡ Some end → Contains w.records r ⊎ (end ≡ place)
  pub starts : (r : Record) → Contains v.records r → HasOperation w.records r ⊎ (w.place < r.start)

-- the records stay, and clients do what they did, or less
fewer : (w : World) (place : ℕ) (v : World) → v.records ≡ w.records → ((c : ℕ) (z : Task) → under_way v c ≡ Some z → under_way w c ≡ Some z) → IsStep w place v
fewer w place v same less = record {
  tasks = λ c z e. inl (z, less c z e, refl);
  keep = λ r h. (r, rw same h, (refl, refl));
  stay = λ r h over. rw same h;
  ends = λ r end h e. inl (rw same at h);
  starts = λ r h. inl (r, (rw same at h), (refl, refl));
}

-- what takes a record's place is of its operation
same_operation : (r x : Record) → IsSameOperation (replaced_by r x) x
same_operation r x = at (eqb x.client r.client && eqb x.start r.start) refl
  where
    at : (b : Bool) → eqb x.client r.client && eqb x.start r.start ≡ b → IsSameOperation (cond b r x) x
    at true e = let q = are_same x.client r.client x.start r.start e in (sym q.0, sym q.1)
    at false e = (refl, refl)

module _ (s : Setting) (w : World) (place c : ℕ) (task : Task) (busy : under_way w c ≡ Some task) where
  -- an operation goes on or ends, and a record takes the place of its own
  goes : (next : Option Task) (more : List Message) (r : Record) → r.client ≡ c → r.start ≡ task.start → ((end : ℕ) → r.end ≡ Some end → end ≡ place) → ((z : Task) → next ≡ Some z → z.start ≡ task.start)
      → IsStep w place (moved s w place c next more r)
  goes next more r of_c begun last same = record {
    tasks = λ d z h. inl (elim (update-cases w.task c next d) [
      | inl e ↦ (let k : unless (w.client_crashed d) next ≡ Some z = rw e.1 at h in (task, ap (under_way w) e.0 ∙ busy, same z (unless_some (w.client_crashed d) next z k).1))
      | inr e ↦ (let k : unless (w.client_crashed d) (w.task d) ≡ Some z = rw e.1 at h in (z, k, refl))
    ]);
    keep = λ x h. (replaced_by r x, Contains-map (replaced_by r) w.records x h, same_operation r x);
    stay = λ x h over. (with_iff w.records r x).1 (inr (h, λ k. over task (ap (under_way w) (k.0 ∙ of_c) ∙ busy) (sym (k.1 ∙ begun))));
    ends = λ x end h e. elim (with_cases w.records r x h) [ inl q ↦ inr (last end (sym (ap (λ (y : Record). y.end) q) ∙ e)) | inr q ↦ inl q.0 ];
    starts = λ x h. elim ((with_iff w.records r x).0 h) [
      | inl q ↦ inl (q.1.0, q.1.1, (q.1.2.0 ∙ sym (ap (λ (y : Record). y.client) q.0), q.1.2.1 ∙ sym (ap (λ (y : Record). y.start) q.0)))
      | inr q ↦ inl (x, q.0, (refl, refl))
    ];
  }

module _ (s : Setting) (good : IsValid s) (w : World) (safe : IsSafe s w) (place : ℕ) where
  hears : w.place ≤ place → (c : ℕ) (m : Message) → Contains w.pool m → w.client_crashed c ≡ false → IsAnswerTo s c m → IsStep w place (heard s w place c m m.body)
  hears later c m there up h =
      heard_case s good w safe place later c (IsStep w place)
      (fewer w place (only_place s w place) refl (λ d z e. e))
      (λ task answers busy sent. goes s w place c task busy (Some (filled task answers)) [] (open_record c (filled task answers)) refl refl (λ end e. absurd (cc e)) (λ z e. let q : filled task answers ≡ z = cc in sym (ap (λ (x : Task). x.start) q)))
      (λ task answers busy sent enough stage d.
      let next = goes_on (filled task answers) stage in
      goes s w place c task busy (Some next) (mail s c next) (open_record c next) refl refl (λ end e. absurd (cc e)) (λ z e. let q : next ≡ z = cc in sym (ap (λ (x : Task). x.start) q)))
      (λ task answers busy sent enough outcome d. goes s w place c task busy None [] (closed_record c (filled task answers) place outcome) refl refl (λ end e. at_place end e) (λ z e. absurd (cc e)))
      m there up h
    where
      at_place : (end : ℕ) → Some place ≡ Some end → end ≡ place
      at_place end e = cc

  begins : (c block : ℕ) (work : Work) → Allowed s w place (Start c block work) → IsStep w place (happens s w place (Start c block work))
  begins c block work h = record {
    tasks = λ d z e. elim (task_cases s w safe place h.later c block work h.client h.correct h.up h.idle h.fresh h.inside h.fits d z e) [
      | inl q ↦ (let a : z.start ≡ place = ap (λ (x : Task). x.start) q.1 in let l = h.later in inr (omega (arith, a, l)))
      | inr q ↦ inl (z, q.1, refl)
    ];
    keep = λ r k. (r, Contains-append_left w.records _ r k, (refl, refl));
    stay = λ r k over. Contains-append_left w.records _ r k;
    ends = λ r end k e. elim (Contains-append_cases w.records _ r k) [ inl q ↦ inl q | inr q ↦ absurd (let n = ap (λ (x : Record). x.end) (Contains-one r _ q) in cc) ];
    starts = λ r k. elim (Contains-append_cases w.records _ r k) [
      | inl q ↦ inl (r, q, (refl, refl))
      | inr q ↦ (let n : r.start ≡ place = ap (λ (x : Record). x.start) (Contains-one r _ q) in let l = h.later in inr (omega (arith, n, l)))
    ];
  }

  resends : (c : ℕ) (o : Option Task) → IsStep w place (resent_by s w place c o)
  resends c None = fewer w place (resent_by s w place c None) refl (λ d z e. e)
  resends c (Some task) = fewer w place (resent_by s w place c (Some task)) refl (λ d z e. e)

  gives : (i : ℕ) (m : Message) (body : Body) → IsStep w place (given s w place i m body)
  gives i m (Asks ask) = fewer w place _ refl (λ d z e. e)
  gives i m (Answers reply) = fewer w place _ refl (λ d z e. e)

  prunes : (i block : ℕ) (o : Option Stamp) → IsStep w place (pruned_at s w place i block o)
  prunes i block None = fewer w place _ refl (λ d z e. e)
  prunes i block (Some stamp) = fewer w place _ refl (λ d z e. e)

  pub happens_step : (e : Event) → Allowed s w place e → IsStep w place (happens s w place e)
  happens_step (Start c block work) h = begins c block work h
  happens_step (Resend c) h = resends c (w.task c)
  happens_step (Give i m) h = gives i m m.body
  happens_step (Hear c m) h = hears h.later c m h.sent h.up h.answers
  happens_step (CrashNode i) h = fewer w place (happens s w place (CrashNode i)) refl (λ d z e. e)
  happens_step (CrashClient c) h = fewer w place (happens s w place (CrashClient c)) refl (crash_fewer s w safe place h.0 c)
  happens_step (Lie m) h = fewer w place (happens s w place (Lie m)) refl (λ d z e. e)
  happens_step (Prune i block) h = prunes i block (greatest_given block w.records)
  happens_step (Back c) h = fewer w place (happens s w place (Back c)) refl (λ d z e. (back_fewer s w safe place h.0 c d z e).1)

-- ---- what isn't under way stays

-- the record is there, and its operation isn't under way
record IsLeft (r : Record) (w : World) : Type 0 where
  there : Contains w.records r
  over : IsOver w r

module _ (s : Setting) (good : IsValid s) where
  still_left : (r : Record) (w : World) → IsSafe s w → IsLeft r w → (place : ℕ) (e : Event) → Allowed s w place e → IsLeft r (happens s w place e)
  still_left r w safe left place e h =
      let step = happens_step s good w safe place e h in
      let early = (safe.records r left.there).start in
      record {
        there = step.stay r left.there left.over;
        over = λ z busy same. elim (step.tasks r.client z busy) [ inl t ↦ left.over t.0 t.1 (sym t.2 ∙ same) | inr l ↦ absurd (omega (arith, l, same, early)) ];
      }

  pub over_stays : (ls : List (ℕ × Line)) (w last : World) → IsRight s good w → Run s w ls last → (r : Record) → Contains w.records r → IsOver w r → Contains last.records r
  over_stays ls w last right run r there over =
      (run_keeps s good (IsLeft r) (still_left r) (λ v place h. record { there = h.there; over = h.over }) ls w last right run (record { there = there; over = over })).there

  -- what has ended isn't under way
  ended_over : (w : World) → IsRight s good w → (r : Record) (end : ℕ) → Contains w.records r → r.end ≡ Some end → IsOver w r
  ended_over w right r end there ended task busy same =
      let q : r ≡ open_record r.client task = (right.safe.records r there).running task busy (sym same) in
      let n : r.end ≡ None = ap (λ (x : Record). x.end) q in
      cc

  -- what a client does that has crashed isn't under way
  pub crashed_over : (w : World) (r : Record) → w.client_crashed r.client ≡ true → IsOver w r
  crashed_over w r down task busy same = let k = (unless_some (w.client_crashed r.client) (w.task r.client) task busy).0 in absurd (cc)

  pub ended_stays : (ls : List (ℕ × Line)) (w last : World) → IsRight s good w → Run s w ls last → (r : Record) (end : ℕ) → Contains w.records r → r.end ≡ Some end → Contains last.records r
  ended_stays ls w last right run r end there ended = over_stays ls w last right run r there (ended_over w right r end there ended)

  -- ---- ends are places of lines

  events_end : (place : ℕ) (es : List Event) (w : World) → IsSafe s w → AllAllowed s w place es → (r : Record) (end : ℕ) → Contains (all_happen s w place es).records r → r.end ≡ Some end → Contains w.records r ⊎ (end ≡ place)
  events_end place [] w safe h r end there ended = inl there
  events_end place (e ∷ es) w safe h r end there ended =
      elim (events_end place es (happens s w place e) (happens_safe s good w safe place e h.0) h.1 r end there ended)
      [ inl k ↦ (happens_step s good w safe place e h.0).ends r end k ended | inr k ↦ inr k ]

  -- one of the lines of a run from this world on has the place
  record Reaches (w : World) (lines : List (ℕ × Line)) (last : World) (place : ℕ) : Type 0 where
    before : World
    front : List (ℕ × Line)
    line : Line
    rest : List (ℕ × Line)
    parts : lines ≡ front ++ (place, line) ∷ rest
    run : Run s w front before
    on : Run s before ((place, line) ∷ rest) last
    later : w.place < place

  run_ends : (ls : List (ℕ × Line)) (w last : World) → IsRight s good w → Run s w ls last → (r : Record) (end : ℕ) → Contains last.records r → r.end ≡ Some end → Contains w.records r ⊎ Reaches w ls last end
  run_ends [] w last right run r end there ended = inl (rw run at there)
  run_ends (l ∷ ls) w last right run r end there ended =
      let next = plays s w l.0 l.1 in
      elim (run_ends ls next last (plays_right s good w right l.0 run.0 l.1 run.1 run.2) run.3 r end there ended) [
        | inl k ↦ elim (events_end l.0 (events s w l.1) w right.safe (events_allowed s good w right.safe l.0 run.0 l.1 run.1 (no_fault s w l.1 run.2)) r end k ended) [
          | inl m ↦ inl m
          | inr e ↦ inr (record {
            before = w;
            front = [];
            line = l.1;
            rest = ls;
            parts = (λ i. (sym e i, l.1) ∷ ls);
            run = refl;
            on = subst (λ (n : ℕ). Run s w ((n, l.1) ∷ ls) last) (sym e) run;
            later = (let a = run.0 in omega (arith, a, e));
          })
        ]
        | inr k ↦ inr (record {
          before = k.before;
          front = l ∷ k.front;
          line = k.line;
          rest = k.rest;
          parts = ap (λ (xs : List (ℕ × Line)). l ∷ xs) k.parts;
          run = (run.0, run.1, run.2, k.run);
          on = k.on;
          later = (let a = run.0 in let b = k.later in omega (arith, a, b));
        })
      ]

  pub ended_the_same : (ls : List (ℕ × Line)) (w last : World) → IsRight s good w → Run s w ls last → (r : Record) (end : ℕ) → r.end ≡ Some end → end ≤ w.place → Contains w.records r ↔ Contains last.records r
  ended_the_same ls w last right run r end ended by = (
    λ h. ended_stays ls w last right run r end h ended,
    λ h. elim (run_ends ls w last right run r end h ended) [ inl k ↦ k | inr k ↦ absurd (let l = k.later in omega (arith, l, by)) ],
  )

  -- ---- the line of an end

  pub at_line : (lines : List (ℕ × Line)) (w : World) → Run s (start_world s) lines w → (r : Record) (end : ℕ) → Contains w.records r → r.end ≡ Some end → (before : World) × (then : World) × IsLineAt s lines w end before then
  at_line lines w run r end there ended = elim (run_ends lines (start_world s) w (start_right s good) run r end there ended) [
    | inl k ↦ absurd (Contains-none r k)
    | inr k ↦ (k.before, plays s k.before end k.line, record { front = k.front; line = k.line; rest = k.rest; parts = k.parts; run = k.run; on = k.on; made = refl })
  ]

  module _ (lines : List (ℕ × Line)) (last : World) (end : ℕ) (before then : World) (at : IsLineAt s lines last end before then) where
    pub right_before : IsRight s good before
    right_before = run_right s good at.front (start_world s) before (start_right s good) at.run

    abbrev pub lines_then : List (ℕ × Line)
    lines_then = at.front ++ (end, at.line) ∷ []

    pub run_then : Run s (start_world s) lines_then then
    run_then = (run_parts s then ((end, at.line) ∷ []) at.front (start_world s)).1 (before, at.run, (at.on.0, at.on.1, at.on.2, at.made))

    pub on_then : Run s then at.rest last
    on_then = subst (λ (x : World). Run s x at.rest last) (sym at.made) at.on.3

    pub right_then : IsRight s good then
    right_then = run_right s good lines_then (start_world s) then (start_right s good) run_then

    -- what ends there has ended there, and hadn't before
    pub had_ended : (r : Record) → Contains last.records r → r.end ≡ Some end → Contains then.records r
    had_ended r there ended =
        let p : then.place ≡ end = ap (λ (x : World). x.place) at.made in
        (ended_the_same at.rest then last right_then on_then r end ended (omega (arith, p))).1 there

    pub not_ended : (r : Record) → Contains before.records r → r.end ≡ Some end → ⊥
    not_ended r there ended = let early = (right_before.safe.records r there).ended end ended in let l = at.on.0 in omega (arith, early, l)

  -- ---- operations stay, and begin at their places

  keeps_operation : (r : Record) (w : World) → IsSafe s w → HasOperation w.records r → (place : ℕ) (e : Event) → Allowed s w place e → HasOperation (happens s w place e).records r
  keeps_operation r w safe h place e may =
      let k = (happens_step s good w safe place e may).keep h.0 h.1 in
      (k.0, k.1, (k.2.0 ∙ h.2.0, k.2.1 ∙ h.2.1))

  -- each operation is one of before, or begins later
  events_begin : (place : ℕ) (es : List Event) (w : World) → IsSafe s w → AllAllowed s w place es → (r : Record) → Contains (all_happen s w place es).records r → HasOperation w.records r ⊎ (w.place < r.start)
  events_begin place [] w safe h r there = inl (r, there, (refl, refl))
  events_begin place (e ∷ es) w safe h r there =
      elim (events_begin place es (happens s w place e) (happens_safe s good w safe place e h.0) h.1 r there) [
        | inl k ↦ elim ((happens_step s good w safe place e h.0).starts k.0 k.1) [
          | inl m ↦ inl (m.0, m.1, (m.2.0 ∙ k.2.0, m.2.1 ∙ k.2.1))
          | inr l ↦ (let same = k.2.1 in inr (omega (arith, l, same)))
        ]
        | inr l ↦ (let m = allowed_later s w place e h.0 in let p = (happens_more s w place e).1 in inr (omega (arith, l, m, p)))
      ]

  run_begins : (ls : List (ℕ × Line)) (w last : World) → IsRight s good w → Run s w ls last → (r : Record) → Contains last.records r → HasOperation w.records r ⊎ (w.place < r.start)
  run_begins [] w last right run r there = inl (r, (rw run at there), (refl, refl))
  run_begins (l ∷ ls) w last right run r there =
      elim (run_begins ls (plays s w l.0 l.1) last (plays_right s good w right l.0 run.0 l.1 run.1 run.2) run.3 r there) [
        | inl k ↦ elim (events_begin l.0 (events s w l.1) w right.safe (events_allowed s good w right.safe l.0 run.0 l.1 run.1 (no_fault s w l.1 run.2)) k.0 k.1) [
          | inl m ↦ inl (m.0, m.1, (m.2.0 ∙ k.2.0, m.2.1 ∙ k.2.1))
          | inr m ↦ (let same = k.2.1 in inr (omega (arith, m, same)))
        ]
        | inr m ↦ (let a = run.0 in inr (omega (arith, m, a)))
      ]

  pub begun_stay : (ls : List (ℕ × Line)) (w last : World) → IsRight s good w → Run s w ls last → (r : Record) → r.start ≤ w.place → HasOperation w.records r ↔ HasOperation last.records r
  begun_stay ls w last right run r by = (
    λ h. run_keeps s good (λ v. HasOperation v.records r) (keeps_operation r) (λ v place h. h) ls w last right run h,
    λ h. elim (run_begins ls w last right run h.0 h.1) [
      | inl k ↦ (k.0, k.1, (k.2.0 ∙ h.2.0, k.2.1 ∙ h.2.1))
      | inr l ↦ absurd (let same = h.2.1 in omega (arith, l, same, by))
    ],
  )

-- ---- starts are places of lines, so none is 0

module _ (s : Setting) (good : IsValid s) where
  abbrev AreLate : World → Type 0
  AreLate w = (r : Record) → Contains w.records r → 0 < r.start

  still_late : (w : World) → IsSafe s w → AreLate w → (place : ℕ) (e : Event) → Allowed s w place e → AreLate (happens s w place e)
  still_late w safe late place e h r there =
      elim ((happens_step s good w safe place e h).starts r there) [ inl k ↦ (let l = late k.0 k.1 in let m = k.2.1 in omega (arith, l, m)) | inr l ↦ omega (arith, l) ]

  pub run_late : (lines : List (ℕ × Line)) (w : World) → Run s (start_world s) lines w → AreLate w
  run_late lines w run = run_keeps s good AreLate still_late (λ v place h. h) lines (start_world s) w (start_right s good) run (λ r h. absurd (Contains-none r h))
