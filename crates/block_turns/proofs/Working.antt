-- An operation under way, from what nodes kept when it began: what it may ask, what it was answered, what nodes keep then, and its end.
use Rattle.std.proofs.Common.{◌≡◌, ◌⊎◌, ℕ, suc, ◌+◌, ◌-◌, ◌^◌, ◌<◌, ◌≤◌, Bool, true, false, cond, not, ◌&&◌, ◌||◌, eqb, leb, ltb, List, [], ◌∷◌, length, replicate, Option, slice_get, get_or, set, refl, sym, ◌∙◌, ap, subst, inl, inr, arith}
use Rattle.std.specs.declared.option.Option.TheVariants.{None, Some}
use Rattle.std.specs.List.{Contains}
use Rattle.std.proofs.lemmas.Bool.{cases_eq, cases_lt, eqb-true}
use Rattle.std.proofs.lemmas.Bool.Decides.{nat_tests}
use Rattle.std.proofs.lemmas.List.{length-set, length-replicate, get_or-replicate, get_or-set_same, get_or-set_other, get_or_past}
use Rattle.std.proofs.lemmas.Option.{slice_get_within}
use Rattle.lists.proofs.lemmas.Members.{at_place}
use Rattle.stamp_order.specs.declared.Stamp.{Stamp}
use Rattle.stamp_order.specs.Stamps.{has, before, ◌≼◌}
use Rattle.run_words.specs.declared.outcome.Outcome.TheVariants.{Wrote, Spent, Gave, Outvoted}
use Rattle.wire_forms.specs.declared.Reply.TheVariants.{TimeIs, Found, Nothing, Ack, Refused}
use Rattle.wire_forms.specs.declared.Request.TheVariants.{Time, Read, Write}
use Rattle.wire_forms.specs.declared.Reason.TheVariants.{BadBlock}
use Rattle.protocol.specs.Count.{count, one_more}
use Rattle.protocol.specs.Reach.{reaches, highest}
use Rattle.protocol.specs.Messages.{Version, Ask, Reason, Reply, IsFormedReply}
use Rattle.protocol.specs.Nodes.{greatest_in, greatest_time, found, keeps, acknowledged, added, refusal, reply_in, accepts, after}
use Rattle.protocol.specs.Nodes as node
use Rattle.protocol.specs.Setting.{Setting, IsValid, Sound, verifier_of}
use Rattle.protocol.specs.Operations.{Work, Stage, Task, Outcome, Decision, is_answered, is_of_kind, time_of, time_or_zero, awaits_more, answered, drawn_from, pivot, decide, decide_time, decide_pivot, value_of, request_of, first_work, stored}
use Rattle.protocol.specs.Operations.Work.{Reads, Writes}
use Rattle.protocol.specs.Operations.Stage.{Times, Versions, Storing}
use Rattle.protocol.specs.Operations.Decision.{GoesOn, Ends}
use Rattle.protocol.specs.Seen.{SeenTask, task_at, answers_of, seen_begun, seen_counted, is_counted, by_decision, after_counting}
use Rattle.protocol.specs.Seen.Hearing.{Ignored, Counted}
use Rattle.protocol.proofs.lemmas.Counting.{count_shared, count_within, some_passes, both_true}
use Rattle.protocol.proofs.lemmas.Highest.{highest_above, highest_is}
use Rattle.protocol.proofs.lemmas.Keeping.{time_at_least, time_of_one, keeps-Contains, keeps-append, accepts_is, kept_or_added}
use Rattle.protocol.proofs.lemmas.Lists.{one_more_cases, one_more_new}
use Rattle.protocol.proofs.lemmas.Order.{lower_time, times_order}
use Rattle.protocol.proofs.lemmas.Rounds.{answered_is}
use Rattle.protocol.proofs.lemmas.Tests.{not_true}
use Rattle.block_phases.specs.Phases.{Keeps}
use Rattle.block_phases.specs.Phases.{Progress, tag_of, ask_to, progress, heard, heard_from, after_phase, AreAnswers, HasDone, IsAfterPhase}
use Rattle.block_phases.specs.Phases.Progress.{UnderWay, Over}
use Rattle.block_phases.specs.Executions.{StampedValue, value_stored, OnlyPresentAnswer, Phase, LeadTo, IsRunning, IsCompleted, IsGivenUp}
use Rattle.block_turns.specs.Lives.{version_of}
use Rattle.block_phases.proofs.lemmas.Hearing.{bare}
use Rattle.block_turns.proofs.KnownValues.{AreApart, IsState}
use Rattle.block_turns.proofs.Judging.{IsJudged, judged, upright_many, members_many, kept_there, or_kept}

both : (a c : Bool) → a ≡ true → c ≡ true → a && c ≡ true
both a c p q = rw (p, q) refl

below_false : (x y : ℕ) → ltb x y ≡ false → y ≤ x
below_false x y e = grind (arith, nat_tests)

leb_true : (x y : ℕ) → leb x y ≡ true → x ≤ y
leb_true x y e = grind (arith, nat_tests)

true_below : (x y : ℕ) → x < y → ltb x y ≡ true
true_below x y l = grind (arith, nat_tests)

-- there are no answers yet
none_at : (n i : ℕ) (nothing : Option Reply) → get_or (replicate n nothing) i nothing ≡ nothing
none_at n i nothing = elim (cases_lt i n) [
  | inl l ↦ get_or-replicate n i nothing nothing l
  | inr l ↦ get_or_past (replicate n nothing) i nothing (let m = length-replicate n nothing in omega arith)
]

-- ---- what a node keeps that did what was asked

module _ (s : Setting) (i : ℕ) (vs : List Version) (ask : Ask) where
  -- it keeps nothing new but what was to be written
  pub after_was : (v : Version) → Contains (after s i vs ask) v → Contains vs v ⊎ (ask.request ≡ Write v)
  after_was v h = elim (one_more_cases vs (accepts s i vs ask) v h) [ inl k ↦ inl k | inr e ↦ inr (accepts_is s i vs ask v e).asked ]

  more_keeps : (o : Option Version) (stamp : Stamp) → keeps vs stamp ≡ true → keeps (one_more vs o) stamp ≡ true
  more_keeps None stamp h = h
  more_keeps (Some u) stamp h = keeps-append vs (u ∷ []) stamp h

  pub after_still : (stamp : Stamp) → keeps vs stamp ≡ true → keeps (after s i vs ask) stamp ≡ true
  after_still stamp h = more_keeps (accepts s i vs ask) stamp h

  -- it keeps the same where nothing was to be written
  pub after_same : ((v : Version) → ask.request ≡ Write v → ⊥) → after s i vs ask ≡ vs
  after_same none = at (accepts s i vs ask) refl
    where
      at : (o : Option Version) → accepts s i vs ask ≡ o → one_more vs o ≡ vs
      at None e = refl
      at (Some v) e = absurd (none v (accepts_is s i vs ask v e).asked)

  pub reply_inside : ask.block < s.blocks → node.reply s i vs ask ≡ reply_in s i vs ask.request
  reply_inside l = ap (λ (b : Bool). cond b (reply_in s i vs ask.request) (Refused BadBlock)) (true_below ask.block s.blocks l)

  -- what isn't refused is kept
  pub after_has : (v : Version) → ask.block < s.blocks → ask.request ≡ Write v → refusal s i v ≡ None → keeps (after s i vs ask) v.stamp ≡ true
  after_has v l e f =
      elim (kept_or_added s i vs v f) [
        | inl k ↦ after_still v.stamp k
        | inr k ↦ keeps-Contains (after s i vs ask) v (one_more_new vs (accepts s i vs ask) v (is ∙ k))
      ]
    where
      is : accepts s i vs ask ≡ added (refusal s i v) vs v
      is = ap (λ (b : Bool). cond b (node.added_in s i vs ask.request) None) (true_below ask.block s.blocks l)
          ∙ ap (node.added_in s i vs) e

module _ (s : Setting) (good : IsValid s) (Seen : List ℕ → Type 0) (Ever : ℕ → Type 0) (apart : AreApart s Seen) (known : List StampedValue) (top : StampedValue)
    (away lies : ℕ → Bool) (limit : ℕ) (old : Keeps) (state : IsState s Seen Ever known top away lies limit old) where
  abbrev many : Keeps → Stamp → ℕ
  many kept p = count s.n (λ i. lies i || (away i || keeps (kept i) p))

  -- each node keeps what it kept
  abbrev pub IsSame : Keeps → Type 0
  IsSame now = (i : ℕ) → i < s.n → now i ≡ old i

  -- each node keeps what it kept, and maybe a version of this
  pub record IsStoring (x : StampedValue) (now : Keeps) : Type 0 where
    pub was : (i : ℕ) (v : Version) → i < s.n → Contains (now i) v → Contains (old i) v ⊎ (v ≡ version_of s x i)
    pub still : (i : ℕ) (stamp : Stamp) → i < s.n → keeps (old i) stamp ≡ true → keeps (now i) stamp ≡ true

  pub same_storing : (x : StampedValue) (now : Keeps) → IsSame now → IsStoring x now
  same_storing x now same = record {
    was = λ i v l h. inl (subst (λ (vs : List Version). Contains vs v) (same i l) h);
    still = λ i stamp l h. subst (λ (vs : List Version). keeps vs stamp ≡ true) (sym (same i l)) h;
  }

  -- the stamp is above the greatest that ended, and for the value that is to be written
  pub record IsFresh (value : List ℕ) (p : Stamp) (v : List ℕ) : Type 0 where
    pub same : v ≡ value
    pub sound : Sound s p v
    pub time : 0 < p.time
    pub later : before top.stamp p ≡ true
    pub low : p.time ≤ limit + 1

  -- what an operation may ask, and what nodes keep then
  abbrev pub IsStage : Work → Stage → Keeps → Type 0
  IsStage (Writes value) Times now = IsSame now
  IsStage (Writes value) (Storing p v) now = IsFresh value p v × IsStoring (record { stamp = p; value = v }) now
  IsStage (Writes value) (Versions bound) now = ⊥
  IsStage Reads Times now = ⊥
  IsStage Reads (Versions bound) now = IsSame now × (has bound top.stamp ≡ true)
  IsStage Reads (Storing p v) now =
      (top.stamp ≼ p) × Contains known (record { stamp = p; value = v }) × IsStoring (record { stamp = p; value = v }) now

  -- how it may end, and what nodes keep then
  abbrev pub IsEnd : Work → Outcome → Keeps → Type 0
  IsEnd (Writes value) (Wrote p) new =
      IsFresh value p value × IsStoring (record { stamp = p; value = value }) new × (s.qc + s.b ≤ many new p)
  IsEnd (Writes value) Spent new = IsSame new × (2 ^ 64 - 1 ≤ limit)
  IsEnd (Writes value) (Gave p v how rounds) new = ⊥
  IsEnd (Writes value) (Outvoted nodes) new = ⊥
  IsEnd Reads (Gave p v how rounds) new =
      (top.stamp ≼ p) × Contains known (record { stamp = p; value = v }) × IsStoring (record { stamp = p; value = v }) new
      × (s.qc + s.b ≤ many new p)
  IsEnd Reads (Outvoted nodes) new = ⊥
  IsEnd Reads (Wrote p) new = ⊥
  IsEnd Reads Spent new = ⊥

  -- what an answer tells that was counted
  abbrev pub IsSaid : Stage → Keeps → ℕ → Reply → Type 0
  IsSaid Times now i r = r ≡ TimeIs (greatest_time (old i))
  IsSaid (Versions bound) now i r = IsFormedReply r × (r ≡ found (greatest_in bound (old i)))
  IsSaid (Storing p v) now i r = keeps (now i) p ≡ true

  abbrev pub IsDecided : Work → Decision → Keeps → Type 0
  IsDecided work (GoesOn stage) now = IsStage work stage now
  IsDecided work (Ends outcome) now = IsEnd work outcome now

  -- ---- how a phase ends

  module _ (client : ℕ) (now : Keeps) (t : Task) (enough : s.n ≤ answered s t.answers + s.t) where
    -- the time drawn isn't below that of the greatest stamp that ended
    drawn_above : ((i : ℕ) (r : Reply) → t.answers i ≡ Some r → (i < s.n) × (away i ≡ false) × IsSaid Times now i r) → top.stamp.time ≤ drawn_from s t.answers
    drawn_above said =
        let high = highest_above leb times_order s.n (s.b + 1) (λ i. time_of (t.answers i)) top.stamp.time
        (λ i. not (lies i) && (away i || keeps (old i) top.stamp)) (λ i. is_answered (t.answers i)) (omega arith)
        (omega (arith, members_many s good Seen Ever apart known top away lies limit old state, enough, good.quorum_low)) each in
        let e : drawn_from s t.answers ≡ high.0 = ap time_or_zero high.1 in
        rw e (upto top.stamp.time high.0 high.2)
      where
        upto : (x y : ℕ) → leb x y ≡ true → x ≤ y
        upto x y h = grind (arith, nat_tests)

        each : (i : ℕ) → i < s.n → not (lies i) && (away i || keeps (old i) top.stamp) ≡ true → is_answered (t.answers i) ≡ true
            → reaches leb top.stamp.time (time_of (t.answers i)) ≡ true
        each i l m a =
            let r = answered_is (t.answers i) a in
            let f : t.answers i ≡ Some (TimeIs (greatest_time (old i))) = r.1 ∙ ap Some (said i r.0 r.1).2 in
            let h : top.stamp.time ≤ greatest_time (old i) = time_at_least (old i) top.stamp
            (kept_there (away i) (keeps (old i) top.stamp) (said i r.0 r.1).1 (both_true (not (lies i)) (away i || keeps (old i) top.stamp) m).1) in
            let e : leb top.stamp.time (greatest_time (old i)) ≡ true = grind (arith, nat_tests) in
            rw f e

    -- nor is it above all times that are known: one of those that reach it doesn't lie
    drawn_low : ((i : ℕ) (r : Reply) → t.answers i ≡ Some r → (i < s.n) × (away i ≡ false) × IsSaid Times now i r) → drawn_from s t.answers ≤ limit
    drawn_low said = at (highest leb s.n (λ i. time_of (t.answers i)) (s.b + 1)) refl
      where
        kept_low : (i : ℕ) → i < s.n → lies i ≡ false → away i ≡ false → greatest_time (old i) ≤ limit
        kept_low i l upright there = elim (time_of_one (old i)) [
          | inl e ↦ omega (arith, e)
          | inr v ↦ (
              let g = state.grounded i v.0 l upright there v.1 in
              let e : v.0.stamp.time ≡ g.0.stamp.time = ap (λ (u : Version). u.stamp.time) g.2 in
              let f = state.low g.0 g.1 in
              let h = v.2 in
              omega (arith, e, f, h))
        ]

        by : (x i : ℕ) → i < s.n → lies i ≡ false → (o : Option Reply) → t.answers i ≡ o → reaches leb x (time_of o) ≡ true → x ≤ limit
        by x i l upright None e h = absurd cc
        by x i l upright (Some r) e h =
            let q = said i r e in
            let g : reaches leb x (Some (greatest_time (old i))) ≡ true =
            subst (λ (y : Reply). reaches leb x (time_of (Some y)) ≡ true) q.2 h in
            let m : x ≤ greatest_time (old i) = leb_true x (greatest_time (old i)) g in
            let k = kept_low i l upright q.1 in
            omega (arith, m, k)

        at : (o : Option ℕ) → highest leb s.n (λ i. time_of (t.answers i)) (s.b + 1) ≡ o → time_or_zero o ≤ limit
        at None e = omega arith
        at (Some x) e =
            let h = highest_is leb times_order s.n (s.b + 1) (λ i. time_of (t.answers i)) x e in
            let shared = count_shared s.n (λ i. reaches leb x (time_of (t.answers i))) (λ i. not (lies i)) in
            let some = h.3 in
            let i = some_passes s.n (λ i. reaches leb x (time_of (t.answers i)) && not (lies i))
            (omega (arith, shared, some, upright_many s good Seen Ever apart known top away lies limit old state)) in
            let c = both_true _ _ i.2 in
            by x i.0 i.1 (not_true (lies i.0) c.1) (t.answers i.0) refl c.0

    time_decided : (value : List ℕ) (x : ℕ) → top.stamp.time ≤ x → x ≤ limit → IsSame now → IsDecided (Writes value) (decide_time s client value x) now
    time_decided value x high low same = at (eqb x (2 ^ 64 - 1)) refl
      where
        p : Stamp
        p = record { time = x + 1; client = client; verifier = verifier_of s value }

        at : (b : Bool) → eqb x (2 ^ 64 - 1) ≡ b → IsDecided (Writes value) (cond b (Ends Spent) (GoesOn (Storing (record { time = x + 1; client = client; verifier = verifier_of s value }) value))) now
        at true e = (same, (let f : x ≡ 2 ^ 64 - 1 = eqb-true x (2 ^ 64 - 1) e in omega (arith, f, low)))
        at false e = (
          record { same = refl; sound = refl; time = omega arith; later = lower_time top.stamp (record { time = x + 1; client = client; verifier = verifier_of s value }) (omega (arith, high)); low = omega (arith, low) },
          same_storing _ now same,
        )

    -- where n-t nodes keep it, enough do
    stored_by : (p : Stamp) → ((i : ℕ) (r : Reply) → t.answers i ≡ Some r → (i < s.n) × (away i ≡ false) × (keeps (now i) p ≡ true)) → s.qc + s.b ≤ many now p
    stored_by p said =
        let within = count_within s.n (λ i. is_answered (t.answers i)) (λ i. lies i || (away i || keeps (now i) p)) each in
        omega (arith, within, enough, good.quorum_high)
      where
        each : (i : ℕ) → i < s.n → is_answered (t.answers i) ≡ true → lies i || (away i || keeps (now i) p) ≡ true
        each i l c =
            let r = answered_is (t.answers i) c in
            or_kept (lies i) _ (or_kept (away i) _ (said i r.0 r.1).2)

    judged_decided : (d : Decision) → IsJudged s good Seen Ever apart known top away lies limit old state d → IsSame now → IsDecided Reads d now
    judged_decided (GoesOn Times) h same = absurd h
    judged_decided (GoesOn (Versions bound)) h same = (same, h)
    judged_decided (GoesOn (Storing p v)) h same = (h.0, h.1, same_storing _ now same)
    judged_decided (Ends (Gave p v how rounds)) h same =
        (h.0, h.1, same_storing _ now same, kept)
      where
        kept : s.qc + s.b ≤ many now p
        kept =
            let within = count_within s.n (λ i. lies i || (away i || keeps (old i) p)) (λ i. lies i || (away i || keeps (now i) p))
            (λ i l c. subst (λ (vs : List Version). lies i || (away i || keeps vs p) ≡ true) (sym (same i l)) c) in
            omega (arith, within, h.2)
    judged_decided (Ends (Outvoted nodes)) h same = absurd h
    judged_decided (Ends Spent) h same = absurd h
    judged_decided (Ends (Wrote p)) h same = absurd h

    decided : (work : Work) (stage : Stage) → t.work ≡ work → IsStage work stage now
        → ((i : ℕ) (r : Reply) → t.answers i ≡ Some r → (i < s.n) × (away i ≡ false) × IsSaid stage now i r)
        → IsDecided work (decide s client t stage) now
    decided (Writes value) Times e is said =
        subst (λ (w : Work). IsDecided (Writes value) (decide_time s client (value_of w) (drawn_from s t.answers)) now) (sym e)
        (time_decided value (drawn_from s t.answers) (drawn_above said) (drawn_low said) is)
    decided (Writes value) (Storing p v) e is said =
        subst (λ (w : Work). IsEnd (Writes value) (stored w t.rounds p v) now) (sym e) (
          subst (λ (u : List ℕ). IsFresh value p u) is.0.same is.0,
          subst (λ (u : List ℕ). IsStoring (record { stamp = p; value = u }) now) is.0.same is.1,
          stored_by p said,
        )
    decided (Writes value) (Versions bound) e is said = absurd is
    decided Reads Times e is said = absurd is
    decided Reads (Versions bound) e is said =
        judged_decided (decide_pivot s t.answers bound t.rounds (pivot s t.answers bound))
        (judged s good Seen Ever apart known top away lies limit old state t.answers bound (λ i r h. let q = said i r h in (q.0, q.1, q.2.0, q.2.1)) enough is.1 t.rounds)
        is.0
    decided Reads (Storing p v) e is said =
        subst (λ (w : Work). IsEnd Reads (stored w t.rounds p v) now) (sym e) (is.0, is.1, is.2, stored_by p said)

  -- ---- an operation under way

  module _ (block : ℕ) (inside : block < s.blocks) (client : ℕ) (work : Work) where
    pub record IsWorking (u : SeenTask) (now : Keeps) : Type 0 where
      pub of_block : u.block ≡ block
      pub of_work : u.work ≡ work
      pub long : length u.answers ≡ s.n
      pub stage : IsStage work u.stage now
      pub said : (i : ℕ) (r : Reply) → answers_of u i ≡ Some r → (i < s.n) × (away i ≡ false) × IsSaid u.stage now i r

    -- ---- one phase

    module _ (task : SeenTask) (now then : Keeps) (is : IsWorking task now) where
      abbrev ask_of_node : ℕ → Ask
      ask_of_node i = ask_to s task i

      asks_inside : (i : ℕ) → (ask_of_node i).block < s.blocks
      asks_inside i = subst (λ (b : ℕ). b < s.blocks) (sym is.of_block) inside

      -- each node has done what was asked, or hasn't
      module _ (part : (i : ℕ) → i < s.n → (then i ≡ now i) ⊎ HasDone s task i (now i) (then i)) where
        same_then : ((i : ℕ) (v : Version) → request_of s task.stage i ≡ Write v → ⊥) → IsSame now → IsSame then
        same_then none same i l = elim (part i l) [
          | inl e ↦ e ∙ same i l
          | inr e ↦ e ∙ after_same s i (now i) (ask_of_node i) (none i) ∙ same i l
        ]

        storing_then : (p : Stamp) (v : List ℕ) → task.stage ≡ Storing p v → IsStoring (record { stamp = p; value = v }) now
            → IsStoring (record { stamp = p; value = v }) then
        storing_then p v e h = record {
          was = λ i u l k. elim (part i l) [
            | inl f ↦ h.was i u l (subst (λ (vs : List Version). Contains vs u) f k)
            | inr f ↦ elim (after_was s i (now i) (ask_of_node i) u (subst (λ (vs : List Version). Contains vs u) f k)) [
              | inl g ↦ h.was i u l g
              | inr g ↦ inr (
                  let q : Write u ≡ Write (version_of s (record { stamp = p; value = v }) i) = sym g ∙ ap (λ (x : Stage). request_of s x i) e in
                  cc)
            ]
          ];
          still = λ i stamp l k. elim (part i l) [
            | inl f ↦ subst (λ (vs : List Version). keeps vs stamp ≡ true) (sym f) (h.still i stamp l k)
            | inr f ↦ subst (λ (vs : List Version). keeps vs stamp ≡ true) (sym f) (after_still s i (now i) (ask_of_node i) stamp (h.still i stamp l k))
          ];
        }

        still_then : (i : ℕ) (p : Stamp) → i < s.n → keeps (now i) p ≡ true → keeps (then i) p ≡ true
        still_then i p l k = elim (part i l) [
          | inl f ↦ subst (λ (vs : List Version). keeps vs p ≡ true) (sym f) k
          | inr f ↦ subst (λ (vs : List Version). keeps vs p ≡ true) (sym f) (after_still s i (now i) (ask_of_node i) p k)
        ]

        pub stage_then : (w : Work) (stage : Stage) → task.stage ≡ stage → IsStage w stage now → IsStage w stage then
        stage_then (Writes value) Times e h = same_then (λ i v f. absurd (let g : Time ≡ Write v = sym (ap (λ (x : Stage). request_of s x i) e) ∙ f in cc)) h
        stage_then (Writes value) (Storing p v) e h = (h.0, storing_then p v e h.1)
        stage_then (Writes value) (Versions bound) e h = h
        stage_then Reads Times e h = h
        stage_then Reads (Versions bound) e h =
            (same_then (λ i v f. absurd (let g : Read bound ≡ Write v = sym (ap (λ (x : Stage). request_of s x i) e) ∙ f in cc)) h.0, h.1)
        stage_then Reads (Storing p v) e h = (h.0, h.1, storing_then p v e h.2)

        said_then : (stage : Stage) (i : ℕ) (r : Reply) → i < s.n → IsSaid stage now i r → IsSaid stage then i r
        said_then Times i r l h = h
        said_then (Versions bound) i r l h = h
        said_then (Storing p v) i r l h = still_then i p l h

        working_then : IsWorking task then
        working_then = record {
          of_block = is.of_block;
          of_work = is.of_work;
          long = is.long;
          stage = stage_then work task.stage refl is.stage;
          said = λ i r e. (let h = is.said i r e in (h.0, h.1, said_then task.stage i r h.0 h.2));
        }

      -- what a node answered that did what was asked
      acked : (o : Option Reason) → acknowledged o ≡ Ack → o ≡ None
      acked None e = refl
      acked (Some reason) e = absurd (let f : Refused reason ≡ Ack = e in cc)

      is_ack : (p : Stamp) (v : List ℕ) (r : Reply) → is_of_kind (Storing p v) r ≡ true → r ≡ Ack
      is_ack p v Ack e = refl
      is_ack p v (TimeIs time) e = absurd cc
      is_ack p v (Found u) e = absurd cc
      is_ack p v Nothing e = absurd cc
      is_ack p v (Refused reason) e = absurd cc

      same_now : (w : Work) (stage : Stage) → IsStage w stage now → (i : ℕ) → i < s.n → ((v : Version) → request_of s stage i ≡ Write v → ⊥) → now i ≡ old i
      same_now (Writes value) Times h i l none = h i l
      same_now (Writes value) (Storing p v) h i l none = absurd (none (version_of s (record { stamp = p; value = v }) i) refl)
      same_now (Writes value) (Versions bound) h i l none = absurd h
      same_now Reads Times h i l none = absurd h
      same_now Reads (Versions bound) h i l none = h.0 i l
      same_now Reads (Storing p v) h i l none = absurd (none (version_of s (record { stamp = p; value = v }) i) refl)

      says : (i : ℕ) (r : Reply) (stage : Stage) → task.stage ≡ stage → IsStage work stage now → i < s.n → IsFormedReply r
          → r ≡ node.reply s i (now i) (ask_of_node i) → HasDone s task i (now i) (then i) → is_of_kind stage r ≡ true → IsSaid stage then i r
      says i r Times e h l formed given done kind =
          given ∙ reply_inside s i (now i) (ask_of_node i) (asks_inside i) ∙ ap (λ (x : Stage). reply_in s i (now i) (request_of s x i)) e
          ∙ ap (λ (vs : List Version). TimeIs (greatest_time vs)) (same_now work Times h i l (λ v f. absurd (let g : Time ≡ Write v = f in cc)))
      says i r (Versions bound) e h l formed given done kind = (
        formed,
        given ∙ reply_inside s i (now i) (ask_of_node i) (asks_inside i) ∙ ap (λ (x : Stage). reply_in s i (now i) (request_of s x i)) e
            ∙ ap (λ (vs : List Version). found (greatest_in bound vs)) (same_now work (Versions bound) h i l (λ v f. absurd (let g : Read bound ≡ Write v = f in cc))),
      )
      says i r (Storing p v) e h l formed given done kind =
          let u = version_of s (record { stamp = p; value = v }) i in
          let asked : (ask_of_node i).request ≡ Write u = ap (λ (x : Stage). request_of s x i) e in
          let says : r ≡ acknowledged (refusal s i u) =
          given ∙ reply_inside s i (now i) (ask_of_node i) (asks_inside i) ∙ ap (reply_in s i (now i)) asked in
          let fine : refusal s i u ≡ None = acked (refusal s i u) (sym says ∙ is_ack p v r kind) in
          subst (λ (vs : List Version). keeps vs p ≡ true) (sym done) (after_has s i (now i) (ask_of_node i) u (asks_inside i) asked fine)

      -- ---- its answers are heard, node by node

      -- the operation goes on in this phase or a further one, or it has ended
      abbrev pub IsSoFar : Progress → Type 0
      IsSoFar (UnderWay u) = IsWorking u then × ((bare u ≡ bare task) ⊎ (task.phase < u.phase))
      IsSoFar (Over outcome) = IsEnd work outcome then

      abbrev pub MaySay : ℕ → Option Reply → Type 0
      MaySay i given = (r : Reply) → given ≡ Some r → (i < s.n) × (away i ≡ false) × (is_of_kind task.stage r ≡ true → IsSaid task.stage then i r)

      module _ (u : SeenTask) (i : ℕ) (r : Reply) (w : IsWorking u then) (below : i < s.n) (there : away i ≡ false)
          (h : IsSaid u.stage then i r) where
        abbrev next : SeenTask
        next = seen_counted u i r

        next_said : (j : ℕ) (x : Reply) → answers_of next j ≡ Some x → (j < s.n) × (away j ≡ false) × IsSaid u.stage then j x
        next_said j x e = elim (cases_eq j i) [
          | inl same ↦ (
              let here : Some r ≡ Some x = sym (get_or-set_same u.answers i (Some r) None (let l = w.long in omega (arith, l, below)))
              ∙ ap (λ (k : ℕ). get_or (set u.answers i (Some r)) k None) (sym same) ∙ e in
              let is_x : r ≡ x = cc in
              (omega (arith, below, same), ap away same ∙ there, subst (λ (k : ℕ). IsSaid u.stage then k x) (sym same) (subst (λ (y : Reply). IsSaid u.stage then i y) is_x h)))
          | inr other ↦ w.said j x (sym (get_or-set_other u.answers i j (Some r) None other) ∙ e)
        ]

        next_working : IsWorking next then
        next_working = record {
          of_block = w.of_block;
          of_work = w.of_work;
          long = length-set u.answers i (Some r) ∙ w.long;
          stage = w.stage;
          said = next_said;
        }

        by_d : (d : Decision) → bare u ≡ bare task → IsDecided work d then → IsSoFar (progress s u (by_decision s next d))
        by_d (GoesOn stage) same h = (
          record {
            of_block = w.of_block;
            of_work = w.of_work;
            long = length-replicate s.n None;
            stage = h;
            said = λ j x e. absurd (let f = none_at s.n j None in cc);
          },
          inr (let p : u.phase ≡ task.phase = ap (λ (t : SeenTask). t.phase) same in omega (arith, p)),
        )
        by_d (Ends outcome) same h = h

        counted_so : bare u ≡ bare task → IsSoFar (progress s u (after_counting s client next))
        counted_so same = at (awaits_more s (task_at 0 next)) refl
          where
            at : (b : Bool) → awaits_more s (task_at 0 next) ≡ b
                → IsSoFar (progress s u (cond b (Counted next) (by_decision s next (decide s client (task_at 0 next) next.stage))))
            at true e = (next_working, inl same)
            at false e =
                by_d (decide s client (task_at 0 next) next.stage) same
                (decided client then (task_at 0 next) (let l = below_false _ _ e in omega (arith, l)) work u.stage w.of_work w.stage next_said)

      five : (a b c d e : Bool) → a && b && c && d && e ≡ true → (b ≡ true) × (d ≡ true)
      five a b c d e h =
          let p = both_true _ _ h in
          let q = both_true _ _ p.0 in
          let r = both_true _ _ q.0 in
          let t = both_true _ _ r.0 in
          (t.1, q.1)

      too_late : (x y : ℕ) → x < y → x ≡ y → ⊥
      too_late x y l e = omega arith

      hear_one : (p : Progress) (i : ℕ) (given : Option Reply) → IsSoFar p → MaySay i given → IsSoFar (heard s client (tag_of task) p i given)
      hear_one (Over outcome) i given h may = h
      hear_one (UnderWay u) i None h may = h
      hear_one (UnderWay u) i (Some r) h may = at (is_counted s u i (tag_of task) r) refl
        where
          at : (b : Bool) → is_counted s u i (tag_of task) r ≡ b → IsSoFar (progress s u (cond b (after_counting s client (seen_counted u i r)) Ignored))
          at false e = h
          at true e =
              let c : (eqb task.phase u.phase ≡ true) × (is_of_kind u.stage r ≡ true) = five _ _ _ _ _ e in
              let phase : task.phase ≡ u.phase = eqb-true task.phase u.phase c.0 in
              elim h.1 [
                | inr late ↦ absurd (too_late task.phase u.phase late phase)
                | inl same ↦ (
                    let stages : u.stage ≡ task.stage = ap (λ (t : SeenTask). t.stage) same in
                    let m = may r refl in
                    counted_so u i r h.0 m.0 m.1
                    (subst (λ (x : Stage). IsSaid x then i r) (sym stages) (m.2 (subst (λ (x : Stage). is_of_kind x r ≡ true) stages c.1)))
                    same)
              ]

      hear_all : (replies : List (Option Reply)) (p : Progress) (i : ℕ) → IsSoFar p
          → ((k : ℕ) (given : Option Reply) → slice_get replies k ≡ Some given → MaySay (i + k) given)
          → IsSoFar (heard_from s client (tag_of task) p i replies)
      hear_all [] p i h may = h
      hear_all (g ∷ rest) p i h may =
          hear_all rest (heard s client (tag_of task) p i g) (suc i)
          (hear_one p i g h (subst (λ (j : ℕ). MaySay j g) (let e : i + 0 ≡ i = omega arith in e) (may 0 g refl)))
          (λ k given e. subst (λ (j : ℕ). MaySay j given) (let f : i + suc k ≡ suc i + k = omega arith in f) (may (suc k) given e))

      pub phase_comes : (replies : List (Option Reply)) → AreAnswers s task now replies → OnlyPresentAnswer away replies → IsAfterPhase s task now replies then
          → IsSoFar (after_phase s client task replies)
      phase_comes replies are there done =
          hear_all replies (UnderWay task) 0 (working_then part, inl refl)
          (λ k given e. subst (λ (j : ℕ). MaySay j given) (let f : k ≡ 0 + k = omega arith in f) (may k given e))
        where
          part : (i : ℕ) → i < s.n → (then i ≡ now i) ⊎ HasDone s task i (now i) (then i)
          part i l =
              let x = at_place replies i (let n = are.count in omega (arith, n, l)) in
              at x.0 x.1
            where
              at : (given : Option Reply) → slice_get replies i ≡ Some given → (then i ≡ now i) ⊎ HasDone s task i (now i) (then i)
              at None e = done.silent i e
              at (Some r) e = inr (done.answered i r e)

          may : (k : ℕ) (given : Option Reply) → slice_get replies k ≡ Some given → MaySay k given
          may k given e r f =
              let l : k < s.n = (let w = slice_get_within replies k given e in let n = are.count in omega (arith, w, n)) in
              let g : slice_get replies k ≡ Some (Some r) = e ∙ ap Some f in
              (l, there k r g, λ kind. says k r task.stage refl is.stage l (are.formed k r g) (are.answers k r g) (done.answered k r g) kind)

    -- ---- the whole operation

    first_stage : (w : Work) (now : Keeps) → IsSame now → IsStage w (first_work w) now
    first_stage Reads now same = (same, refl)
    first_stage (Writes value) now same = same

    begun_working : (op : ℕ) (now : Keeps) → IsSame now → IsWorking (seen_begun s op block work) now
    begun_working op now same = record {
      of_block = refl;
      of_work = refl;
      long = length-replicate s.n None;
      stage = first_stage work now same;
      said = λ j x e. absurd (let f = none_at s.n j None in cc);
    }

    led_working : (op : ℕ) (phases : List Phase) (task : SeenTask) (now : Keeps) → LeadTo s away block client work op old phases task now
        → IsWorking task now
    led_working op [] task now h = subst (λ (u : SeenTask). IsWorking u now) (sym h.0) (begun_working op now h.1)
    led_working op (p ∷ phases) task now h =
        let before : IsWorking p.task p.now = led_working op phases p.task p.now h.0 in
        (subst (IsSoFar p.task p.now now before) h.4 (phase_comes p.task p.now now before p.replies h.1 h.2 h.3)).0

    goes_working : (task : SeenTask) (now : Keeps) → IsRunning s away block client work task old now → IsWorking task now
    goes_working task now g = led_working g.op g.phases task now g.led

    -- how it ends that is acknowledged
    pub comes_to : (outcome : Outcome) (new : Keeps) → IsCompleted s away block client work outcome old new → IsEnd work outcome new
    comes_to outcome new c =
        let w = goes_working c.task c.now c.goes in
        subst (IsSoFar c.task c.now new w) c.over (phase_comes c.task c.now new w c.replies c.answers c.there c.after)

    -- and where it is given up
    pub left_at : (stored : Option StampedValue) (new : Keeps) → IsGivenUp s away block client work stored old new
        → (stage : Stage) × IsStage work stage new × (value_stored stage ≡ stored)
    left_at stored new g =
        let w = goes_working g.task g.now g.goes in
        (g.task.stage, stage_then g.task g.now new w g.cut work g.task.stage refl w.stage, g.asked)
