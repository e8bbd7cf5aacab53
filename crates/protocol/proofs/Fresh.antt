-- An honest node's answer doesn't fall behind what the node had accepted.
use Rattle.std.proofs.Common.{◌≡◌, ◌⊎◌, ℕ, ◌<◌, ◌≤◌, true, false, List, [], ◌∷◌, ◌++◌, length, Option, refl, sym, ◌∙◌, ap, subst, inl, inr, arith, append_assoc}
use Rattle.std.specs.Prelude.{slice_get}
use Rattle.std.specs.declared.option.Option.TheVariants.{None, Some}
use Rattle.std.specs.List.{Contains, cons_option}
use Rattle.std.proofs.lemmas.Option.{slice_get_within}
use Rattle.std.proofs.lemmas.List.Elements.{Contains-append_left}
use Rattle.stamp_order.specs.declared.Stamp.{Stamp}
use Rattle.stamp_order.specs.declared.Bound.{Bound}
use Rattle.stamp_order.specs.Stamps.{has, ◌≼◌}
use Rattle.wire_forms.specs.declared.Request.TheVariants.{Time, Read, Write}
use Rattle.wire_forms.specs.declared.Body.TheVariants.{Ask as Asks, Answer as Answers}
use Rattle.protocol.specs.Messages.{Version, Ask, Tag, Request, Reply, Message}
use Rattle.protocol.specs.Setting.{Setting, IsValid}
use Rattle.protocol.specs.Nodes.{greatest_time, found, reply, reply_in}
use Rattle.protocol.specs.Operations.{Task, Stage, goes_on, mail, outstanding, ask_of}
use Rattle.protocol.specs.World.{World, Event, Record, Allowed, AllAllowed, IsAskTo, IsAnswerTo, IsQuiet, happens, all_happen, moved, given, heard, resent_by, pruned_at, only_place, open_record, closed_record, under_way, greatest_given, unless, start_world}
use Rattle.protocol.specs.World.Event.{Start, Resend as Resends, Give as Gives, Hear as Hears, CrashNode as NodeCrashes, CrashClient as ClientCrashes, Lie as Lies, Prune as Prunes, Back as ComesBack}
use Rattle.protocol.specs.Lines.{Line, Rule, Run, FitsLine, fault, events, plays, called, told, falsely_told, false_answer, given_at, heard_at}
use Rattle.run_words.specs.declared.line.Line.TheVariants.{Write as WriteLine, Read as ReadLine, Resend, Call, Give, Hear, Lost, CrashNode, CrashClient, Lie, Tell, Poke, False, Sound, Mix, Prune, Back, Restart}
use Rattle.protocol.specs.Facts.{IsHonest, IsHosted}
use Rattle.protocol.specs.Freshness.{Pruning, pruning_by, pruning_of, prunings, HasPruned, IsNotBehind, IsSentAt, IsSentDuring}
use Rattle.protocol.proofs.lemmas.Counting.{update-cases}
use Rattle.protocol.proofs.lemmas.Order.{≼-trans, ≼-time}
use Rattle.protocol.proofs.lemmas.Keeping.{time_at_least, keeps-Contains, greatest_in_above, has-down}
use Rattle.protocol.proofs.Invariant.{IsSafe, IsTask, IsCoveredBy, Accepts}
use Rattle.protocol.proofs.lemmas.Sending.{unless_some}
use Rattle.protocol.proofs.lemmas.Sending as sending
use Rattle.protocol.proofs.Starting as starting
use Rattle.protocol.proofs.Giving as giving
use Rattle.protocol.proofs.Heard.{filled, heard_case}
use Rattle.protocol.proofs.Runs.{happens_safe, start_safe}
use Rattle.protocol.proofs.lemmas.Kept.{run_parts}
use Rattle.protocol.proofs.lemmas.Playing.{no_fault, events_allowed}
use Rattle.protocol.proofs.Plays.{IsRight, start_right, plays_right, run_right}
use Rattle.protocol.proofs.Inductions.{run_keeps}
use Rattle.protocol.proofs.Growing.{Grows, all_place, grows_itself, grows_both, happens_more, plays_more, run_more, still_accepts}
use Rattle.protocol.proofs.Hosts.{IsMade, AreHosted, still_made, happens_hosted, unsaid}
use Rattle.protocol.proofs.OneBlock.{HasBlocks, happens_blocks, start_blocks}
use Rattle.lists.proofs.lemmas.Members.{Contains-head, Contains-none, Contains-rest, Contains-cons_cases, Contains-slice_get}

-- an event that is no prune
abbrev pub PrunesNothing : Event → Type 0
PrunesNothing (Prunes i block) = ⊥
PrunesNothing _ = Unit {0}

-- none of the events is a prune
abbrev pub PruneNothing : List Event → Type 0
PruneNothing [] = Unit {0}
PruneNothing (e ∷ es) = PrunesNothing e × PruneNothing es

module _ (s : Setting) (L : Pruning → Type 0) where
  -- the node pruned the block by a stamp of at least this one
  abbrev pub IsPruned : ℕ → ℕ → Stamp → Type 0
  IsPruned i block stamp = (p : Pruning) × L p × (p.node ≡ i) × (p.block ≡ block) × (stamp ≼ p.stamp)

  -- L has all prunes so far: a node keeps what it accepted or something greater, up to a stamp by which it pruned; and no block is pruned while an operation on it is under way
  pub record IsLogged (w : World) : Type 0 where
    pub covered : (i block : ℕ) → i < s.n → s.lying_node i ≡ false → (stamp : Stamp) → Accepts s w i block stamp → IsCoveredBy s (IsPruned i block) w i block stamp
    pub early : (c : ℕ) (task : Task) → under_way w c ≡ Some task → (p : Pruning) → L p → p.block ≡ task.block → p.place < task.start
    pub past : (p : Pruning) → L p → p.place ≤ w.place

  -- the bound has each stamp by which the node pruned the block
  abbrev pub IsWide : ℕ → ℕ → Bound → Type 0
  IsWide i block bound = (p : Pruning) → L p → p.node ≡ i → p.block ≡ block → has bound p.stamp ≡ true

  -- the reply isn't behind what the node had accepted in this world
  abbrev pub IsFresh : World → ℕ → Ask → Reply → Type 0
  IsFresh w i ask told = ask.block < s.blocks → (stamp : Stamp) → Accepts s w i ask.block stamp → IsNotBehind (IsWide i ask.block) stamp ask.request told

  module _ (w : World) (i block : ℕ) (stamp : Stamp) (c : IsCoveredBy s (IsPruned i block) w i block stamp) where
    abbrev vs : List Version
    vs = w.versions i block

    inside : (bound : Bound) → has bound stamp ≡ true → IsWide i block bound → has bound c.version.stamp ≡ true
    inside bound h wide = elim c.how [ inl e ↦ rw e h | inr k ↦ has-down bound k.0.stamp c.version.stamp k.4 (wide k.0 k.1 k.2 k.3) ]

    fresh_in : (request : Request) → IsNotBehind (IsWide i block) stamp request (reply_in s i vs request)
    fresh_in Time = (greatest_time vs, refl, omega (arith, ≼-time stamp c.version.stamp c.above, time_at_least vs c.version.stamp (keeps-Contains vs c.version c.there)))
    fresh_in (Read bound) = λ h wide.
        let g = greatest_in_above bound vs c.version.stamp (inside bound h wide) (keeps-Contains vs c.version c.there) in
        (g.0, ap found g.1, ≼-trans stamp c.version.stamp g.0.stamp c.above g.2)
    fresh_in (Write v) = tt

  fresh_now : (w : World) → IsLogged w → (i : ℕ) → i < s.n → s.lying_node i ≡ false → (ask : Ask) → IsFresh w i ask (reply s i (w.versions i ask.block) ask)
  fresh_now w logged i l upright ask below stamp a =
      subst (IsNotBehind (IsWide i ask.block) stamp ask.request) (sym (giving.reply_inside s i (w.versions i ask.block) ask below))
      (fresh_in w i ask.block stamp (logged.covered i ask.block l upright stamp a) ask.request)

  -- ---- events that prune nothing

  -- nodes keep the same, and what clients do they did before or have begun now
  record IsCalm (w v : World) : Type 0 where
    versions : v.versions ≡ w.versions
    accepted : v.accepted ≡ w.accepted
    tasks : (c : ℕ) (z : Task) → under_way v c ≡ Some z → ((t : Task) × (under_way w c ≡ Some t) × (z.block ≡ t.block) × (z.start ≡ t.start)) ⊎ (w.place < z.start)
    place : w.place ≤ v.place

  calm_logged : (w v : World) → IsCalm w v → IsLogged w → IsLogged v
  calm_logged w v calm logged = record {
    covered = λ i block l h stamp a.
        let c = logged.covered i block l h stamp (rw calm.accepted at a) in
        record { version = c.version; there = rw calm.versions c.there; above = c.above; how = c.how };
    early = λ c z e p k b. elim (calm.tasks c z e) [
      | inl t ↦ (let x = logged.early c t.0 t.1 p k (b ∙ t.2) in omega (arith, x, t.3))
      | inr l ↦ omega (arith, l, logged.past p k)
    ];
    past = λ p k. omega (arith, logged.past p k, calm.place);
  }

  -- what clients do stays, or some do less
  fewer_calm : (w v : World) → v.versions ≡ w.versions → v.accepted ≡ w.accepted → w.place ≤ v.place → ((c : ℕ) (z : Task) → under_way v c ≡ Some z → under_way w c ≡ Some z) → IsCalm w v
  fewer_calm w v e f l h = record { versions = e; accepted = f; tasks = λ c z k. inl (z, h c z k, refl, refl); place = l }

  -- a client's operation goes on or ends
  moved_calm : (w : World) (place : ℕ) → w.place ≤ place → (c : ℕ) (task : Task) → under_way w c ≡ Some task → (next : Option Task) (more : List Message) (r : Record)
      → ((z : Task) → next ≡ Some z → (z.block ≡ task.block) × (z.start ≡ task.start)) → IsCalm w (moved s w place c next more r)
  moved_calm w place later c task busy next more r same = record {
    versions = refl;
    accepted = refl;
    tasks = λ d z h. inl (elim (update-cases w.task c next d) [
      | inl e ↦ (let k : unless (w.client_crashed d) next ≡ Some z = rw e.1 at h in let q = same z (unless_some (w.client_crashed d) next z k).1 in (task, ap (under_way w) e.0 ∙ busy, q.0, q.1))
      | inr e ↦ (let k : unless (w.client_crashed d) (w.task d) ≡ Some z = rw e.1 at h in (z, k, refl, refl))
    ]);
    place = later;
  }

  module _ (good : IsValid s) (w : World) (safe : IsSafe s w) (place : ℕ) where
    hears : w.place ≤ place → (c : ℕ) (m : Message) → Contains w.pool m → w.client_crashed c ≡ false → IsAnswerTo s c m → IsCalm w (heard s w place c m m.body)
    hears later c m there up h =
        heard_case s good w safe place later c (IsCalm w)
        (fewer_calm w (only_place s w place) refl refl later (λ d z e. e))
        (λ task answers busy sent. moved_calm w place later c task busy (Some (filled task answers)) [] (open_record c (filled task answers)) (λ z e. as_filled task answers z e))
        (λ task answers busy sent enough stage e. moved_calm w place later c task busy (Some (goes_on (filled task answers) stage)) (mail s c (goes_on (filled task answers) stage)) (open_record c (goes_on (filled task answers) stage)) (λ z f. as_next task answers stage z f))
        (λ task answers busy sent enough outcome e. moved_calm w place later c task busy None [] (closed_record c (filled task answers) place outcome) (λ z f. absurd (cc f)))
        m there up h
      where
        as_filled : (task : Task) (answers : ℕ → Option Reply) (z : Task) → Some (filled task answers) ≡ Some z → (z.block ≡ task.block) × (z.start ≡ task.start)
        as_filled task answers z e = let q : filled task answers ≡ z = cc in (sym (ap (λ (x : Task). x.block) q), sym (ap (λ (x : Task). x.start) q))

        as_next : (task : Task) (answers : ℕ → Option Reply) (stage : Stage) (z : Task) → Some (goes_on (filled task answers) stage) ≡ Some z → (z.block ≡ task.block) × (z.start ≡ task.start)
        as_next task answers stage z e = let q : goes_on (filled task answers) stage ≡ z = cc in (sym (ap (λ (x : Task). x.block) q), sym (ap (λ (x : Task). x.start) q))

    resends : w.place ≤ place → (c : ℕ) (o : Option Task) → IsCalm w (resent_by s w place c o)
    resends later c None = fewer_calm w (resent_by s w place c None) refl refl later (λ d z e. e)
    resends later c (Some task) = fewer_calm w (resent_by s w place c (Some task)) refl refl later (λ d z e. e)

    -- a node's answer
    gives : w.place ≤ place → IsLogged w → (i : ℕ) → i < s.n → s.lying_node i ≡ false → (m : Message) → Contains w.pool m → IsAskTo s i m → IsLogged (given s w place i m m.body)
    gives later logged i l upright m there asks = rw asks.2 (answered asks.1 asks.2)
      where
        answered : (ask : Ask) → m.body ≡ Asks ask → IsLogged (given s w place i m (Asks ask))
        answered ask body = record {
          covered = λ j b k h stamp a. giving.covered_after s w safe place later i l upright m there asks.0 ask body (IsPruned j b) (IsPruned j b) (λ t p. p) j b stamp (logged.covered j b k h) a;
          early = logged.early;
          past = λ p k. omega (arith, logged.past p k, later);
        }

    begins : (c block : ℕ) (work : Rattle.protocol.specs.Operations.Work) → Allowed s w place (Start c block work) → IsCalm w (happens s w place (Start c block work))
    begins c block work h = record {
      versions = refl;
      accepted = refl;
      tasks = λ d z e. elim (starting.task_cases s w safe place h.later c block work h.client h.correct h.up h.idle h.fresh h.inside h.fits d z e) [
        | inl q ↦ (let a : z.start ≡ place = ap (λ (x : Task). x.start) q.1 in let l = h.later in inr (omega (arith, a, l)))
        | inr q ↦ inl (z, q.1, refl, refl)
      ];
      place = (let l = h.later in omega (arith, l));
    }

    pub happens_logged : IsLogged w → (e : Event) → PrunesNothing e → Allowed s w place e → IsLogged (happens s w place e)
    happens_logged logged (Start c block work) none h = calm_logged w (happens s w place (Start c block work)) (begins c block work h) logged
    happens_logged logged (Resends c) none h = calm_logged w (happens s w place (Resends c)) (resends h.later c (w.task c)) logged
    happens_logged logged (Gives i m) none h = gives h.later logged i h.node h.honest m h.sent h.asks
    happens_logged logged (Hears c m) none h = calm_logged w (happens s w place (Hears c m)) (hears h.later c m h.sent h.up h.answers) logged
    happens_logged logged (NodeCrashes i) none h = calm_logged w (happens s w place (NodeCrashes i)) (fewer_calm w (happens s w place (NodeCrashes i)) refl refl h.0 (λ d z e. e)) logged
    happens_logged logged (ClientCrashes c) none h =
        calm_logged w (happens s w place (ClientCrashes c)) (fewer_calm w (happens s w place (ClientCrashes c)) refl refl h.0 (sending.crash_fewer s w safe place h.0 c)) logged
    happens_logged logged (Lies m) none h = calm_logged w (happens s w place (Lies m)) (fewer_calm w (happens s w place (Lies m)) refl refl h.0 (λ d z e. e)) logged
    happens_logged logged (Prunes i block) none h = absurd none
    happens_logged logged (ComesBack c) none h =
        calm_logged w (happens s w place (ComesBack c)) (fewer_calm w (happens s w place (ComesBack c)) refl refl h.0 (λ d z e. (sending.back_fewer s w safe place h.0 c d z e).1)) logged

  -- what holds after some events of a line that is taken in the world v, none of them a prune
  record IsWithin (v u : World) : Type 0 where
    safe : IsSafe s u
    logged : IsLogged u
    grows : Grows v u
    made : AreHosted s (length v.pool) (IsFresh v) u

  module _ (good : IsValid s) (v : World) (place : ℕ) where
    one_within : (u : World) → IsWithin v u → (e : Event) → PrunesNothing e → Allowed s u place e → IsWithin v (happens s u place e)
    one_within u h e none may = record {
      safe = happens_safe s good u h.safe place e may;
      logged = happens_logged good u h.safe place h.logged e none may;
      grows = grows_both v u (happens s u place e) h.grows (happens_more s u place e).0;
      made = happens_hosted s (length v.pool) (IsFresh v) good u h.safe h.made
          (λ i l upright ask below stamp a. fresh_now u h.logged i l upright ask below stamp (still_accepts s v u h.grows i ask.block stamp a)) place e may;
    }

    all_within : (es : List Event) (u : World) → IsWithin v u → PruneNothing es → AllAllowed s u place es → IsWithin v (all_happen s u place es)
    all_within [] u h none may = h
    all_within (e ∷ es) u h none may = all_within es (happens s u place e) (one_within u h e none.0 may.0) none.1 may.1

    -- no message is new where there are no more
    none_new : (u : World) → u.pool ≡ v.pool → AreHosted s (length v.pool) (IsFresh v) u
    none_new u pool k m told late e body honest = absurd (let l = slice_get_within v.pool k m (rw pool at e) in omega (arith, l, late))

    begin_within : IsSafe s v → IsLogged v → IsWithin v v
    begin_within safe logged = record { safe = safe; logged = logged; grows = grows_itself v; made = none_new v refl }

-- ---- a line prunes, or none of its events does

module _ (s : Setting) (w : World) where
  abbrev MayPrune : ℕ → Line → Type 0
  MayPrune place line = ((i : ℕ) × (block : ℕ) × (line ≡ Prune i block)) ⊎ ((pruning_of w place line ≡ None) × PruneNothing (events s w line))

  called_none : (c i : ℕ) (o : Option Task) → PruneNothing (called s w c i o)
  called_none c i None = tt
  called_none c i (Some task) = (tt, (tt, tt))

  told_none : (c : ℕ) (m : Option Message) → PruneNothing (told s w c m)
  told_none c None = tt
  told_none c (Some m) = (tt, (tt, tt))

  false_none : (rule : Rule) (c i : ℕ) (o : Option Task) → PruneNothing (falsely_told s w rule c i o)
  false_none rule c i None = tt
  false_none rule c i (Some task) = told_none c (false_answer s rule c i task)

  given_none : (i : ℕ) (o : Option Message) → PruneNothing (given_at s w i o)
  given_none i None = tt
  given_none i (Some m) = (tt, tt)

  heard_none : (c : ℕ) (o : Option Message) → PruneNothing (heard_at s w c o)
  heard_none c None = tt
  heard_none c (Some m) = (tt, tt)

  may_prune : (place : ℕ) (line : Line) → MayPrune place line
  may_prune place (WriteLine c block value) = inr (refl, (tt, tt))
  may_prune place (ReadLine c block) = inr (refl, (tt, tt))
  may_prune place (Resend c) = inr (refl, (tt, tt))
  may_prune place (Call c i) = inr (refl, called_none c i (w.task c))
  may_prune place (Give i k) = inr (refl, given_none i (slice_get w.pool k))
  may_prune place (Hear c k) = inr (refl, heard_none c (slice_get w.pool k))
  may_prune place (Lost c i) = inr (refl, tt)
  may_prune place (CrashNode i) = inr (refl, (tt, tt))
  may_prune place (CrashClient c) = inr (refl, (tt, tt))
  may_prune place (Lie m) = inr (refl, (tt, tt))
  may_prune place (Tell m) = inr (refl, (tt, (tt, tt)))
  may_prune place (Poke m) = inr (refl, (tt, (tt, tt)))
  may_prune place (False c i rule) = inr (refl, false_none rule c i (w.task c))
  may_prune place (Sound c i block time value) = inr (refl, (tt, (tt, tt)))
  may_prune place (Mix c i block time value other) = inr (refl, (tt, (tt, tt)))
  may_prune place (Prune i block) = inl (i, block, refl)
  may_prune place (Back c) = inr (refl, (tt, tt))
  may_prune place (Restart i) = inr (refl, tt)

module _ (s : Setting) where
  -- L and M have the same prunes
  logged_as : (L M : Pruning → Type 0) → ((p : Pruning) → L p → M p) → ((p : Pruning) → M p → L p) → (w : World) → IsLogged s L w → IsLogged s M w
  logged_as L M to from w h = record {
    covered = λ i block l up stamp a. let c = h.covered i block l up stamp a in
        record { version = c.version; there = c.there; above = c.above; how = elim c.how [ inl e ↦ inl e | inr k ↦ inr (k.0, to k.0 k.1, k.2, k.3, k.4) ] };
    early = λ c task busy p k b. h.early c task busy p (from p k) b;
    past = λ p k. h.past p (from p k);
  }

  module _ (L : Pruning → Type 0) (w : World) (safe : IsSafe s w) (logged : IsLogged s L w) (place : ℕ) (later : w.place ≤ place) where
    -- a prune adds itself
    module _ (i block : ℕ) (quiet : IsQuiet s w block) (stamp : Stamp) (by : greatest_given block w.records ≡ Some stamp) where
      abbrev With : Pruning → Type 0
      With p = L p ⊎ (Some (record { node = i; block = block; place = place; stamp = stamp }) ≡ Some p)

      abbrev short : World
      short = sending.pruned_world s w safe place later i block quiet stamp by

      pruned_covers : (j b : ℕ) → j < s.n → s.lying_node j ≡ false → (t : Stamp) → Accepts s w j b t → IsCoveredBy s (IsPruned s With j b) short j b t
      pruned_covers j b l up t a = elim (sending.versions_cases s w safe place later i block quiet stamp by j b) [
        | inl e ↦ sending.covered_elsewhere s w safe place later i block quiet stamp by (IsPruned s L j b) (IsPruned s With j b) (λ u k. (k.0, inl k.1, k.2, k.3, k.4)) j b e t (logged.covered j b l up t a)
        | inr e ↦ here e.0 e.1
      ]
        where
          here : j ≡ i → b ≡ block → IsCoveredBy s (IsPruned s With j b) short j b t
          here e f =
              subst (λ (x : ℕ). IsCoveredBy s (IsPruned s With x b) short x b t) (sym e)
              (subst (λ (x : ℕ). IsCoveredBy s (IsPruned s With i x) short i x t) (sym f)
              (sending.covered_pruned s w safe place later i block quiet stamp by (IsPruned s L i block) (IsPruned s With i block)
              (λ u k. (k.0, inl k.1, k.2, k.3, k.4))
              (λ u k. (record { node = i; block = block; place = place; stamp = stamp }, inr refl, refl, refl, k)) t
              (subst (λ (x : ℕ). IsCoveredBy s (IsPruned s L i x) w i x t) f (subst (λ (x : ℕ). IsCoveredBy s (IsPruned s L x b) w x b t) e (logged.covered j b l up t a)))))

      pruned_logged : IsLogged s With short
      pruned_logged = record {
        covered = pruned_covers;
        early = λ c task busy p k b. elim k [
          | inl h ↦ logged.early c task busy p h b
          | inr e ↦ absurd (let q : block ≡ p.block = at p e in quiet c task busy (sym b ∙ sym q))
        ];
        past = λ p k. elim k [
          | inl h ↦ omega (arith, logged.past p h, later)
          | inr e ↦ (let q : place ≡ p.place = placed p e in omega (arith, q))
        ];
      }
        where
          is : (p : Pruning) → Some (record { node = i; block = block; place = place; stamp = stamp }) ≡ Some p → record { node = i; block = block; place = place; stamp = stamp } ≡ p
          is p e = cc

          at : (p : Pruning) → Some (record { node = i; block = block; place = place; stamp = stamp }) ≡ Some p → block ≡ p.block
          at p e = ap (λ (x : Pruning). x.block) (is p e)

          placed : (p : Pruning) → Some (record { node = i; block = block; place = place; stamp = stamp }) ≡ Some p → place ≡ p.place
          placed p e = ap (λ (x : Pruning). x.place) (is p e)

-- ---- along the lines of a run

members : (o : Option Pruning) (ps : List Pruning) (p : Pruning) → Contains (cons_option o ps) p → (o ≡ Some p) ⊎ Contains ps p
members None ps p h = inr h
members (Some q) ps p h = elim (Contains-cons_cases p q ps h) [ inl e ↦ inl (ap Some (sym e)) | inr k ↦ inr k ]

member : (o : Option Pruning) (ps : List Pruning) (p : Pruning) → (o ≡ Some p) ⊎ Contains ps p → Contains (cons_option o ps) p
member None ps p (inl e) = absurd (cc)
member None ps p (inr h) = h
member (Some q) ps p (inl e) = let f : q ≡ p = cc in rw (← f) (Contains-head q ps)
member (Some q) ps p (inr h) = Contains-rest p q ps h

more_prunings : (s : Setting) (ls more : List (ℕ × Line)) (w : World) (p : Pruning) → Contains (prunings s w ls) p → Contains (prunings s w (ls ++ more)) p
more_prunings s [] more w p h = absurd (Contains-none p h)
more_prunings s (l ∷ ls) more w p h =
    let rest = more_prunings s ls more (plays s w l.0 l.1) p in
    member (pruning_of w l.0 l.1) (prunings s (plays s w l.0 l.1) (ls ++ more)) p
    (elim (members (pruning_of w l.0 l.1) (prunings s (plays s w l.0 l.1) ls) p h) [ inl e ↦ inl e | inr k ↦ inr (rest k) ])

module _ (s : Setting) (good : IsValid s) where
  -- what holds after a line that is taken in the world w
  record IsTaken (L : Pruning → Type 0) (w : World) (place : ℕ) (line : Line) : Type 0 where
    logged : IsLogged s (λ p. L p ⊎ (pruning_of w place line ≡ Some p)) (plays s w place line)
    made : AreHosted s (length w.pool) (IsFresh s L w) (plays s w place line)

  module _ (L : Pruning → Type 0) (w : World) (safe : IsSafe s w) (logged : IsLogged s L w) (place : ℕ) (later : w.place < place) where
    prune_taken : (i block : ℕ) → FitsLine s (Prune i block) → fault s w (Prune i block) ≡ None → IsTaken L w place (Prune i block)
    prune_taken i block fits fine =
        let h = (events_allowed s good w safe place later (Prune i block) fits (no_fault s w (Prune i block) fine)).0 in
        let now = pruned_logged s L w safe logged place (omega (arith, later)) i block h.quiet h.stamp h.given in
        record {
          logged = subst (λ (o : Option Stamp). IsLogged s (λ p. L p ⊎ (pruning_by i block place o ≡ Some p)) (only_place s (pruned_at s w place i block o) place)) (sym h.given) now;
          made = subst (λ (o : Option Stamp). AreHosted s (length w.pool) (IsFresh s L w) (only_place s (pruned_at s w place i block o) place)) (sym h.given) (none_new s L good w place _ refl);
        }

    plain_taken : (line : Line) → FitsLine s line → fault s w line ≡ None → pruning_of w place line ≡ None → PruneNothing (events s w line) → IsTaken L w place line
    plain_taken line fits fine unpruned none =
        let u = all_happen s w place (events s w line) in
        let h = all_within s L good w place (events s w line) w (begin_within s L good w place safe logged) none (events_allowed s good w safe place later line fits (no_fault s w line fine)) in
        let calm = fewer_calm s L u (only_place s u place) refl refl (all_place s (events s w line) w place (omega (arith, later))) (λ d z e. e) in
        record {
          logged = logged_as s L (λ p. L p ⊎ (pruning_of w place line ≡ Some p)) (λ p k. inl k) (λ p k. elim k [ inl q ↦ q | inr e ↦ absurd (let f : None ≡ Some p = sym unpruned ∙ e in cc) ]) (only_place s u place) (calm_logged s L u (only_place s u place) calm h.logged);
          made = unsaid s (length w.pool) (IsFresh s L w) u h.made (only_place s u place) refl refl;
        }

    line_taken : (line : Line) → FitsLine s line → fault s w line ≡ None → IsTaken L w place line
    line_taken line fits fine = elim (may_prune s w place line) [
      | inl k ↦ subst (IsTaken L w place) (sym k.2) (prune_taken k.0 k.1 (subst (FitsLine s) k.2 fits) (ap (fault s w) (sym k.2) ∙ fine))
      | inr k ↦ plain_taken line fits fine k.0 k.1
    ]

  run_logged : (ls : List (ℕ × Line)) (L : Pruning → Type 0) (w last : World) → IsRight s good w → IsLogged s L w → Run s w ls last → IsLogged s (λ p. L p ⊎ Contains (prunings s w ls) p) last
  run_logged [] L w last right logged run = logged_as s L (λ p. L p ⊎ Contains [] p) (λ p k. inl k) (λ p k. elim k [ inl q ↦ q | inr h ↦ absurd (Contains-none p h) ]) last (rw run logged)
  run_logged (l ∷ ls) L w last right logged run =
      let next = plays s w l.0 l.1 in
      let now = (line_taken L w right.safe logged l.0 run.0 l.1 run.1 run.2).logged in
      let then = run_logged ls (λ p. L p ⊎ (pruning_of w l.0 l.1 ≡ Some p)) next last (plays_right s good w right l.0 run.0 l.1 run.1 run.2) now run.3 in
      logged_as s (λ p. (L p ⊎ (pruning_of w l.0 l.1 ≡ Some p)) ⊎ Contains (prunings s next ls) p) (λ p. L p ⊎ Contains (prunings s w (l ∷ ls)) p)
      (λ p k. elim k [
        | inl q ↦ elim q [ inl a ↦ inl a | inr e ↦ inr (member (pruning_of w l.0 l.1) (prunings s next ls) p (inl e)) ]
        | inr h ↦ inr (member (pruning_of w l.0 l.1) (prunings s next ls) p (inr h))
      ])
      (λ p k. elim k [
        | inl a ↦ inl (inl a)
        | inr h ↦ elim (members (pruning_of w l.0 l.1) (prunings s next ls) p h) [ inl e ↦ inl (inr e) | inr q ↦ inr q ]
      ])
      last then

  start_logged : IsLogged s (λ p. ⊥) (start_world s)
  start_logged = record {
    covered = λ i block l up stamp a. let c = ((start_safe s good).stored i block l up).covered stamp a in
        record { version = c.version; there = c.there; above = c.above; how = elim c.how [ inl e ↦ inl e | inr k ↦ absurd (Contains-none k.past k.there) ] };
    early = λ c task busy p k. absurd k;
    past = λ p k. absurd k;
  }

  -- lines lead to one world
  run_once : (ls : List (ℕ × Line)) (w a b : World) → Run s w ls a → Run s w ls b → a ≡ b
  run_once [] w a b h k = h ∙ sym k
  run_once (l ∷ ls) w a b h k = run_once ls (plays s w l.0 l.1) a b h.3 k.3

  behind_as : (A B : Bound → Type 0) → ((bound : Bound) → B bound → A bound) → (stamp : Stamp) (request : Request) (told : Reply) → IsNotBehind A stamp request told → IsNotBehind B stamp request told
  behind_as A B map stamp Time told h = h
  behind_as A B map stamp (Read bound) told h = λ inside wide. h inside (map bound wide)
  behind_as A B map stamp (Write v) told h = tt

  run_blocks : (lines : List (ℕ × Line)) (w : World) → Run s (start_world s) lines w → HasBlocks s w.pool
  run_blocks lines w run = run_keeps s good (λ v. HasBlocks s v.pool) (λ v safe h place e a. happens_blocks s good v safe h place e a) (λ v place h. h) lines (start_world s) w (start_right s good) run (start_blocks s)

  module _ (lines : List (ℕ × Line)) (w : World) (run : Run s (start_world s) lines w) where
    right_at : IsRight s good w
    right_at = run_right s good lines (start_world s) w (start_right s good) run

    abbrev Before : Pruning → Type 0
    Before p = ⊥ ⊎ Contains (prunings s (start_world s) lines) p

    logged_at : IsLogged s Before w
    logged_at = run_logged lines (λ p. ⊥) (start_world s) w (start_right s good) start_logged run

    -- an answer that is sent at a line
    module _ (place : ℕ) (line : Line) (later : w.place < place) (fits : FitsLine s line) (fine : fault s w line ≡ None)
        (k : ℕ) (m : Message) (told : Reply) (sent : IsSentAt s w place line k m) (body : m.body ≡ Answers told) (honest : IsHonest s m.node) where
      made_at : IsMade s (length w.pool) (IsFresh s Before w) (plays s w place line) k m told
      made_at = (line_taken Before w right_at.safe logged_at place later line fits fine).made k m told sent.new sent.sent body honest.1

      pub run_always : (h : IsHosted s (plays s w place line) k m told)
          × ((stamp : Stamp) → h.ask.block < s.blocks → Accepts s w m.node h.ask.block stamp → IsNotBehind (HasPruned s lines m.node h.ask.block place) stamp h.ask.request told)
      run_always = (
        made_at.0,
        λ stamp below a.
            behind_as (IsWide s Before m.node made_at.0.ask.block) (HasPruned s lines m.node made_at.0.ask.block place)
            (λ bound wide p k node block. elim k [ inl q ↦ absurd q | inr q ↦ wide p q node block (let l = logged_at.past p (inr q) in omega (arith, l, later)) ])
            stamp made_at.0.ask.request told (made_at.1 below stamp a),
      )

  module _ (lines : List (ℕ × Line)) (w : World) (run : Run s (start_world s) lines w) (more : List (ℕ × Line)) (last : World) (on : Run s w more last)
      (k : ℕ) (m : Message) (told : Reply) (task : Task) (d : IsSentDuring s w more k m task) (body : m.body ≡ Answers told) (honest : IsHonest s m.node) where
    to_v : Run s (start_world s) (lines ++ d.before) d.world
    to_v = (run_parts s d.world d.before lines (start_world s)).1 (w, run, d.run)

    right_v : IsRight s good d.world
    right_v = right_at (lines ++ d.before) d.world to_v

    rest : Run s d.world ((d.place, d.line) ∷ d.after) last
    rest =
        let parts = (run_parts s last ((d.place, d.line) ∷ d.after) d.before w).0 (subst (λ (ls : List (ℕ × Line)). Run s w ls last) d.split on) in
        subst (λ (x : World). Run s x ((d.place, d.line) ∷ d.after) last) (run_once d.before w parts.0 d.world parts.1 d.run) parts.2

    abbrev next : World
    next = plays s d.world d.place d.line

    after_it : Grows next last
    after_it = run_more s d.after next last rest.3

    made_last : IsMade s (length d.world.pool) (IsFresh s (Before (lines ++ d.before) d.world to_v) d.world) last k m told
    made_last =
        still_made s (length d.world.pool) (IsFresh s (Before (lines ++ d.before) d.world to_v) d.world) next last after_it.0.0 after_it.0.1 (still_accepts s next last after_it) k m told
        (made_at (lines ++ d.before) d.world to_v d.place d.line rest.0 rest.1 rest.2 k m told d.at body honest)

    grown_v : Grows d.world last
    grown_v = grows_both d.world next last (plays_more s d.world d.place d.line) after_it

    at_work : IsTask s d.world m.client task
    at_work = right_v.safe.tasks m.client task d.busy

    -- the ask is of the operation's block
    of_block : (h : IsHosted s last k m told) → h.ask.block ≡ task.block
    of_block h =
        let b = run_blocks (lines ++ more) last ((run_parts s last more lines (start_world s)).1 (w, run, on)) in
        let correct : s.lying_client h.message.client ≡ false = rw h.client at_work.correct in
        let one = b.1 h.message h.ask (Contains-slice_get last.pool h.asked h.message h.there) h.asks correct in
        let asked : Contains last.pool (outstanding s m.client task 0) = rw grown_v.0.1 (Contains-append_left d.world.pool grown_v.0.0 (outstanding s m.client task 0) (at_work.mailed 0 (omega (arith, good.quorum_low, good.quorum_high)))) in
        let two : task.block ≡ b.0 m.client task.op = b.1 (outstanding s m.client task 0) (ask_of s task 0) asked refl at_work.correct in
        one ∙ ap (λ (c : ℕ). b.0 c h.message.tag.op) h.client ∙ ap (λ (g : Tag). b.0 m.client g.op) h.tag ∙ ap (b.0 m.client) d.op ∙ sym two

    pub run_fresh : (stamp : Stamp) → Accepts s w m.node task.block stamp
        → (h : IsHosted s last k m told) × (h.ask.block ≡ task.block) × IsNotBehind (HasPruned s (lines ++ more) m.node task.block task.start) stamp h.ask.request told
    run_fresh stamp a =
        let h = made_last.0 in
        let e = of_block h in
        let then : Accepts s d.world m.node task.block stamp = still_accepts s w d.world (run_more s d.before w d.world d.run) m.node task.block stamp a in
        let lines_are : lines ++ more ≡ (lines ++ d.before) ++ (d.place, d.line) ∷ d.after = ap (λ (ls : List (ℕ × Line)). lines ++ ls) d.split ∙ sym (append_assoc lines d.before ((d.place, d.line) ∷ d.after)) in (
          h,
          e,
          behind_as (IsWide s (Before (lines ++ d.before) d.world to_v) m.node h.ask.block) (HasPruned s (lines ++ more) m.node task.block task.start)
              (λ bound wide p k node block. elim k [
                | inl q ↦ absurd q
                | inr q ↦ wide p (rw lines_are (more_prunings s (lines ++ d.before) ((d.place, d.line) ∷ d.after) (start_world s) p q)) node (block ∙ e) ((logged_at (lines ++ d.before) d.world to_v).early m.client task d.busy p (inr q) (block ∙ e))
              ])
              stamp h.ask.request told
              (made_last.1 (omega (arith, e, at_work.block)) stamp (rw e then)),
        )
