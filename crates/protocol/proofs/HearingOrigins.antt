-- A client that hears an answer keeps what is known of stamps.
use Rattle.std.proofs.Common.{◌≡◌, ◌⊎◌, ℕ, ◌+◌, ◌-◌, ◌^◌, ◌≤◌, Bool, true, false, cond, not, ◌&&◌, List, [], Option, refl, sym, ◌∙◌, ap, subst, inl, inr, arith, leb, eqb, ltb}
use Rattle.std.specs.declared.option.Option.TheVariants.{None, Some}
use Rattle.std.specs.List.{Contains}
use Rattle.std.proofs.lemmas.Bool.Decides.{nat_tests}
use Rattle.stamp_order.specs.declared.Stamp.{Stamp}
use Rattle.stamp_order.specs.declared.Bound.{Bound}
use Rattle.stamp_order.specs.Stamps.{same_stamp}
use Rattle.stamp_order.specs.declared.Bound.TheVariants.{AtMost, Below}
use Rattle.protocol.specs.Messages.{Version, Reply}
use Rattle.wire_forms.specs.declared.Reply.TheVariants.{Found}
use Rattle.wire_forms.specs.declared.Body.TheVariants.{Answer as Answers}
use Rattle.protocol.specs.Setting.{Setting, IsValid, honest, first_stamp, zeros, same_digests, verifier_of}
use Rattle.protocol.specs.Operations.{Task, Work, Stage, How, Outcome, Decision, is_of_kind, answered, valid, support, carries, candidate, chosen, sum_of_first, decide, decide_at, decide_pivot, decide_time, drawn_from, stored, value_of, goes_on, mail}
use Rattle.protocol.specs.Operations.Work.{Reads, Writes}
use Rattle.run_words.specs.declared.outcome.How.TheVariants.{Plain}
use Rattle.protocol.specs.Operations.Stage.{Times, Versions, Storing}
use Rattle.run_words.specs.declared.outcome.Outcome.TheVariants.{Spent, Gave}
use Rattle.protocol.specs.Operations.Decision.{GoesOn, Ends}
use Rattle.protocol.specs.World.{World, moved, decided, advanced, open_record, closed_record, chosen_stamp, stamp_of_outcome, under_way}
use Rattle.protocol.proofs.lemmas.Counting.{both_true, count_shared, some_passes}
use Rattle.protocol.proofs.Mails.{in_mail}
use Rattle.protocol.proofs.Invariant.{IsSafe, IsStage}
use Rattle.protocol.proofs.lemmas.Rounds.{valid_was, honest_many, some_pivot, honest_valid}
use Rattle.protocol.proofs.Hearing.{open_move, close_move, full, IsDecision, full_decided, carries_is, mailed_next, mailed_same, formed_next}
use Rattle.protocol.proofs.Moving.{IsMove}
use Rattle.protocol.proofs.Origins.{HasOrigins, IsKnown, IsKnownStage, known-more, stage-more, went_origins, went_pool, went_writes}
use Rattle.lists.proofs.lemmas.Members.{Contains-none}

module _ (s : Setting) (good : IsValid s) (w : World) (safe : IsSafe s w) (origins : HasOrigins s w) (place : ℕ) (later : w.place ≤ place) (c : ℕ) (task : Task) (busy : under_way w c ≡ Some task) (answers : ℕ → Option Reply)
    (heard : (i : ℕ) (reply : Reply) → answers i ≡ Some reply → Contains w.pool (record { client = c; node = i; tag = record { op = task.op; phase = task.phase }; body = Answers reply }) × (is_of_kind task.stage reply ≡ true)) where
  abbrev now : Task
  now = full s good w safe place later c task busy answers heard

  -- what a next stage stores is known, or a write has just chosen it
  abbrev IsNextKnown : Stage → Type 0
  IsNextKnown (Storing p value) = IsKnown s w task.block p ⊎ ((v : List ℕ) × (task.work ≡ Writes v))
  IsNextKnown _ = Unit {0}

  abbrev IsOriginal : Decision → Type 0
  IsOriginal (GoesOn stage) = ((stamp : Stamp) (value : List ℕ) → task.work ≡ Writes value → chosen_stamp task.work task.stage ≡ Some stamp → ⊥) × IsNextKnown stage
  IsOriginal (Ends outcome) =
      ((stamp : Stamp) (value : List ℕ) → task.work ≡ Writes value → chosen_stamp task.work task.stage ≡ Some stamp → stamp_of_outcome outcome ≡ Some stamp)
      × ((stamp : Stamp) (value : List ℕ) (how : How) (rounds : ℕ) → outcome ≡ Gave stamp value how rounds → IsKnown s w task.block stamp)

  abbrev IsRight : Decision → Type 0
  IsRight d = IsDecision s good w safe place later c task busy answers heard task.work d

  module _ (stage : Stage) (h : IsRight (GoesOn stage)) (o : IsOriginal (GoesOn stage)) where
    abbrev z : Task
    z = goes_on now stage

    abbrev on : World
    on = moved s w place c (Some z) (mail s c z) (open_record c z)

    on_move : IsMove s w safe place later c task busy (Some z) (mail s c z) (open_record c z)
    on_move =
        open_move s good w safe place later c task busy answers heard z (mail s c z) refl refl refl refl (inr refl) (λ i reply e. absurd (cc e)) (mailed_next s good w safe place later c task busy answers heard stage) (formed_next s good w safe place later c task busy answers heard stage h.0) h.0 h.1
        (λ m k. let r = in_mail s c z m k in (r.0, r.2)) (λ stamp value e f. absurd (o.0 stamp value e f))

    stays : (stamp : Stamp) (value : List ℕ) → task.work ≡ Writes value → chosen_stamp task.work task.stage ≡ Some stamp → (open_record c z).stamp ≡ Some stamp
    stays stamp value e f = absurd (o.0 stamp value e f)

    chose : (p : Stamp) (v value : List ℕ) → stage ≡ Storing p v → task.work ≡ Writes value → (open_record c z).stamp ≡ Some p
    chose p v value e f = rw (e, f) refl

    known : (t : Stage) → stage ≡ t → Contains on.records (open_record c z) → IsNextKnown t → IsKnownStage s on task.block t
    known Times e there k = tt
    known (Versions bound) e there k = tt
    known (Storing p v) e there (inl k) =
        known-more s w on (went_pool s w safe origins place later c task busy (Some z) (mail s c z) (open_record c z) on_move stays)
        (went_writes s w safe origins place later c task busy (Some z) (mail s c z) (open_record c z) on_move stays) task.block p k
    known (Storing p v) e there (inr k) = inr (inl (record { write = open_record c z; there = there; of_block = refl; value = k.0; writes = k.1; chose = chose p v k.0 e k.1 }))

    on_origins : HasOrigins s on
    on_origins =
        went_origins s w safe origins place later c task busy (Some z) (mail s c z) (open_record c z) on_move stays
        (λ y e there. let q : y ≡ z = cc in rw q (known stage refl there o.1)) (λ stamp value how rounds e. absurd (cc e))

  end_origins : (outcome : Outcome) → IsRight (Ends outcome) → IsOriginal (Ends outcome) → HasOrigins s (moved s w place c None [] (closed_record c now place outcome))
  end_origins outcome h o =
      went_origins s w safe origins place later c task busy None [] (closed_record c now place outcome)
      (close_move s good w safe place later c task busy answers heard outcome h.0 h.1 h.2 o.0) o.0
      (λ y e there. absurd (cc e)) (λ stamp value how rounds e. o.1 stamp value how rounds (cc e))

  decided_origins : (d : Decision) → IsRight d → IsOriginal d → HasOrigins s (decided s w place c now d)
  decided_origins (GoesOn stage) h o = on_origins stage h o
  decided_origins (Ends outcome) h o = end_origins outcome h o

  counted_origins : HasOrigins s (moved s w place c (Some now) [] (open_record c now))
  counted_origins =
      let move = open_move s good w safe place later c task busy answers heard now [] refl refl refl refl (inl (refl, refl)) heard (mailed_same s good w safe place later c task busy answers heard) (λ m k. absurd (Contains-none m k)) (safe.tasks c task busy).stage
      (λ apart x end stamp h e f b l. safe.aimed c task apart x end stamp h e f busy b l) (λ m k. absurd (Contains-none m k)) (λ stamp value e f. f) in
      went_origins s w safe origins place later c task busy (Some now) [] (open_record c now) move (λ stamp value e f. f)
      (λ y e there. let q : y ≡ now = cc in rw q
      (stage-more s w (moved s w place c (Some now) [] (open_record c now))
      (went_pool s w safe origins place later c task busy (Some now) [] (open_record c now) move (λ stamp value e f. f))
      (went_writes s w safe origins place later c task busy (Some now) [] (open_record c now) move (λ stamp value e f. f)) task.block task.stage (origins.tasks c task busy).0))
      (λ stamp value how rounds e. absurd (cc e))

  module _ (enough : s.n ≤ answered s answers + s.t) where
    module _ (bound : Bound) (stage : task.stage ≡ Versions bound) where
      -- some honest node has accepted what enough answers carry
      carried_known : (p : Stamp) → s.qc - s.t ≤ support s answers bound p → IsKnown s w task.block p
      carried_known p many =
          let both = λ (i : ℕ). honest s i && carries p (valid s i bound (answers i)) in
          let x = some_passes s.n both (omega (arith, count_shared s.n (honest s) (λ i. carries p (valid s i bound (answers i))), honest_many s good, many, good.quorum_low)) in
          let b = both_true _ _ x.2 in
          let r = carries_is s good w safe place later c task busy answers heard enough bound stage p (valid s x.0 bound (answers x.0)) b.1 in
          let u = valid_was s x.0 bound (answers x.0) r.0 r.1 in
          let f = honest_valid s good w safe c task busy answers heard enough bound stage x.0 (Found r.0) x.1 b.0 u.0 in
          let e : r.0 ≡ f.0 = (let g = f.1 in cc) in
          let q : f.0.stamp ≡ p = ap (λ (v : Version). v.stamp) (sym e) ∙ r.2 in
          rw (← q) (elim f.4 [ inl g ↦ inl g | inr g ↦ origins.kept x.0 task.block f.0.stamp g ])

      no_write : task.work ≡ Reads → (stamp : Stamp) (value : List ℕ) → task.work ≡ Writes value → chosen_stamp task.work task.stage ≡ Some stamp → ⊥
      no_write e stamp value f g = cc

      at_original : (p : Stamp) → task.work ≡ Reads → IsOriginal (decide_at s answers bound task.rounds p)
      at_original p reads =
          at (same_stamp p (first_stamp s)) (ltb (support s answers bound p) (s.qc - s.t)) refl (same_digests (s.sum_of (candidate s answers bound p)) (sum_of_first (chosen s answers bound p))) (leb (s.qc + s.b) (support s answers bound p))
        where
          at : (b1 b2 : Bool) → ltb (support s answers bound p) (s.qc - s.t) ≡ b2 → (b3 b4 : Bool)
              → IsOriginal (cond b1 (Ends (Gave (first_stamp s) (zeros s) Plain task.rounds)) (cond b2 (GoesOn (Versions (AtMost p)))
              (cond (not b3) (GoesOn (Versions (Below p))) (cond b4 (Ends (Gave p (candidate s answers bound p) Plain task.rounds)) (GoesOn (Storing p (candidate s answers bound p)))))))
          at true b2 f b3 b4 = ((λ t v e g. absurd (no_write reads t v e g)), λ t v how rounds e. inl (cc))
          at false true f b3 b4 = (no_write reads, tt)
          at false false f false b4 = (no_write reads, tt)
          at false false f true true = ((λ t v e g. absurd (no_write reads t v e g)), λ t v how rounds e. let q : p ≡ t = cc in rw (← q) (carried_known p (grind (arith, nat_tests))))
          at false false f true false = (no_write reads, inl (carried_known p (grind (arith, nat_tests))))

    chosen_times : (work : Work) (stage : Stage) (stamp : Stamp) → stage ≡ Times → chosen_stamp work stage ≡ Some stamp → ⊥
    chosen_times Reads stage stamp e f = cc
    chosen_times (Writes value) stage stamp e f = let k : chosen_stamp (Writes value) Times ≡ Some stamp = rw e at f in cc

    time_original : (v : List ℕ) (work : Work) → task.work ≡ work → task.stage ≡ Times → IsStage s work Times → IsOriginal (decide_time s c v (drawn_from s answers))
    time_original v Reads f e h = absurd h
    time_original v (Writes value) f e h = at (eqb (drawn_from s answers) (2 ^ 64 - 1))
      where
        at : (b : Bool) → IsOriginal (cond b (Ends Spent) (GoesOn (Storing (record { time = drawn_from s answers + 1; client = c; verifier = verifier_of s v }) v)))
        at true = ((λ t u a g. absurd (chosen_times task.work task.stage t e g)), λ t u how rounds g. absurd (cc g))
        at false = ((λ t u a g. chosen_times task.work task.stage t e g), inr (value, f))

    store_stays : (p : Stamp) (value v : List ℕ) (stamp : Stamp) (work : Work) (stage : Stage) → stage ≡ Storing p value → work ≡ Writes v → chosen_stamp work stage ≡ Some stamp → stamp_of_outcome (stored work task.rounds p value) ≡ Some stamp
    store_stays p value v stamp work stage e f g = let k : chosen_stamp (Writes v) (Storing p value) ≡ Some stamp = rw (f, e) at g in rw f k

    store_gave : (p : Stamp) (value v : List ℕ) (stamp : Stamp) (how : How) (rounds : ℕ) (work : Work) → stored work task.rounds p value ≡ Gave stamp v how rounds → p ≡ stamp
    store_gave p value v stamp how rounds Reads e = cc
    store_gave p value v stamp how rounds (Writes w) e = absurd (cc)

    stage_known : (p : Stamp) (value : List ℕ) (stage : Stage) → stage ≡ Storing p value → IsKnownStage s w task.block stage → IsKnown s w task.block p
    stage_known p value stage e h = let k : IsKnownStage s w task.block (Storing p value) = rw e at h in k

    known_as : (p q : Stamp) → p ≡ q → IsKnown s w task.block p → IsKnown s w task.block q
    known_as p q e h = rw e at h

    original : (stage : Stage) → task.stage ≡ stage → (work : Work) → task.work ≡ work → IsStage s work stage → IsOriginal (decide s c now stage)
    original Times e work f h = time_original (value_of task.work) work f e h
    original (Versions bound) e Reads f h =
        let sp = some_pivot s good w safe c task busy answers heard enough bound e in
        subst (λ (o : Option Stamp). IsOriginal (decide_pivot s answers bound task.rounds o)) (sym sp.1) (at_original bound e sp.0 f)
    original (Versions bound) e (Writes value) f h = absurd h
    original (Storing p value) e work f h = (
      (λ stamp v a g. store_stays p value v stamp task.work task.stage e a g),
      λ stamp v how rounds g. known_as p stamp (store_gave p value v stamp how rounds task.work g) (stage_known p value task.stage e (origins.tasks c task busy).0),
    )

  pub advanced_origins : HasOrigins s (advanced s w place c now)
  advanced_origins = at (ltb (answered s answers) (s.n - s.t)) refl
    where
      at : (b : Bool) → ltb (answered s answers) (s.n - s.t) ≡ b → HasOrigins s (cond b (moved s w place c (Some now) [] (open_record c now)) (decided s w place c now (decide s c now task.stage)))
      at true e = counted_origins
      at false e =
          let enough : s.n ≤ answered s answers + s.t = grind (arith, nat_tests) in
          decided_origins (decide s c now task.stage) (full_decided s good w safe place later c task busy answers heard enough task.stage refl task.work refl (safe.tasks c task busy).stage)
          (original enough task.stage refl task.work refl (safe.tasks c task busy).stage)
