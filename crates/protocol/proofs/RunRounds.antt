-- How many rounds the reads of a run ask.
use Rattle.std.proofs.Common.{◌≡◌, ℕ, ◌+◌, ◌-◌, ◌<◌, ◌≤◌, Bool, true, false, cond, not, ◌&&◌, List, [], ◌∷◌, Option, refl, sym, ◌∙◌, subst, inl, inr, arith, leb, ltb}
use Rattle.std.specs.declared.option.Option.TheVariants.{None, Some}
use Rattle.std.specs.List.{Contains}
use Rattle.std.proofs.lemmas.Bool.Decides.{nat_tests}
use Rattle.std.proofs.lemmas.List.Elements.{Contains-append_cases}
use Rattle.protocol.specs.Count.{update, one_more}
use Rattle.protocol.specs.Reach.{reaches}
use Rattle.stamp_order.specs.declared.Stamp.{Stamp}
use Rattle.stamp_order.specs.declared.Bound.{Bound}
use Rattle.stamp_order.specs.Stamps.{has, up_to, same_stamp, ◌≼◌}
use Rattle.stamp_order.specs.declared.Bound.TheVariants.{AtMost, Below}
use Rattle.protocol.specs.Messages.{Version, Reply, Body, Message}
use Rattle.wire_forms.specs.declared.Reply.TheVariants.{Found}
use Rattle.wire_forms.specs.declared.Body.TheVariants.{Ask as Asks, Answer as Answers}
use Rattle.protocol.specs.Setting.{Setting, IsValid, honest, first_stamp, zeros, same_digests}
use Rattle.protocol.specs.Nodes.{accepts}
use Rattle.protocol.specs.Operations.{Task, Work, Stage, How, Outcome, Decision, begun, first_work, answered, valid, stamps, pivot, support, carries, candidate, chosen, sum_of_first, decide, decide_at, decide_pivot, decide_time, drawn_from, stored, value_of, goes_on, mail, rounds_after}
use Rattle.protocol.specs.Operations.Work.{Reads, Writes}
use Rattle.run_words.specs.declared.outcome.How.TheVariants.{Plain}
use Rattle.protocol.specs.Operations.Stage.{Times, Versions, Storing}
use Rattle.run_words.specs.declared.outcome.Outcome.TheVariants.{Wrote, Spent, Gave, Outvoted}
use Rattle.protocol.specs.Operations.Decision.{GoesOn, Ends}
use Rattle.protocol.specs.World.{World, Record, Accepted, Event, Allowed, happens, handled, accepted_at, given, moved, resent_by, pruned_at, open_record, closed_record, under_way, greatest_given, last_op, IsAnswerTo, start_world}
use Rattle.protocol.specs.World.Event.{Start, Resend, Give, Hear, CrashNode, CrashClient, Lie, Prune, Back}
use Rattle.protocol.specs.Bounds.{IsFewAt, IsBounded}
use Rattle.protocol.proofs.lemmas.Counting.{both_true, count_shared, some_passes, count_within, update-cases}
use Rattle.protocol.proofs.lemmas.Order.{≼-antisym, same_stamp-refl}
use Rattle.protocol.proofs.lemmas.Highest.{highest_is}
use Rattle.protocol.proofs.lemmas.Order.{stamps_order}
use Rattle.protocol.proofs.Invariant.{IsSafe, IsStage}
use Rattle.protocol.proofs.lemmas.Sending.{unless_some}
use Rattle.protocol.proofs.lemmas.Rounds.{valid_was, honest_many, some_pivot, honest_valid, pivot_given}
use Rattle.protocol.proofs.Rounding.{IsRounds, WasAccepted, rounds_below, rounds_at_most, few_rounds, IsRounds-more, IsFewAt-more}
use Rattle.protocol.proofs.lemmas.Replacing.{with_cases}
use Rattle.protocol.proofs.Heard.{filled, AreSent, heard_case}
use Rattle.lists.proofs.lemmas.Members.{Contains-none, Contains-one}

-- the rounds of a task
abbrev RoundsOf : World → ℕ → ℕ → Work → Stage → Type 0
RoundsOf w block rounds Reads (Versions bound) = IsRounds w block bound rounds
RoundsOf w block rounds Reads (Storing stamp value) = IsFewAt w block rounds
RoundsOf w block rounds Reads Times = ⊥
RoundsOf w block rounds (Writes value) stage = Unit {0}

abbrev RoundsGiven : World → ℕ → Option Outcome → Type 0
RoundsGiven w block (Some (Gave stamp value how rounds)) = IsFewAt w block rounds
RoundsGiven w block _ = Unit {0}

pub record HasRounds (w : World) : Type 0 where
  pub tasks : (c : ℕ) (task : Task) → w.task c ≡ Some task → RoundsOf w task.block task.rounds task.work task.stage
  pub gave : (r : Record) → Contains w.records r → RoundsGiven w r.block r.outcome

pub start_rounds : (s : Setting) → HasRounds (start_world s)
start_rounds s = record { tasks = λ c task e. absurd (cc e); gave = λ r h. absurd (Contains-none r h) }

few_of : (w : World) (block rounds : ℕ) (work : Work) (stage : Stage) → work ≡ Reads → RoundsOf w block rounds work stage → IsFewAt w block rounds
few_of w block rounds Reads (Versions bound) e h = few_rounds w block bound rounds h
few_of w block rounds Reads (Storing stamp value) e h = h
few_of w block rounds Reads Times e h = absurd h
few_of w block rounds (Writes value) stage e h = absurd (cc)

given_of : (w : World) (block : ℕ) (o : Option Outcome) (stamp : Stamp) (value : List ℕ) (how : How) (rounds : ℕ) → o ≡ Some (Gave stamp value how rounds) → RoundsGiven w block o → IsFewAt w block rounds
given_of w block o stamp value how rounds e h = rw e at h

pub bounded : (w : World) → HasRounds w → IsBounded w
bounded w h = record {
  under_way = λ c task e f. few_of w task.block task.rounds task.work task.stage f (h.tasks c task e);
  completed = λ r stamp value how rounds k e. given_of w r.block r.outcome stamp value how rounds e (h.gave r k);
}

-- more was accepted
module _ (w v : World) (o : Option Accepted) (grows : v.accepted ≡ one_more w.accepted o) where
  RoundsOf-more : (block rounds : ℕ) (work : Work) (stage : Stage) → RoundsOf w block rounds work stage → RoundsOf v block rounds work stage
  RoundsOf-more block rounds Reads (Versions bound) h = IsRounds-more w v block o grows bound rounds h
  RoundsOf-more block rounds Reads (Storing stamp value) h = IsFewAt-more w v block o grows rounds h
  RoundsOf-more block rounds Reads Times h = absurd h
  RoundsOf-more block rounds (Writes value) stage h = tt

  RoundsGiven-more : (block : ℕ) (u : Option Outcome) → RoundsGiven w block u → RoundsGiven v block u
  RoundsGiven-more block None h = tt
  RoundsGiven-more block (Some (Wrote stamp)) h = tt
  RoundsGiven-more block (Some Spent) h = tt
  RoundsGiven-more block (Some (Outvoted nodes)) h = tt
  RoundsGiven-more block (Some (Gave stamp value how rounds)) h = IsFewAt-more w v block o grows rounds h

module _ (s : Setting) (good : IsValid s) (w : World) (safe : IsSafe s w) (rounds : HasRounds w) (place : ℕ) (later : w.place ≤ place) (c : ℕ) where
  -- a client's step
  went_rounds : (next : Option Task) (more : List Message) (r : Record) → ((z : Task) → next ≡ Some z → RoundsOf w z.block z.rounds z.work z.stage) → RoundsGiven w r.block r.outcome → HasRounds (moved s w place c next more r)
  went_rounds next more r nexts gives = record {
    tasks = λ d z e. elim (update-cases w.task c next d) [ inl k ↦ nexts z (sym k.1 ∙ e) | inr k ↦ rounds.tasks d z (sym k.1 ∙ e) ];
    gave = λ x h. elim (with_cases w.records r x h) [ inl k ↦ rw k gives | inr k ↦ rounds.gave x k.0 ];
  }

  module _ (task : Task) (answers : ℕ → Option Reply) (busy : under_way w c ≡ Some task) (sent : AreSent w c task answers) where
    now : RoundsOf w task.block task.rounds task.work task.stage
    now = rounds.tasks c task (unless_some (w.client_crashed c) (w.task c) task busy).1

    abbrev IsRoundsDecision : Work → Decision → Type 0
    IsRoundsDecision work (GoesOn stage) = RoundsOf w task.block (rounds_after stage task.rounds) work stage
    IsRoundsDecision work (Ends outcome) = RoundsGiven w task.block (Some outcome)

    module _ (enough : s.n ≤ answered s answers + s.t) (bound : Bound) (stage : task.stage ≡ Versions bound) where
      -- an honest node that accepted a stamp of the bound, at the pivot or above
      record IsReached (p : Stamp) : Type 0 where
        stamp : Stamp
        taken : WasAccepted w task.block stamp
        inside : has bound stamp ≡ true
        above : p ≼ stamp

      above_of : (p : Stamp) (o : Option Version) → reaches up_to p (Rattle.protocol.specs.Operations.stamp_of o) ≡ true → (v : Version) × (o ≡ Some v) × (p ≼ v.stamp)
      above_of p None h = absurd (cc)
      above_of p (Some v) h = (v, refl, h)

      reached : (p : Stamp) → pivot s answers bound ≡ Some p → (p ≡ first_stamp s → ⊥) → IsReached p
      reached p is other =
          let g = highest_is up_to stamps_order s.n (s.qc - s.t) (stamps s answers bound) p is in
          let both = λ (i : ℕ). honest s i && reaches up_to p (stamps s answers bound i) in
          let x = some_passes s.n both (omega (arith, count_shared s.n (honest s) (λ i. reaches up_to p (stamps s answers bound i)), honest_many s good, g.3, good.quorum_low)) in
          let b = both_true _ _ x.2 in
          let v = above_of p (valid s x.0 bound (answers x.0)) b.1 in
          let u = valid_was s x.0 bound (answers x.0) v.0 v.1 in
          let f = honest_valid s good w safe c task busy answers sent enough bound stage x.0 (Found v.0) x.1 b.0 u.0 in
          let e : v.0 ≡ f.0 = (let q = f.1 in cc) in
          let low = (some_pivot s good w safe c task busy answers sent enough bound stage) in
          let is_low : first_stamp s ≼ p = (let q : low.0 ≡ p = (let k = low.1 in cc) in rw q at low.2) in
          record {
            stamp = v.0.stamp;
            taken = elim (let a = f.4 in rw (← e) at a) [
              | inl q ↦ absurd (other (≼-antisym p (first_stamp s) (rw q at v.2) is_low))
              | inr q ↦ (x.0, q)
            ];
            inside = (both_true _ _ u.1).0;
            above = v.2;
          }

      pivot_inside : (p : Stamp) → pivot s answers bound ≡ Some p → has bound p ≡ true
      pivot_inside p is =
          let g = pivot_given s good w safe c task busy answers sent enough bound stage p is in
          let u = valid_was s g.0 bound (answers g.0) g.1 g.3 in
          let k : has bound g.1.stamp ≡ true = (both_true _ _ u.1).0 in
          rw g.4 at k

      -- where the bound ends at the pivot, the pivot has enough support
      carried : (p : Stamp) (i : ℕ) (o : Option Version) → ((v : Version) → o ≡ Some v → v.stamp ≼ p) → reaches up_to p (Rattle.protocol.specs.Operations.stamp_of o) ≡ true → carries p o ≡ true
      carried p i None up h = absurd (cc)
      carried p i (Some v) up h = let q = ≼-antisym v.stamp p (up v refl) h in rw q (same_stamp-refl p)

      supported : (p : Stamp) → pivot s answers bound ≡ Some p → bound ≡ AtMost p → s.qc - s.t ≤ support s answers bound p
      supported p is e =
          let g = highest_is up_to stamps_order s.n (s.qc - s.t) (stamps s answers bound) p is in
          let within = count_within s.n (λ i. reaches up_to p (stamps s answers bound i)) (λ i. carries p (valid s i bound (answers i)))
          (λ i l h. carried p i (valid s i bound (answers i)) (λ v f. let u = valid_was s i bound (answers i) v f in let k : has bound v.stamp ≡ true = (both_true _ _ u.1).0 in (let q : has (AtMost p) v.stamp ≡ true = rw e at k in q)) h) in
          omega (arith, within, g.3)

      pivot_rounds : (p : Stamp) → pivot s answers bound ≡ Some p → IsRounds w task.block bound task.rounds → IsRoundsDecision Reads (decide_at s answers bound task.rounds p)
      pivot_rounds p is h =
          at (same_stamp p (first_stamp s)) refl (ltb (support s answers bound p) (s.qc - s.t)) refl
          (same_digests (s.sum_of (candidate s answers bound p)) (sum_of_first (chosen s answers bound p))) (leb (s.qc + s.b) (support s answers bound p))
        where
          few : IsFewAt w task.block task.rounds
          few = few_rounds w task.block bound task.rounds h

          not_first : same_stamp p (first_stamp s) ≡ false → p ≡ first_stamp s → ⊥
          not_first e f = let k : same_stamp p p ≡ true = same_stamp-refl p in let l : same_stamp p p ≡ false = rw (← f) at e in cc

          at : (b1 : Bool) → same_stamp p (first_stamp s) ≡ b1 → (b2 : Bool) → ltb (support s answers bound p) (s.qc - s.t) ≡ b2 → (b3 b4 : Bool)
              → IsRoundsDecision Reads (cond b1 (Ends (Gave (first_stamp s) (zeros s) Plain task.rounds)) (cond b2 (GoesOn (Versions (AtMost p)))
              (cond (not b3) (GoesOn (Versions (Below p))) (cond b4 (Ends (Gave p (candidate s answers bound p) Plain task.rounds)) (GoesOn (Storing p (candidate s answers bound p)))))))
          at true e b2 f b3 b4 = few
          at false e true f b3 b4 =
              let r = reached p is (not_first e) in
              rounds_at_most w task.block bound task.rounds p r.stamp h (pivot_inside p is) r.taken r.inside r.above
              (λ q. let m = supported p is q in let n : support s answers bound p < s.qc - s.t = (grind (arith, nat_tests)) in omega (arith, m, n))
          at false e false f false b4 =
              let r = reached p is (not_first e) in
              rounds_below w task.block bound task.rounds p r.stamp h (pivot_inside p is) r.taken r.inside r.above
          at false e false f true true = few
          at false e false f true false = few

      round_rounds : IsRounds w task.block bound task.rounds → IsRoundsDecision Reads (decide_pivot s answers bound task.rounds (pivot s answers bound))
      round_rounds h =
          let sp = some_pivot s good w safe c task busy answers sent enough bound stage in
          rw sp.1 (pivot_rounds sp.0 sp.1 h)

    writes_rounds : (value v : List ℕ) (x : ℕ) → IsRoundsDecision (Writes value) (decide_time s c v x)
    writes_rounds value v x = at (Rattle.std.proofs.Common.eqb x (Rattle.std.proofs.Common.◌-◌ (Rattle.std.proofs.Common.◌^◌ 2 64) 1))
      where
        at : (b : Bool) → IsRoundsDecision (Writes value) (cond b (Ends Spent) (GoesOn (Storing (record { time = x + 1; client = c; verifier = Rattle.protocol.specs.Setting.verifier_of s v }) v)))
        at true = tt
        at false = tt

    stored_rounds : (work : Work) (p : Stamp) (value : List ℕ) → RoundsOf w task.block task.rounds work (Storing p value) → IsRoundsDecision work (Ends (stored work task.rounds p value))
    stored_rounds Reads p value h = h
    stored_rounds (Writes v) p value h = tt

    decided_rounds : s.n ≤ answered s answers + s.t → (work : Work) → task.work ≡ work → (stage : Stage) → task.stage ≡ stage → RoundsOf w task.block task.rounds work stage → IsStage s work stage
        → IsRoundsDecision work (decide s c (filled task answers) stage)
    decided_rounds enough Reads e Times f h k = absurd h
    decided_rounds enough Reads e (Versions bound) f h k = round_rounds enough bound f h
    decided_rounds enough work e (Storing p value) f h k = subst (λ (x : Work). IsRoundsDecision work (Ends (stored x task.rounds p value))) (sym e) (stored_rounds work p value h)
    decided_rounds enough (Writes value) e Times f h k = writes_rounds value (value_of task.work) (drawn_from s answers)
    decided_rounds enough (Writes value) e (Versions bound) f h k = absurd k

    decision : s.n ≤ answered s answers + s.t → IsRoundsDecision task.work (decide s c (filled task answers) task.stage)
    decision enough = decided_rounds enough task.work refl task.stage refl now (safe.tasks c task busy).stage

  heard_rounds : (m : Message) → Contains w.pool m → w.client_crashed c ≡ false → IsAnswerTo s c m → HasRounds (Rattle.protocol.specs.World.heard s w place c m m.body)
  heard_rounds =
      heard_case s good w safe place later c (λ v. HasRounds v) (record { tasks = rounds.tasks; gave = rounds.gave })
      (λ task answers busy sent. went_rounds (Some (filled task answers)) [] (open_record c (filled task answers)) (λ z e. let q : filled task answers ≡ z = cc in rw (← q) (now task answers busy sent)) tt)
      (λ task answers busy sent enough stage e. went_rounds (Some (goes_on (filled task answers) stage)) (mail s c (goes_on (filled task answers) stage)) (open_record c (goes_on (filled task answers) stage))
      (λ z f. let q : goes_on (filled task answers) stage ≡ z = cc in rw (← q) (let d = decision task answers busy sent enough in rw e at d)) tt)
      (λ task answers busy sent enough outcome e. went_rounds None [] (closed_record c (filled task answers) place outcome) (λ z f. absurd (cc f)) (let d = decision task answers busy sent enough in rw e at d))

module _ (s : Setting) (good : IsValid s) (w : World) (safe : IsSafe s w) (rounds : HasRounds w) (place : ℕ) where
  kept_rounds : (v : World) → v.accepted ≡ w.accepted → v.records ≡ w.records → ((c : ℕ) (task : Task) → v.task c ≡ Some task → w.task c ≡ Some task) → HasRounds v
  kept_rounds v a r fewer = record {
    tasks = λ c task e. RoundsOf-more w v None a task.block task.rounds task.work task.stage (rounds.tasks c task (fewer c task e));
    gave = λ x h. RoundsGiven-more w v None a x.block x.outcome (rounds.gave x (rw r at h));
  }

  first_rounds : (block : ℕ) (work : Work) → RoundsOf w block (rounds_after (first_work work) 0) work (first_work work)
  first_rounds block Reads = inl (omega arith)
  first_rounds block (Writes value) = tt

  started_rounds : (c block : ℕ) (work : Work) → HasRounds (happens s w place (Start c block work))
  started_rounds c block work =
      let new : Task = begun (last_op w c + 1) block work place in
      record {
        tasks = λ d z e. elim (update-cases w.task c (Some new) d) [
          | inl k ↦ (let q : new ≡ z = (let f : Some new ≡ Some z = sym k.1 ∙ e in cc) in rw (← q) (first_rounds block work))
          | inr k ↦ rounds.tasks d z (sym k.1 ∙ e)
        ];
        gave = λ x h. elim (Contains-append_cases w.records (open_record c new ∷ []) x h) [ inl k ↦ rounds.gave x k | inr k ↦ rw (Contains-one x (open_record c new) k) tt ];
      }

  given_rounds : (i : ℕ) (m : Message) (body : Body) → HasRounds (given s w place i m body)
  given_rounds i m (Answers reply) = kept_rounds (given s w place i m (Answers reply)) refl refl (λ c task e. e)
  given_rounds i m (Asks ask) =
      let v = handled s w place i m ask in
      let o = accepted_at s i ask.block (accepts s i (w.versions i ask.block) ask) in
      record {
        tasks = λ c task e. RoundsOf-more w v o refl task.block task.rounds task.work task.stage (rounds.tasks c task e);
        gave = λ x h. RoundsGiven-more w v o refl x.block x.outcome (rounds.gave x h);
      }

  resent_rounds : (c : ℕ) (o : Option Task) → HasRounds (resent_by s w place c o)
  resent_rounds c None = kept_rounds (resent_by s w place c None) refl refl (λ c task e. e)
  resent_rounds c (Some task) = kept_rounds (resent_by s w place c (Some task)) refl refl (λ c task e. e)

  pruned_rounds : (i block : ℕ) (o : Option Stamp) → HasRounds (pruned_at s w place i block o)
  pruned_rounds i block None = kept_rounds (pruned_at s w place i block None) refl refl (λ c task e. e)
  pruned_rounds i block (Some stamp) = kept_rounds (pruned_at s w place i block (Some stamp)) refl refl (λ c task e. e)

  back_fewer : (c d : ℕ) (task : Task) → update w.task c None d ≡ Some task → w.task d ≡ Some task
  back_fewer c d task e = elim (update-cases w.task c None d) [ inl k ↦ absurd (let f : None ≡ Some task = sym k.1 ∙ e in cc) | inr k ↦ sym k.1 ∙ e ]

  pub happens_rounds : (e : Event) → Allowed s w place e → HasRounds (happens s w place e)
  happens_rounds (Start c block work) h = started_rounds c block work
  happens_rounds (Resend c) h = resent_rounds c (w.task c)
  happens_rounds (Give i m) h = given_rounds i m m.body
  happens_rounds (Hear c m) h = heard_rounds s good w safe rounds place h.later c m h.sent h.up h.answers
  happens_rounds (CrashNode i) h = kept_rounds (happens s w place (CrashNode i)) refl refl (λ c task e. e)
  happens_rounds (CrashClient c) h = kept_rounds (happens s w place (CrashClient c)) refl refl (λ c task e. e)
  happens_rounds (Lie m) h = kept_rounds (happens s w place (Lie m)) refl refl (λ c task e. e)
  happens_rounds (Prune i block) h = pruned_rounds i block (greatest_given block w.records)
  happens_rounds (Back c) h = kept_rounds (happens s w place (Back c)) refl refl (λ d task e. back_fewer c d task e)
