-- A client that hears an answer keeps what holds in every world.
use Rattle.std.proofs.Common.{◌≡◌, ◌⊎◌, ℕ, ◌+◌, ◌-◌, ◌^◌, ◌<◌, ◌≤◌, Bool, true, false, cond, not, ◌&&◌, List, [], ◌++◌, Option, refl, sym, ◌∙◌, ap, subst, inl, inr, arith, leb, eqb, ltb}
use Rattle.std.specs.declared.option.Option.TheVariants.{None, Some}
use Rattle.std.specs.List.{Contains}
use Rattle.std.proofs.lemmas.Bool.Decides.{nat_tests}
use Rattle.std.proofs.lemmas.List.Elements.{Contains-append_left, Contains-append_right}
use Rattle.protocol.proofs.lemmas.Lists.{Contains-collected}
use Rattle.stamp_order.specs.declared.Stamp.{Stamp}
use Rattle.stamp_order.specs.declared.Bound.{Bound}
use Rattle.stamp_order.specs.Stamps.{has, before, same_stamp, ◌≼◌}
use Rattle.stamp_order.specs.declared.Bound.TheVariants.{AtMost, Below}
use Rattle.protocol.specs.Messages.{IsFormedBody, Version, Reply, Message}
use Rattle.wire_forms.specs.declared.Reply.TheVariants.{TimeIs, Found, Nothing, Ack, Refused}
use Rattle.wire_forms.specs.declared.Body.TheVariants.{Answer as Answers}
use Rattle.protocol.proofs.lemmas.Forming.{zeros_block, request_formed}
use Rattle.protocol.specs.Setting.{Setting, IsBlock, same_digests, IsValid, honest, first_stamp, zeros, verifier_of, Sound}
use Rattle.protocol.specs.Operations.{Task, Work, Stage, How, Outcome, Decision, is_answered, is_of_kind, answered, valid, pivot, support, carries, candidate, chosen, sum_of_first, decide, decide_at, decide_pivot, decide_time, drawn_from, stored, value_of, goes_on, outstanding, mail}
use Rattle.protocol.specs.Operations.Work.{Reads, Writes}
use Rattle.run_words.specs.declared.outcome.How.TheVariants.{Plain}
use Rattle.protocol.specs.Operations.Stage.{Times, Versions, Storing}
use Rattle.run_words.specs.declared.outcome.Outcome.TheVariants.{Wrote, Spent, Gave, Outvoted}
use Rattle.protocol.specs.Operations.Decision.{GoesOn, Ends}
use Rattle.protocol.specs.World.{Record, World, moved, decided, advanced, open_record, closed_record, chosen_stamp, stamp_of_outcome, under_way}
use Rattle.protocol.specs.History.{IsValue}
use Rattle.protocol.specs.History.IsValue.{zeros_value, written, given}
use Rattle.protocol.proofs.lemmas.Counting.{both_true, count_shared}
use Rattle.protocol.proofs.Mails.{in_mail}
use Rattle.protocol.proofs.lemmas.Strings.{NoClashFor-any}
use Rattle.protocol.proofs.Invariant.{Quorum, IsGood, IsGiven, IsStage, IsTask, IsOutcome, IsAimed, IsAfter, NoClashFor, IsSafe, Fits, Accepts}
use Rattle.protocol.proofs.Moving.{IsHeld, IsNext, IsMove, moved_safe}
use Rattle.protocol.proofs.lemmas.Rounds.{answered_is, valid_was, honest_many, is_honest, drawn_above, some_pivot, pivot_above, pivot_time, candidate_size, candidate_good, not_poisonous, honest_valid, fits_at}
use Rattle.protocol.proofs.lemmas.Order.{same_stamp-≡, same_stamp-refl, ≼-cases}
use Rattle.protocol.proofs.lemmas.Parts.{length_chosen, ascending_chosen}
use Rattle.lists.proofs.lemmas.Members.{Contains-none}

open_outcome : (s : Setting) (work : Work) (stage : Stage) → IsStage s work stage → IsOutcome s work (chosen_stamp work stage) None
open_outcome s Reads Times h = absurd h
open_outcome s Reads (Versions bound) h = refl
open_outcome s Reads (Storing stamp value) h = refl
open_outcome s (Writes w) Times h = tt
open_outcome s (Writes w) (Versions bound) h = absurd h
open_outcome s (Writes w) (Storing stamp value) h = let P : List ℕ → Type 0 = λ v. IsGood s stamp v in subst P h.0 h.1

open_after : (s : Setting) (stamp last : Stamp) (work : Work) (stage : Stage) → chosen_stamp work stage ≡ Some last → IsAimed s stamp work stage → IsAfter s stamp work last
open_after s stamp last Reads Times e h = absurd (cc)
open_after s stamp last Reads (Versions bound) e h = absurd (cc)
open_after s stamp last Reads (Storing p value) e h = absurd (cc)
open_after s stamp last (Writes w) Times e h = absurd (cc)
open_after s stamp last (Writes w) (Versions bound) e h = absurd (cc)
open_after s stamp last (Writes w) (Storing p value) e h = let q : p ≡ last = cc in rw (← q) h

aimed_as : (s : Setting) (stamp : Stamp) (p q : Work) (stage : Stage) → p ≡ q → IsAimed s stamp p stage → IsAimed s stamp q stage
aimed_as s stamp p q stage e h = rw e at h

after_as : (s : Setting) (stamp : Stamp) (p q : Work) (last : Stamp) → p ≡ q → IsAfter s stamp p last → IsAfter s stamp q last
after_as s stamp p q last e h = rw e at h

-- what a completed record wrote or gave
record IsDone (s : Setting) (w : World) (stamp : Stamp) : Type 0 where
  value : List ℕ
  of_run : IsValue s w value
  size : IsBlock s value
  sound : Sound s stamp value

given_done : (s : Setting) (w : World) (x : Record) (end : ℕ) (stamp given : Stamp) (value : List ℕ) (how : How) (rounds : ℕ) → Contains w.records x → x.end ≡ Some end → x.outcome ≡ Some (Gave given value how rounds)
    → given ≡ stamp → IsGiven s given value → IsDone s w stamp
given_done s w x end stamp gave value how rounds h e f g (inl k) =
    record { value = zeros s; of_run = zeros_value; size = zeros_block s; sound = ap (λ (t : Stamp). t.verifier) (sym g ∙ k.0) }
given_done s w x end stamp gave value how rounds h e f g (inr k) =
    record {
      value = value;
      of_run = given {block = x.block} {end = end} {stamp = gave} {value = value} (record { read = x; there = h; of_block = refl; ended = e; how = how; rounds = rounds; gave = f });
      size = k.whole;
      sound = ap (λ (t : Stamp). t.verifier) (sym g) ∙ k.sound;
    }

done_as : (s : Setting) (w : World) (x : Record) (end : ℕ) (stamp : Stamp) (work : Work) (outcome : Outcome) → Contains w.records x → x.end ≡ Some end → x.work ≡ work → x.stamp ≡ Some stamp → x.outcome ≡ Some outcome
    → IsOutcome s work x.stamp (Some outcome) → IsDone s w stamp
done_as s w x end stamp Reads (Gave g value how rounds) h e work f o k = given_done s w x end stamp g value how rounds h e o (let q = k.0 in cc) k.1
done_as s w x end stamp Reads (Wrote g) h e work f o k = absurd k
done_as s w x end stamp Reads Spent h e work f o k = absurd k
done_as s w x end stamp Reads (Outvoted nodes) h e work f o k = absurd k
done_as s w x end stamp (Writes value) (Wrote g) h e work f o k =
    let q : g ≡ stamp = (let p = k.0 in cc) in
    record { value = value; of_run = written {r = x} {value = value} {stamp = stamp} h work f; size = k.1.whole; sound = ap (λ (t : Stamp). t.verifier) (sym q) ∙ k.1.sound }
done_as s w x end stamp (Writes value) (Gave g v how rounds) h e work f o k = absurd k
done_as s w x end stamp (Writes value) Spent h e work f o k = absurd (cc k)
done_as s w x end stamp (Writes value) (Outvoted nodes) h e work f o k = absurd k

done_of : (s : Setting) (w : World) (safe : IsSafe s w) (x : Record) (end : ℕ) (stamp : Stamp) → Contains w.records x → x.end ≡ Some end → x.stamp ≡ Some stamp → IsDone s w stamp
done_of s w safe x end stamp h e f =
    let r = safe.records x h in
    let o = r.closed_end end e in
    done_as s w x end stamp x.work o.0 h e refl f o.1 (let k : IsOutcome s x.work x.stamp (Some o.0) = outcome_as (Some o.0) o.1 r.outcome in k)
  where
    outcome_as : (o : Option Outcome) → x.outcome ≡ o → IsOutcome s x.work x.stamp x.outcome → IsOutcome s x.work x.stamp o
    outcome_as o e h = rw e at h

pub message_is : (m : Message) (c i op phase : ℕ) (reply : Reply) → m.client ≡ c → m.node ≡ i → m.tag.op ≡ op → m.tag.phase ≡ phase → m.body ≡ Answers reply
    → m ≡ record { client = c; node = i; tag = record { op = op; phase = phase }; body = Answers reply }
message_is m c i op phase reply a b d e f j = record { client = a j; node = b j; tag = record { op = d j; phase = e j }; body = f j }

module _ (s : Setting) (good : IsValid s) (w : World) (safe : IsSafe s w) (place : ℕ) (later : w.place ≤ place) (c : ℕ) (task : Task) (busy : under_way w c ≡ Some task) (answers : ℕ → Option Reply)
    (heard : (i : ℕ) (reply : Reply) → answers i ≡ Some reply → Contains w.pool (record { client = c; node = i; tag = record { op = task.op; phase = task.phase }; body = Answers reply }) × (is_of_kind task.stage reply ≡ true)) where
  -- the task with these answers counted
  abbrev pub full : Task
  full = record { op = task.op; block = task.block; work = task.work; start = task.start; phase = task.phase; rounds = task.rounds; stage = task.stage; answers = answers }

  abbrev pub Aims : Work → (Stamp → Type 0) → Type 0
  Aims work P = NoClashFor s w work → (x : Record) (end : ℕ) (stamp : Stamp) → Contains w.records x → x.end ≡ Some end → x.stamp ≡ Some stamp → task.block ≡ x.block → end < task.start → P stamp

  -- the task goes on as z
  pub open_move : (z : Task) (more : List Message) → z.op ≡ task.op → z.block ≡ task.block → z.work ≡ task.work → z.start ≡ task.start
      → ((z.phase ≡ task.phase) × (z.stage ≡ task.stage)) ⊎ (z.phase ≡ task.phase + 1)
      → ((i : ℕ) (reply : Reply) → z.answers i ≡ Some reply → Contains w.pool (record { client = c; node = i; tag = record { op = z.op; phase = z.phase }; body = Answers reply }) × (is_of_kind z.stage reply ≡ true))
      → ((i : ℕ) → i < s.n → Contains (w.pool ++ more) (outstanding s c z i)) → ((m : Message) → Contains more m → IsFormedBody m.body)
      → IsStage s z.work z.stage → Aims task.work (λ stamp. IsAimed s stamp z.work z.stage)
      → ((m : Message) → Contains more m → (i : ℕ) × (m ≡ outstanding s c z i))
      → ((stamp : Stamp) (value : List ℕ) → task.work ≡ Writes value → chosen_stamp task.work task.stage ≡ Some stamp → chosen_stamp z.work z.stage ≡ Some stamp)
      → IsMove s w safe place later c task busy (Some z) more (open_record c z)
  open_move z more op block work start phase hears mails forms stage aims sends keeps =
      let t = safe.tasks c task busy in
      let valid : IsTask s (moved s w place c (Some z) more (open_record c z)) c z =
      record {
        correct = t.correct;
        numbered = t.numbered;
        newest = t.newest ∙ sym op;
        start = omega (arith, start, t.start);
        block = omega (arith, block, t.block);
        stage = stage;
        mailed = mails;
        heard = λ i reply e. let h = hears i reply e in (Contains-append_left w.pool more _ h.0, h.1);
      } in
      let next : IsNext s w safe place later c task busy (Some z) more (open_record c z) z =
      record {
        op = op;
        block = block;
        work = work;
        start = start;
        phase = phase;
        valid = valid;
        record_is = refl;
        aims = λ apart x end stamp h e f b l. aimed_as s stamp z.work task.work z.stage work (aims apart x end stamp h e f b l);
      } in
      record {
        nexts = λ y e. let q : y ≡ z = cc in rw q next;
        sends = λ m h. let r = sends m h in (z, r.0, refl, r.1);
        forms = forms;
        client = refl;
        block = block;
        work = work;
        start = start;
        end = λ end e. absurd (cc e);
        outcome = open_outcome s z.work z.stage stage;
        open_end = λ e. refl;
        closed_end = λ end e. absurd (cc e);
        completed = λ end stamp e f. absurd (cc e);
        keeps = keeps;
        orders = λ apart x end stamp last h e f g b l. after_as s stamp z.work task.work last work (open_after s stamp last z.work z.stage g (aims apart x end stamp h e f b l));
      }

  pub close_move : (outcome : Outcome) → IsOutcome s task.work (stamp_of_outcome outcome) (Some outcome) → ((stamp : Stamp) → stamp_of_outcome outcome ≡ Some stamp → IsHeld s w task.block stamp)
      → ((last : Stamp) → stamp_of_outcome outcome ≡ Some last → Aims task.work (λ stamp. IsAfter s stamp task.work last))
      → ((stamp : Stamp) (value : List ℕ) → task.work ≡ Writes value → chosen_stamp task.work task.stage ≡ Some stamp → stamp_of_outcome outcome ≡ Some stamp)
      → IsMove s w safe place later c task busy None [] (closed_record c full place outcome)
  close_move outcome right held orders keeps =
      record {
        nexts = λ y e. absurd (cc e);
        sends = λ m h. absurd (Contains-none m h);
        forms = λ m h. absurd (Contains-none m h);
        client = refl;
        block = refl;
        work = refl;
        start = refl;
        end = λ end e. (cc e);
        outcome = right;
        open_end = λ e. absurd (cc e);
        closed_end = λ end e. (outcome, refl);
        completed = λ end stamp e f. held stamp f;
        keeps = keeps;
        orders = λ apart x end stamp last h e f g b l. orders last g apart x end stamp h e f b l;
      }

  -- what a decision has to be
  abbrev pub IsDecision : Work → Decision → Type 0
  IsDecision work (GoesOn stage) = IsStage s work stage × Aims work (λ stamp. IsAimed s stamp work stage)
  IsDecision work (Ends outcome) =
      IsOutcome s work (stamp_of_outcome outcome) (Some outcome) × ((stamp : Stamp) → stamp_of_outcome outcome ≡ Some stamp → IsHeld s w task.block stamp)
      × ((last : Stamp) → stamp_of_outcome outcome ≡ Some last → Aims work (λ stamp. IsAfter s stamp work last))

  -- a write that chose a stamp goes on no more, and ends with it
  abbrev pub Keeps : Decision → Type 0
  Keeps (GoesOn stage) = (stamp : Stamp) (value : List ℕ) → task.work ≡ Writes value → chosen_stamp task.work task.stage ≡ Some stamp → ⊥
  Keeps (Ends outcome) = (stamp : Stamp) (value : List ℕ) → task.work ≡ Writes value → chosen_stamp task.work task.stage ≡ Some stamp → stamp_of_outcome outcome ≡ Some stamp

  not_chosen : (d : Decision) → ((stamp : Stamp) (value : List ℕ) → task.work ≡ Writes value → chosen_stamp task.work task.stage ≡ Some stamp → ⊥) → Keeps d
  not_chosen (GoesOn stage) h = h
  not_chosen (Ends outcome) h = λ stamp value e f. absurd (h stamp value e f)

  pub decision_keeps : (stage : Stage) → task.stage ≡ stage → Keeps (decide s c full stage)
  decision_keeps Times e = not_chosen (decide s c full Times) (λ stamp value f g. let k : chosen_stamp (Writes value) Times ≡ Some stamp = rw (f, e) at g in cc)
  decision_keeps (Versions bound) e = not_chosen (decide s c full (Versions bound)) (λ stamp value f g. let k : chosen_stamp (Writes value) (Versions bound) ≡ Some stamp = rw (f, e) at g in cc)
  decision_keeps (Storing p v) e = λ stamp value f g.
      let k : chosen_stamp (Writes value) (Storing p v) ≡ Some stamp = rw (f, e) at g in
      let d : stamp_of_outcome (stored task.work task.rounds p v) ≡ Some p = rw f refl in
      d ∙ k

  -- what the next phase asks is sent, and what this one asks was
  pub mailed_next : (stage : Stage) (i : ℕ) → i < s.n → Contains (w.pool ++ mail s c (goes_on full stage)) (outstanding s c (goes_on full stage) i)
  mailed_next stage i l =
      Contains-append_right w.pool (mail s c (goes_on full stage)) _ (Contains-collected s.n (λ i. Some (outstanding s c (goes_on full stage) i)) (outstanding s c (goes_on full stage) i) i l refl)

  pub mailed_same : (i : ℕ) → i < s.n → Contains (w.pool ++ []) (outstanding s c full i)
  mailed_same i l = Contains-append_left w.pool [] _ ((safe.tasks c task busy).mailed i l)

  pub formed_next : (stage : Stage) → IsStage s task.work stage → (m : Message) → Contains (mail s c (goes_on full stage)) m → IsFormedBody m.body
  formed_next stage h m k = let r = in_mail s c (goes_on full stage) m k in rw r.2 (request_formed s good task.work stage h r.0)

  -- the three ways on from an answer that was counted
  pub going_move : (stage : Stage) → IsDecision task.work (GoesOn stage) → Keeps (GoesOn stage) → IsMove s w safe place later c task busy (Some (goes_on full stage)) (mail s c (goes_on full stage)) (open_record c (goes_on full stage))
  going_move stage h keeps =
      open_move (goes_on full stage) (mail s c (goes_on full stage)) refl refl refl refl (inr refl) (λ i reply e. absurd (cc e)) (mailed_next stage) (formed_next stage h.0) h.0 h.1
      (λ m k. let r = in_mail s c (goes_on full stage) m k in (r.0, r.2)) (λ stamp value e f. absurd (keeps stamp value e f))

  pub ending_move : (outcome : Outcome) → IsDecision task.work (Ends outcome) → Keeps (Ends outcome) → IsMove s w safe place later c task busy None [] (closed_record c full place outcome)
  ending_move outcome h keeps = close_move outcome h.0 h.1 h.2 keeps

  pub counting_move : IsMove s w safe place later c task busy (Some full) [] (open_record c full)
  counting_move =
      open_move full [] refl refl refl refl (inl (refl, refl)) heard mailed_same (λ m k. absurd (Contains-none m k)) (safe.tasks c task busy).stage
      (λ apart x end stamp h e f b l. safe.aimed c task apart x end stamp h e f busy b l) (λ m k. absurd (Contains-none m k)) (λ stamp value e f. f)

  decided_safe : (d : Decision) → IsDecision task.work d → Keeps d → IsSafe s (decided s w place c full d)
  decided_safe (GoesOn stage) h keeps =
      moved_safe s w safe place later c task busy (Some (goes_on full stage)) (mail s c (goes_on full stage)) (open_record c (goes_on full stage)) (going_move stage h keeps)
  decided_safe (Ends outcome) h keeps = moved_safe s w safe place later c task busy None [] (closed_record c full place outcome) (ending_move outcome h keeps)

  -- an answer that doesn't end the phase
  counted_safe : IsSafe s (moved s w place c (Some full) [] (open_record c full))
  counted_safe = moved_safe s w safe place later c task busy (Some full) [] (open_record c full) counting_move

  -- the quorum of a record on the task's block
  quorum_of : (x : Record) (end : ℕ) (stamp : Stamp) → Contains w.records x → x.end ≡ Some end → x.stamp ≡ Some stamp → task.block ≡ x.block → Quorum s w task.block stamp end
  quorum_of x end stamp h e f b = rw b ((safe.records x h).completed end stamp e f)

  module _ (enough : s.n ≤ answered s answers + s.t) where
    time_decided : (value : List ℕ) → task.stage ≡ Times → IsBlock s value → IsDecision (Writes value) (decide_time s c value (drawn_from s answers))
    time_decided value stage size = at (eqb (drawn_from s answers) (2 ^ 64 - 1))
      where
        at : (b : Bool) → IsDecision (Writes value) (cond b (Ends Spent) (GoesOn (Storing (record { time = drawn_from s answers + 1; client = c; verifier = verifier_of s value }) value)))
        at true = (refl, (λ stamp e. absurd (cc e)), (λ last e. absurd (cc e)))
        at false = (
          (refl, record { sound = refl; later = omega arith; whole = size }),
          λ apart x end stamp h e f b l.
              let top = drawn_above s good w safe c task busy answers heard enough stage stamp end (quorum_of x end stamp h e f b) l in omega arith,
        )

    ack_is : (i : ℕ) (stage : Stage) (p : Stamp) (value : List ℕ) (reply : Reply) → stage ≡ Storing p value → is_of_kind stage reply ≡ true → Fits s w i task.block stage reply → Accepts s w i task.block p
    ack_is i stage p value reply e k f = kind reply (rw e at k) (rw e at f)
      where
        kind : (r : Reply) → is_of_kind (Storing p value) r ≡ true → Fits s w i task.block (Storing p value) r → Accepts s w i task.block p
        kind Ack k f = f
        kind (TimeIs time) k f = absurd (cc)
        kind (Found v) k f = absurd (cc)
        kind Nothing k f = absurd (cc)
        kind (Refused reason) k f = absurd (cc)

    held_stored : (p : Stamp) (value : List ℕ) → task.stage ≡ Storing p value → IsHeld s w task.block p
    held_stored p value stage = record {
      members = λ i. honest s i && is_answered (answers i);
      enough = omega (arith, count_shared s.n (honest s) (λ i. is_answered (answers i)), honest_many s good, enough, good.quorum_high);
      are_honest = λ i h. is_honest s i (both_true _ _ h).0;
      kept = λ i l h.
          let b = both_true _ _ h in
          let r = answered_is (answers i) b.1 in
          ack_is i task.stage p value r.0 stage (heard i r.0 r.1).1 (fits_at s good w safe c task busy answers heard enough i r.0 l b.0 r.1);
    }

    stored_aim : (p : Stamp) (value : List ℕ) (work : Work) → task.work ≡ work → task.stage ≡ Storing p value → Aims work (λ stamp. IsAimed s stamp work (Storing p value))
    stored_aim p value work e f apart x end stamp h g k b l = turned (safe.aimed c task (subst (NoClashFor s w) (sym e) apart) x end stamp h g k busy b l)
      where
        turned : IsAimed s stamp task.work task.stage → IsAimed s stamp work (Storing p value)
        turned h = rw (e, f) at h

    store_decided : (p : Stamp) (value : List ℕ) (work : Work) → task.work ≡ work → task.stage ≡ Storing p value → IsStage s work (Storing p value) → IsDecision work (Ends (stored work task.rounds p value))
    store_decided p value Reads e f h = (
      (refl, inr h),
      (λ stamp g. let q : p ≡ stamp = cc in rw (← q) (held_stored p value f)),
      λ last g apart x end stamp k a d b l. let q : p ≡ last = cc in rw (← q) (stored_aim p value Reads e f apart x end stamp k a d b l),
    )
    store_decided p value (Writes v) e f h = (
      (refl, (let P : List ℕ → Type 0 = λ v. IsGood s p v in subst P h.0 h.1)),
      (λ stamp g. let q : p ≡ stamp = cc in rw (← q) (held_stored p value f)),
      λ last g apart x end stamp k a d b l. let q : p ≡ last = cc in rw (← q) (stored_aim p value (Writes v) e f apart x end stamp k a d b l),
    )

    module _ (bound : Bound) (stage : task.stage ≡ Versions bound) where
      held_first : IsHeld s w task.block (first_stamp s)
      held_first = record {
        members = honest s;
        enough = omega (arith, honest_many s good, good.quorum_high);
        are_honest = is_honest s;
        kept = λ i l h. inl refl;
      }

      pub carries_is : (p : Stamp) (o : Option Version) → carries p o ≡ true → (v : Version) × (o ≡ Some v) × (v.stamp ≡ p)
      carries_is p None h = absurd (cc)
      carries_is p (Some v) h = (v, refl, same_stamp-≡ v.stamp p h)

      held_pivot : (p : Stamp) → s.qc + s.b ≤ support s answers bound p → IsHeld s w task.block p
      held_pivot p many = record {
        members = λ i. honest s i && carries p (valid s i bound (answers i));
        enough = omega (arith, count_shared s.n (honest s) (λ i. carries p (valid s i bound (answers i))), honest_many s good, many);
        are_honest = λ i h. is_honest s i (both_true _ _ h).0;
        kept = λ i l h.
            let b = both_true _ _ h in
            let r = carries_is p (valid s i bound (answers i)) b.1 in
            let u = valid_was s i bound (answers i) r.0 r.1 in
            let f = honest_valid s good w safe c task busy answers heard enough bound stage i (Found r.0) l b.0 u.0 in
            let e : r.0 ≡ f.0 = (let g = f.1 in cc) in
            let q : f.0.stamp ≡ p = ap (λ (v : Version). v.stamp) (sym e) ∙ r.2 in
            rw (← q) f.4;
      }

      above : (p : Stamp) → pivot s answers bound ≡ Some p → Aims Reads (λ stamp. stamp ≼ p)
      above p is apart x end stamp h e f b l =
          pivot_above s good w safe c task busy answers heard enough bound stage p is stamp end (quorum_of x end stamp h e f b) l
          (inside stamp (safe.aimed c task (NoClashFor-any s w task.work apart) x end stamp h e f busy b l))
          (λ y last t there of_b m k late. inside t (safe.aimed c task (NoClashFor-any s w task.work apart) y last t there m k busy (sym of_b) late))
        where
          inside : (t : Stamp) → IsAimed s t task.work task.stage → has bound t ≡ true
          inside t h = rw stage at h

      poison : (p : Stamp) → pivot s answers bound ≡ Some p → s.qc - s.t ≤ support s answers bound p → same_digests (s.sum_of (candidate s answers bound p)) (sum_of_first (chosen s answers bound p)) ≡ false
          → Aims Reads (λ stamp. before stamp p ≡ true)
      poison p is many bad apart x end stamp h e f b l =
          elim (≼-cases stamp p (above p is apart x end stamp h e f b l)) [
            | inl k ↦ k
            | inr k ↦ absurd
                (let d = done_of s w safe x end stamp h e f in
                let sound : Sound s p d.value = rw (← k) d.sound in
                let t = not_poisonous s good w safe c task busy answers heard enough bound stage apart d.value d.of_run d.size p sound
                (length_chosen s good answers bound p many) (ascending_chosen s good answers bound p) in cc)
          ]

      pivot_decided : (p : Stamp) → pivot s answers bound ≡ Some p → first_stamp s ≼ p → IsDecision Reads (decide_at s answers bound task.rounds p)
      pivot_decided p is low =
          at (same_stamp p (first_stamp s)) refl (ltb (support s answers bound p) (s.qc - s.t)) refl
          (same_digests (s.sum_of (candidate s answers bound p)) (sum_of_first (chosen s answers bound p))) refl (leb (s.qc + s.b) (support s answers bound p)) refl
        where
          cand : List ℕ
          cand = candidate s answers bound p

          not_first : same_stamp p (first_stamp s) ≡ false → first_stamp s ≡ p → ⊥
          not_first e f = let k : same_stamp p p ≡ true = same_stamp-refl p in let l : same_stamp p p ≡ false = rw f at e in cc

          size_of : s.qc - s.t ≤ support s answers bound p → IsBlock s (candidate s answers bound p)
          size_of many = candidate_size s good w safe c task busy answers heard enough bound stage p (length_chosen s good answers bound p many) (ascending_chosen s good answers bound p)

          is_good : s.qc - s.t ≤ support s answers bound p → same_stamp p (first_stamp s) ≡ false → same_digests (s.sum_of (candidate s answers bound p)) (sum_of_first (chosen s answers bound p)) ≡ true → IsGood s p (candidate s answers bound p)
          is_good many e f = record {
            sound = candidate_good s good w safe c task busy answers heard enough bound stage p (size_of many) f;
            later = elim (pivot_time s good w safe c task busy answers heard enough bound stage p is) [ inl l ↦ l | inr k ↦ absurd (not_first e (sym k)) ];
            whole = size_of many;
          }

          at : (b1 : Bool) → same_stamp p (first_stamp s) ≡ b1 → (b2 : Bool) → ltb (support s answers bound p) (s.qc - s.t) ≡ b2
              → (b3 : Bool) → same_digests (s.sum_of (candidate s answers bound p)) (sum_of_first (chosen s answers bound p)) ≡ b3 → (b4 : Bool) → leb (s.qc + s.b) (support s answers bound p) ≡ b4
              → IsDecision Reads (cond b1 (Ends (Gave (first_stamp s) (zeros s) Plain task.rounds)) (cond b2 (GoesOn (Versions (AtMost p)))
              (cond (not b3) (GoesOn (Versions (Below p))) (cond b4 (Ends (Gave p (candidate s answers bound p) Plain task.rounds)) (GoesOn (Storing p (candidate s answers bound p)))))))
          at true e b2 f b3 g b4 h = (
            (refl, inl (refl, refl)),
            (λ stamp k. let q : first_stamp s ≡ stamp = cc in rw (← q) held_first),
            λ last k apart x end stamp a d m b l. let q : p ≡ last = same_stamp-≡ _ _ e ∙ (cc) in rw (← q) (above p is apart x end stamp a d m b l),
          )
          at false e true f b3 g b4 h = (low, above p is)
          at false e false f false g b4 h = (
            elim (≼-cases (first_stamp s) p low) [ inl k ↦ k | inr k ↦ absurd (not_first e k) ],
            poison p is (grind (arith, nat_tests)) g,
          )
          at false e false f true g true h = (
            (refl, inr (is_good (grind (arith, nat_tests)) e g)),
            (λ stamp k. let q : p ≡ stamp = cc in rw (← q) (held_pivot p (grind (arith, nat_tests)))),
            λ last k apart x end stamp a d m b l. let q : p ≡ last = cc in rw (← q) (above p is apart x end stamp a d m b l),
          )
          at false e false f true g false h = (is_good (grind (arith, nat_tests)) e g, above p is)

      round_decided : IsDecision Reads (decide_pivot s answers bound task.rounds (pivot s answers bound))
      round_decided =
          let sp = some_pivot s good w safe c task busy answers heard enough bound stage in
          rw sp.1 (pivot_decided sp.0 sp.1 sp.2)

    pub full_decided : (stage : Stage) → task.stage ≡ stage → (work : Work) → task.work ≡ work → IsStage s work stage → IsDecision work (decide s c full stage)
    full_decided Times e Reads f h = absurd h
    full_decided Times e (Writes value) f h =
        subst (λ (v : List ℕ). IsDecision (Writes value) (decide_time s c v (drawn_from s answers))) (sym (ap (value_of) f)) (time_decided value e h)
    full_decided (Versions bound) e Reads f h = round_decided bound e
    full_decided (Versions bound) e (Writes value) f h = absurd h
    full_decided (Storing p value) e work f h =
        subst (λ (k : Work). IsDecision work (Ends (stored k task.rounds p value))) (sym f) (store_decided p value work f e h)

  pub advanced_safe : IsSafe s (advanced s w place c full)
  advanced_safe = at (ltb (answered s answers) (s.n - s.t)) refl
    where
      at : (b : Bool) → ltb (answered s answers) (s.n - s.t) ≡ b → IsSafe s (cond b (moved s w place c (Some full) [] (open_record c full)) (decided s w place c full (decide s c full task.stage)))
      at true e = counted_safe
      at false e =
          let enough : s.n ≤ answered s answers + s.t = grind (arith, nat_tests) in
          decided_safe (decide s c full task.stage) (full_decided enough task.stage refl task.work refl (safe.tasks c task busy).stage) (decision_keeps task.stage refl)
