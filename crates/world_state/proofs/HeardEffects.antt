-- The effect that is done to a client is what it heard.
use Rattle.std.proofs.Common.{◌≡◌, ◌⊎◌, ℕ, ◌+◌, ◌-◌, ◌<◌, ◌≤◌, Bool, true, false, cond, List, [], ◌∷◌, ◌++◌, length, map, get_or, Option, refl, sym, ◌∙◌, ap, subst, inl, inr, arith, ltb}
use Rattle.std.specs.Prelude.{IfSome, slice_get, slice_index_or}
use Rattle.std.specs.declared.option.Option.TheVariants.{None, Some}
use Rattle.std.proofs.lemmas.List.{append-nil, append_assoc}
use Rattle.std.proofs.lemmas.Option.{slice_get_cases}
use Rattle.quorum_rules.specs.Limits.{Numbers}
use Rattle.protocol.specs.Count.{update}
use Rattle.protocol.specs.Messages.{Reply, Message}
use Rattle.protocol.specs.Setting.{Setting}
use Rattle.protocol.specs.Operations.{Task, Outcome, Decision, answered, decide}
use Rattle.protocol.specs.Operations.Decision.{GoesOn, Ends as EndsWith}
use Rattle.protocol.specs.World.{World, heard, heard_by, with_record, chosen_stamp}
use Rattle.protocol.specs.Seen.{SeenTask, record_of, phase_of, Hearing, new_client, client_at, task_at, started_task, seen_goes_on, seen_counted, is_counted, answers_of, by_decision, after_counting, hearing}
use Rattle.protocol.specs.Seen.Hearing.{Ignored, Counted, Begins, Ended}
use Rattle.protocol.proofs.lemmas.Seeing.{length-goes_on, length-counted, after_hearing, heard_by-seen}
use Rattle.operation_core.specs.Counting.{GoesOn as GoesOnIn, IsAtEnd}
use Rattle.operation_core.specs.Clients.{ClientView, hears}
use Rattle.client_core.specs.Clients.{operation_of, goes_to, is_only_counted, next_of}
use Rattle.world_state.specs.declared.answer_effect.AnswerEffect.{AnswerEffect}
use Rattle.world_state.specs.declared.answer_effect.AnswerEffect.TheVariants.{Same, Counts, Goes, Ends}
use Rattle.world_state.specs.declared.client_slot.ClientSlot.{ClientSlot}
use Rattle.world_state.specs.declared.state.State.TheInside.{Inside}
use Rattle.world_state.specs.contracts.state.State.{the_view}
use Rattle.world_state.specs.Worlds.{WorldView, setting_in, world_in}
use Rattle.world_state.specs.Slots.{IsWorld, IsTaskOf}
use Rattle.world_state.specs.Changes.{client_in, IsAnswer}
use Rattle.world_state.specs.AnswerEffects.{IsEffect, next_mail, answer_does, Becomes, MayApply, goes_on, applied}
use Rattle.client_core.proofs.lemmas.AnswersHeard.{told_is}
use Rattle.world_state.proofs.ClientSlots.{slot-client}

-- the operation u follows t
record IsNext (n : ℕ) (t u : SeenTask) : Type 0 where
  block : u.block ≡ t.block
  work : u.work ≡ t.work
  answers : length u.answers ≡ n
  phase : u.phase ≤ t.phase + 1

module _ (s : Setting) (k : ℕ) where
  same_next : (t u : SeenTask) → length t.answers ≡ s.n → Some t ≡ Some u → IsNext s.n t u
  same_next t u full e = let q : t ≡ u = cc in subst (IsNext s.n t) q (record { block = refl; work = refl; answers = full; phase = omega arith })

  decision_next : (t u : SeenTask) (d : Decision) → goes_to (by_decision s t d) ≡ Some u → IsNext s.n t u
  decision_next t u (GoesOn stage) e = let q : seen_goes_on s t stage ≡ u = cc in subst (IsNext s.n t) q (record { block = refl; work = refl; answers = length-goes_on s t stage; phase = omega arith })
  decision_next t u (EndsWith outcome) e = absurd (cc)

  counting_next : (t u : SeenTask) → length t.answers ≡ s.n → goes_to (after_counting s k t) ≡ Some u → IsNext s.n t u
  counting_next t u full e = at (ltb (answered s (λ i. answers_of t i)) (s.n - s.t)) e
    where
      at : (b : Bool) → goes_to (cond b (Counted t) (by_decision s t (decide s k (task_at 0 t) t.stage))) ≡ Some u → IsNext s.n t u
      at true f = same_next t u full f
      at false f = decision_next t u (decide s k (task_at 0 t) t.stage) f

  hearing_next : (t u : SeenTask) (m : Message) (given : Reply) → length t.answers ≡ s.n → goes_to (hearing s k t m.node m.tag given) ≡ Some u → IsNext s.n t u
  hearing_next t u m given full e = at (is_counted s t m.node m.tag given) e
    where
      at : (b : Bool) → goes_to (cond b (after_counting s k (seen_counted t m.node given)) Ignored) ≡ Some u → IsNext s.n t u
      at true f =
          let n = counting_next (seen_counted t m.node given) u (length-counted t m.node given ∙ full) f in
          record { block = n.block; work = n.work; answers = n.answers; phase = n.phase }
      at false f = absurd (cc)

-- messages that are sent one after the other are sent together
pub sent-together : (pool mail others next : List Message) (m : Message) → mail ≡ m ∷ others → others ≡ next → pool ++ mail ≡ (pool ++ m ∷ []) ++ next
sent-together pool mail others next m a b =
    ap (λ (x : List Message). pool ++ x) (a ∙ ap (λ (x : List Message). m ∷ x) b) ∙ sym (append_assoc pool (m ∷ []) next)

-- what the message does to the client of this number
abbrev pub hearing_of : WorldView → ℕ → Message → Hearing
hearing_of v k m = hears (client_in v k) (client_at v.seen k).task m

-- an operation under way has an answer or none for each node, and no more phases than places so far
abbrev pub Fits : ℕ → ℕ → Option SeenTask → Type 0
Fits n place o = IfSome o (λ t. (length t.answers ≡ n) × (t.phase ≤ place))

pub fits-phase : (n place : ℕ) (o : Option SeenTask) → Fits n place o → phase_of o ≤ place
fits-phase n place None fit = omega arith
fits-phase n place (Some t) fit = fit.1

pub slot-fits : (w : Inside) → IsWorld w.config w.node_slots.items w.client_slots.items w.records w.place → (k : ℕ) → k ≤ 1000 → Fits w.config.n w.place (client_at (the_view w).seen k).task
slot-fits w good k l = at (slice_get_cases w.client_slots.items k).1
  where
    task : (slot : ClientSlot) (o : Option SeenTask) → IsTaskOf w.config (map record_of w.records) w.place k slot.start slot.index o → Fits w.config.n w.place o
    task slot None h = tt
    task slot (Some t) h = (h.answers, h.phases)

    at : ((x : ClientSlot) × (k < length w.client_slots.items) × (slice_get w.client_slots.items k ≡ Some x) × (get_or w.client_slots.items k x ≡ x)) ⊎ ((length w.client_slots.items ≤ k) × (slice_get w.client_slots.items k ≡ None)) → Fits w.config.n w.place (client_at (the_view w).seen k).task
    at (inl h) = subst (λ x. Fits w.config.n w.place x.task) (sym (slot-client w k h.1 h.0 (sym h.3))) (task h.0 h.0.client.seen.task (good.client_slot k h.0 h.2).task)
    at (inr h) = absurd (let e = good.clients in let q = h.0 in omega (arith, e, q, l))

module _ (v : WorldView) (k place : ℕ) (m : Message) (answer : IsAnswer k m) (effect : AnswerEffect) where
  heard-as : (t : SeenTask) → hears (client_in v k) (Some t) m ≡ hearing (setting_in v) k t m.node m.tag answer.1
  heard-as t = told_is (client_in v k) m answer.1 answer.0 answer.2 t

  -- ---- the effect may be done to the client
  module _ (now : WorldView) (config : now.config ≡ v.config) (at_place : now.seen.place ≡ place) (later : v.seen.place < place) (clients : now.seen.clients ≡ v.seen.clients)
      (task : (world_in now).task k ≡ (world_in v).task k) where
    -- the client is as it was
    pub client-kept : client_in now k ≡ client_in v k
    client-kept = λ i. record { config = config i; id = k; seen = slice_index_or (clients i) k new_client }

    goes-on : (o : Option SeenTask) → Fits v.config.n v.seen.place o → (u : SeenTask) → goes_to (hears (client_in v k) o m) ≡ Some u → (n : ℕ) → Becomes now.config now.seen.place (started_task n o) (Some u)
    goes-on None fit u e n = absurd (cc)
    goes-on (Some t) fit u e n =
        let next = hearing_next (setting_in v) k t u m answer.1 fit.0 (ap goes_to (sym (heard-as t)) ∙ e) in
        record {
          block = next.block;
          work = next.work;
          answers = next.answers ∙ ap (λ (c : Numbers). c.n) (sym config);
          phases = (let p = next.phase in let q = fit.1 in omega (arith, p, q, later, at_place));
        }

    ends : (o : Option SeenTask) (outcome : Outcome) → hears (client_in v k) o m ≡ Ended outcome → (n : ℕ) → Becomes now.config now.seen.place (started_task n o) None
    ends None outcome e n = absurd (cc)
    ends (Some t) outcome e n = tt

    pub may-apply : Fits v.config.n v.seen.place (client_at v.seen k).task → IsEffect (client_in v k) (hearing_of v k m) effect → MayApply now k effect
    may-apply fit h = at effect h
      where
        at : (x : AnswerEffect) → IsEffect (client_in v k) (hearing_of v k m) x → MayApply now k x
        at Same h = tt
        at (Counts node tag reply) h =
            let counted : answer_does (client_in now k) node tag reply ≡ Counted h.0 = ap (λ (x : ClientView). answer_does x node tag reply) client-kept ∙ h.2 in
            (ap is_only_counted counted, rw (task, counted) (goes-on (client_at v.seen k).task fit h.0 (ap goes_to h.1) (slice_index_or v.seen.starts k 0)))
        at (Goes stage) h =
            let next : next_of (client_in now k) stage ≡ Some h.0 = ap (λ (x : ClientView). next_of x stage) client-kept ∙ h.2 in
            (subst (λ (x : ClientView). GoesOnIn (operation_of x) stage) (sym client-kept) h.3, rw (task, next) (goes-on (client_at v.seen k).task fit h.0 (ap goes_to h.1) (slice_index_or v.seen.starts k 0)))
        at (Ends outcome) h =
            (subst (λ (x : ClientView). IsAtEnd (operation_of x)) (sym client-kept) h.1, rw task (ends (client_at v.seen k).task outcome h.0 (slice_index_or v.seen.starts k 0)))

  -- ---- and then it heard the message
  module _ (w : World) (start : ℕ) where
    -- the world when the messages of a next phase were sent
    abbrev pub mailed : Hearing → World
    mailed h = record w { pool = w.pool ++ next_mail (client_in v k) h; place = place }

    -- it goes on in its phase, or in the next one
    stays : (t u : SeenTask) → IsNext v.config.n t u → goes_on (mailed (Counted u)) k (task_at start t) (Some u) ≡ after_hearing (setting_in v) w place k start t (Counted u)
    stays t u n = λ i. record w {
      pool = w.pool ++ [];
      task = update w.task k (Some (task_at start u));
      records = with_record w.records (record {
        client = k;
        block = sym n.block i;
        work = sym n.work i;
        start = start;
        end = None;
        stamp = chosen_stamp u.work u.stage;
        outcome = None;
      });
      place = place;
    }

    begins : (t u : SeenTask) → IsNext v.config.n t u → goes_on (mailed (Begins u)) k (task_at start t) (Some u) ≡ after_hearing (setting_in v) w place k start t (Begins u)
    begins t u n = λ i. record w {
      pool = (mailed (Begins u)).pool;
      task = update w.task k (Some (task_at start u));
      records = with_record w.records (record {
        client = k;
        block = sym n.block i;
        work = sym n.work i;
        start = start;
        end = None;
        stamp = chosen_stamp u.work u.stage;
        outcome = None;
      });
      place = place;
    }

    takes : (t : SeenTask) (h : Hearing) (x : AnswerEffect) → ((u : SeenTask) → goes_to h ≡ Some u → IsNext v.config.n t u) → IsEffect (client_in v k) h x
        → applied (mailed h) (client_in v k) (Some (task_at start t)) x ≡ after_hearing (setting_in v) w place k start t h
    takes t h Same next is = rw is (λ i. record w { pool = append-nil w.pool i; place = place })
    takes t Ignored (Counts node tag reply) next is = absurd (let e = is.1 in cc)
    takes t (Begins u) (Counts node tag reply) next is = absurd (let e = is.1 in cc)
    takes t (Ended outcome) (Counts node tag reply) next is = absurd (let e = is.1 in cc)
    takes t (Counted u) (Counts node tag reply) next is =
        let q : u ≡ is.0 = (let e = is.1 in cc) in
        ap (λ (o : Option SeenTask). goes_on (mailed (Counted u)) k (task_at start t) o) (ap goes_to is.2 ∙ ap Some (sym q)) ∙ stays t u (next u refl)
    takes t Ignored (Goes stage) next is = absurd (let e = is.1 in cc)
    takes t (Ended outcome) (Goes stage) next is = absurd (let e = is.1 in cc)
    takes t (Counted u) (Goes stage) next is = absurd (let e = is.1 in cc)
    takes t (Begins u) (Goes stage) next is =
        let q : u ≡ is.0 = (let e = is.1 in cc) in
        ap (λ (o : Option SeenTask). goes_on (mailed (Begins u)) k (task_at start t) o) (is.2 ∙ ap Some (sym q)) ∙ begins t u (next u refl)
    takes t h (Ends outcome) next is = rw is.0 refl

  pub heard-applied : (w : World) → w.task k ≡ (world_in v).task k → Fits v.config.n v.seen.place (client_at v.seen k).task → IsEffect (client_in v k) (hearing_of v k m) effect
      → (c : ClientView) → c ≡ client_in v k → (now : World) → now ≡ record w { pool = w.pool ++ next_mail (client_in v k) (hearing_of v k m); place = place } → applied now c (now.task k) effect ≡ heard (setting_in v) w place k m m.body
  heard-applied w task fit is c same now e =
      ap (λ (x : ClientView). applied now x (now.task k) effect) same
      ∙ ap (λ (x : World). applied x (client_in v k) (x.task k) effect) e ∙ ap (λ (o : Option Task). applied (record w { pool = w.pool ++ next_mail (client_in v k) (hearing_of v k m); place = place }) (client_in v k) o effect) task
      ∙ at (client_at v.seen k).task fit is
      ∙ ap (λ (o : Option Task). heard_by (setting_in v) w place k o m answer.1) (sym task)
      ∙ ap (heard (setting_in v) w place k m) (sym answer.2)
    where
      at : (o : Option SeenTask) → Fits v.config.n v.seen.place o → IsEffect (client_in v k) (hears (client_in v k) o m) effect
          → applied (record w { pool = w.pool ++ next_mail (client_in v k) (hears (client_in v k) o m); place = place }) (client_in v k) (started_task (slice_index_or v.seen.starts k 0) o) effect ≡ heard_by (setting_in v) w place k (started_task (slice_index_or v.seen.starts k 0) o) m answer.1
      at None f h = λ i. record w { pool = append-nil w.pool i; place = place }
      at (Some t) f h =
          takes w (slice_index_or v.seen.starts k 0) t (hears (client_in v k) (Some t) m) effect (λ u g. hearing_next (setting_in v) k t u m answer.1 f.0 (ap goes_to (sym (heard-as t)) ∙ g)) h
          ∙ ap (after_hearing (setting_in v) w place k (slice_index_or v.seen.starts k 0) t) (heard-as t)
          ∙ sym (heard_by-seen (setting_in v) w place k (slice_index_or v.seen.starts k 0) t f.0 m answer.1)
