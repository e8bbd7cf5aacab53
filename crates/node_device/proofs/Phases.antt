-- The nodes answer a phase one after the other, and the client counts each answer.
use Rattle.std.proofs.Common.{◌≡◌, ℕ, zero, suc, ◌+◌, ◌-◌, ◌<◌, ◌≤◌, true, false, List, [], ◌∷◌, ◌++◌, length, map, replicate, Option, refl, sym, ◌∙◌, ap, ◌⊎◌, inl, inr, arith, ltb}
use Rattle.std.specs.declared.option.Option.TheVariants.{None, Some}
use Rattle.std.specs.List.{range_with_len, slice_set, slice_index_or}
use Rattle.std.proofs.lemmas.Bool.{cases_eq}
use Rattle.std.proofs.lemmas.Bool.Decides.{nat_tests}
use Rattle.std.proofs.lemmas.List.{ext_get_or, get_or-replicate, length-replicate, length-set, get_or-set_same, get_or-set_other}
use Rattle.std.proofs.lemmas.List.FromFn.{get_or-map-range_with_len, length-map-range_with_len, map-range_with_len_more}
use Rattle.quorum_rules.specs.Limits.{Numbers, wait_of}
use Rattle.wire_forms.specs.declared.message.Message.{Message}
use Rattle.protocol.specs.Messages.{Reply, Tag, with_reply}
use Rattle.protocol.specs.Count.{count, collect}
use Rattle.protocol.specs.Operations.{Decision, is_of_kind, is_answered, answered, outstanding, decide}
use Rattle.protocol.specs.Operations.Decision.{GoesOn, Ends}
use Rattle.protocol.specs.Instance.{setting}
use Rattle.protocol.specs.Views.{task_after}
use Rattle.protocol.specs.Seen.{SeenTask, Hearing, task_at, answers_of, by_decision, is_counted, seen_counted, after_counting, hearing}
use Rattle.protocol.specs.Seen.Hearing.{Ignored, Counted, Begins, Ended}
use Rattle.node_core.specs.Seen.{SeenNode}
use Rattle.operation_core.specs.Clients.{ClientView, with_task, hears}
use Rattle.client_core.specs.Clients.{IsHeard}
use Rattle.client_core.specs.declared.heard.Heard.{Heard}
use Rattle.client_core.specs.declared.heard.Heard.TheVariants.{Unchanged, More, Send, Ended as EndedWith}
use Rattle.node_device.specs.Held.{node_at}
use Rattle.node_device.specs.Phases.{answer_of, answer_below, asked, node_after, HaveAnswered, phase_end, heard_of, IsAsking, HasAsked, HasMet}
use Rattle.node_device.proofs.Below.{count_below}
use Rattle.lists.proofs.lemmas.Tests.{eqb_self}

-- what is collected of all numbers is a list of what they give
pub collect_all : {A : Type 0} (n : ℕ) (f : ℕ → A) → collect n (λ i. Some (f i)) ≡ map f (range_with_len 0 n)
collect_all zero f = refl
collect_all (suc k) f =
    ap (λ xs. xs ++ f k ∷ []) (collect_all k f) ∙ sym (map-range_with_len_more f 0 k k (omega arith)) ∙ ap (λ j. map f (range_with_len 0 j)) (let e : k + 1 ≡ suc k = omega arith in e)

module _ (c : Numbers) (nodes : List SeenNode) (t : SeenTask) where
  answer_at : (k i : ℕ) → i < c.n → answers_of (asked c nodes t k) i ≡ answer_below c nodes t k i
  answer_at k i l = get_or-map-range_with_len (answer_below c nodes t k) 0 c.n i i None l (omega arith)

  pub answer_there : (k i : ℕ) → i < k → i < c.n → answers_of (asked c nodes t k) i ≡ Some (answer_of c nodes t i)
  answer_there k i l m = let e : ltb i k ≡ true = grind (arith, nat_tests) in answer_at k i m ∙ (rw e refl)

  pub answer_not : (k i : ℕ) → k ≤ i → i < c.n → answers_of (asked c nodes t k) i ≡ None
  answer_not k i l m = let e : ltb i k ≡ false = grind (arith, nat_tests) in answer_at k i m ∙ (rw e refl)

  -- no answers are those of the first 0 nodes
  pub asked_none : t.answers ≡ replicate c.n None → asked c nodes t 0 ≡ t
  asked_none e =
      let f : map (answer_below c nodes t 0) (range_with_len 0 c.n) ≡ t.answers =
      ext_get_or None _ _ (length-map-range_with_len (answer_below c nodes t 0) 0 c.n ∙ sym (ap (λ (xs : List (Option Reply)). length xs) e ∙ length-replicate c.n None))
      (λ i l.
      let m : i < c.n = omega (arith, l, length-map-range_with_len (answer_below c nodes t 0) 0 c.n) in
      answer_not 0 i (omega arith) m ∙ sym (rw e (get_or-replicate c.n i None None m))) in
      ap (λ xs. record { op = t.op; block = t.block; work = t.work; phase = t.phase; rounds = t.rounds; stage = t.stage; answers = xs }) f

  -- one more answer is that of the next node
  pub asked_next : (k : ℕ) → k < c.n → seen_counted (asked c nodes t k) k (answer_of c nodes t k) ≡ asked c nodes t (k + 1)
  asked_next k l =
      let long = length-map-range_with_len (answer_below c nodes t k) 0 c.n in
      let f : slice_set (map (answer_below c nodes t k) (range_with_len 0 c.n)) k (Some (answer_of c nodes t k)) ≡ map (answer_below c nodes t (k + 1)) (range_with_len 0 c.n) =
      ext_get_or None _ _ (length-set (map (answer_below c nodes t k) (range_with_len 0 c.n)) k (Some (answer_of c nodes t k)) ∙ long ∙ sym (length-map-range_with_len (answer_below c nodes t (k + 1)) 0 c.n))
      (λ i m. same i (omega (arith, m, long, length-set (map (answer_below c nodes t k) (range_with_len 0 c.n)) k (Some (answer_of c nodes t k))))) in
      ap (λ xs. record { op = t.op; block = t.block; work = t.work; phase = t.phase; rounds = t.rounds; stage = t.stage; answers = xs }) f
    where
      same : (i : ℕ) → i < c.n → slice_index_or (slice_set (map (answer_below c nodes t k) (range_with_len 0 c.n)) k (Some (answer_of c nodes t k))) i None ≡ answers_of (asked c nodes t (k + 1)) i
      same i m = elim (cases_eq i k) [
        | inl e ↦ rw e (get_or-set_same _ k _ None (omega (arith, l, length-map-range_with_len (answer_below c nodes t k) 0 c.n)) ∙ sym (answer_there (k + 1) k (omega arith) l))
        | inr d ↦ get_or-set_other _ k i _ None d ∙ other i m d
      ]
        where
          other : (i : ℕ) → i < c.n → (i ≡ k → ⊥) → answers_of (asked c nodes t k) i ≡ answers_of (asked c nodes t (k + 1)) i
          other i m d =
              let b : (i < k) ⊎ (k + 1 ≤ i) = grind (arith, d) in
              elim b [
                | inl h ↦ answer_there k i h m ∙ sym (answer_there (k + 1) i (omega (arith, h)) m)
                | inr h ↦ answer_not k i (omega (arith, h)) m ∙ sym (answer_not (k + 1) i h m)
              ]

  pub answered_is : (k : ℕ) → k ≤ c.n → answered (setting c) (λ i. answers_of (asked c nodes t k) i) ≡ k
  answered_is k l = count_below c.n k (λ i. is_answered (answers_of (asked c nodes t k) i)) l
      (λ i a. (let e = answer_there k i a (omega (arith, a, l)) in rw e refl))
      (λ i a b. (let e = answer_not k i a b in rw e refl))

  -- the next node's answer is counted
  module _ (id k : ℕ) (l : k < c.n) (kind : is_of_kind t.stage (answer_of c nodes t k) ≡ true) where
    abbrev tag : Tag
    tag = record { op = t.op; phase = t.phase }

    hearing_is : hearing (setting c) id (asked c nodes t k) k tag (answer_of c nodes t k) ≡ after_counting (setting c) id (asked c nodes t (k + 1))
    hearing_is =
        let below : ltb k c.n ≡ true = grind (arith, nat_tests) in
        let counted : is_counted (setting c) (asked c nodes t k) k tag (answer_of c nodes t k) ≡ true = rw (eqb_self t.op, eqb_self t.phase, below, kind, answer_not k k (omega arith) l) refl in
        (rw counted refl) ∙ ap (λ u. after_counting (setting c) id u) (asked_next k l)

    pub counted_is : k + 1 < wait_of c → hearing (setting c) id (asked c nodes t k) k tag (answer_of c nodes t k) ≡ Counted (asked c nodes t (k + 1))
    counted_is w =
        let few : ltb (answered (setting c) (λ i. answers_of (asked c nodes t (k + 1)) i)) (wait_of c) ≡ true = rw (answered_is (k + 1) (omega (arith, l))) (grind (arith, nat_tests, w)) in
        hearing_is ∙ (rw few refl)

    pub end_is : k + 1 ≡ wait_of c → hearing (setting c) id (asked c nodes t k) k tag (answer_of c nodes t k) ≡ phase_end c id (asked c nodes t (k + 1))
    end_is w =
        let all : ltb (answered (setting c) (λ i. answers_of (asked c nodes t (k + 1)) i)) (wait_of c) ≡ false = rw (answered_is (k + 1) (omega (arith, l))) (grind (arith, nat_tests, w)) in
        hearing_is ∙ (rw all refl)

-- which operation a phase's end leaves hangs on the decision alone
after_end : (c : Numbers) (u a b : SeenTask) (d : Decision) → task_after a (by_decision (setting c) u d) ≡ task_after b (by_decision (setting c) u d)
after_end c u a b (GoesOn stage) = refl
after_end c u a b (Ends outcome) = refl

-- no phase's end is one more answer alone
pub end_is_told : (c : Numbers) (id : ℕ) (u : SeenTask) (d : Decision) → More ≡ heard_of c id (by_decision (setting c) u d) → ⊥
end_is_told c id u (GoesOn stage) e = cc
end_is_told c id u (Ends outcome) e = cc

-- what is heard is told, and done
heard_told : (old new : ClientView) (t : SeenTask) (m : Message) (h : Hearing) (heard : Heard) → old.seen.task ≡ Some t → hears old old.seen.task m ≡ h → IsHeard old new m heard
    → (heard ≡ heard_of old.config old.id h) × (new ≡ with_task old (task_after t h))
heard_told old new t m h Unchanged e f is = (let g : Ignored ≡ h = sym is.0 ∙ f in rw (← g) (refl, is.1 ∙ same))
  where
    same : old ≡ with_task old (Some t)
    same = rw (← e) refl
heard_told old new t m h More e f is = (let g : Counted is.0 ≡ h = sym is.1 ∙ f in rw (← g) (refl, is.2))
heard_told old new t m h (Send mail) e f is = (let g : Begins is.0 ≡ h = sym is.1 ∙ f in rw (← g) (ap Send is.3, is.2))
heard_told old new t m h (EndedWith outcome) e f is = (let g : Ended outcome ≡ h = sym is.0 ∙ f in rw (← g) (refl, is.1))

module _ (nodes : List SeenNode) (client : ClientView) (t : SeenTask) (sent : List Message) (asking : IsAsking nodes client t sent) where
  abbrev c : Numbers
  c = client.config

  abbrev asked_by : ℕ → ClientView
  asked_by k = with_task client (Some (asked c nodes t k))

  -- k nodes have answered, and the phase goes on
  pub record IsUnderWay (k : ℕ) (now : List SeenNode) (after : ClientView) : Type 0 where
    pub few : k < wait_of c
    pub answered : HaveAnswered c nodes t k now
    pub is : after ≡ asked_by k

  pub begins : IsUnderWay 0 nodes client
  begins = record {
    few = asking.waits.0;
    answered = record { count = refl; first = λ i l. absurd (omega (arith, l)); rest = λ i l. refl };
    is = rw (asked_none c nodes t asking.none, ← asking.task) refl;
  }

  -- message k goes to node k
  pub message_is : (k : ℕ) (m : Message) → k < c.n → m ≡ slice_index_or sent k m → m ≡ outstanding (setting c) client.id (task_at 0 t) k
  message_is k m l e =
      e ∙ ap (λ (xs : List Message). slice_index_or xs k m) (asking.asks ∙ collect_all c.n (outstanding (setting c) client.id (task_at 0 t)))
      ∙ get_or-map-range_with_len (outstanding (setting c) client.id (task_at 0 t)) 0 c.n k k m l (omega arith)

  pub sent_count : length sent ≡ c.n
  sent_count = ap (λ (xs : List Message). length xs) (asking.asks ∙ collect_all c.n (outstanding (setting c) client.id (task_at 0 t))) ∙ length-map-range_with_len (outstanding (setting c) client.id (task_at 0 t)) 0 c.n

  module _ (k : ℕ) (now new : List SeenNode) (was after : ClientView) (under : IsUnderWay k now was) (m : Message) (is : m ≡ outstanding (setting c) client.id (task_at 0 t) k) (heard : Heard) (met : HasMet now new was after m heard m.body) where
    node_is : node_at c now k ≡ node_at c nodes k
    node_is = under.answered.rest k (omega arith)

    abbrev answer : Message
    answer = with_reply m (answer_of c nodes t k)

    met_is : (new ≡ slice_set now k (node_after c nodes t k)) × IsHeard (asked_by k) after answer heard
    met_is = let r = rw (is, under.is, node_is) at met in rw is r

    told_is : hears (asked_by k) (asked_by k).seen.task answer ≡ hearing (setting c) client.id (asked c nodes t k) k (record { op = t.op; phase = t.phase }) (answer_of c nodes t k)
    told_is = rw (is, eqb_self client.id) refl

    answered_more : HaveAnswered c nodes t (k + 1) new
    answered_more = record {
      count = ap (λ (xs : List SeenNode). length xs) met_is.0 ∙ length-set now k (node_after c nodes t k) ∙ under.answered.count;
      first = λ i l. elim (cases_eq i k) [
        | inl e ↦ rw (met_is.0, e) (get_or-set_same now k (node_after c nodes t k) _ (omega (arith, under.answered.count, asking.count, under.few, asking.waits.1)))
        | inr d ↦ rw met_is.0 (get_or-set_other now k i (node_after c nodes t k) _ d ∙ under.answered.first i (grind (arith, d, l)))
      ];
      rest = λ i l. rw met_is.0 (get_or-set_other now k i (node_after c nodes t k) _ (λ e. omega (arith, e, l)) ∙ under.answered.rest i (omega (arith, l)));
    }

    inside : k < c.n
    inside = omega (arith, under.few, asking.waits.1)

    -- either one more has answered, or the phase has ended
    pub goes_on : k + 1 < wait_of c → (heard ≡ More) × IsUnderWay (k + 1) new after
    goes_on w =
        let h = told_is ∙ counted_is c nodes t client.id k inside (asking.kinds k under.few) w in
        let r = heard_told (asked_by k) after (asked c nodes t k) answer _ heard refl h met_is.1 in
        (r.0, record { few = w; answered = answered_more; is = r.1 })

    pub ends : k + 1 ≡ wait_of c → HasAsked nodes new client after t heard
    ends w =
        let h = told_is ∙ end_is c nodes t client.id k inside (asking.kinds k under.few) w in
        let r = heard_told (asked_by k) after (asked c nodes t k) answer _ heard refl h met_is.1 in
        record {
          told = r.0 ∙ (rw w refl);
          goes = r.1 ∙ ap (λ o. with_task client o) (after_end c (asked c nodes t (k + 1)) (asked c nodes t k) t (decide (setting c) client.id (task_at 0 (asked c nodes t (k + 1))) t.stage)) ∙ (rw w refl);
          answered = rw w at answered_more;
        }
