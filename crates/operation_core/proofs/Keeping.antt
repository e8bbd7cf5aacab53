-- What is kept beside an operation's answers goes on to fit them.
use Rattle.std.proofs.Common.{◌≡◌, ℕ, ◌+◌, ◌<◌, ◌≤◌, true, not, ◌&&◌, List, length, replicate, Option, refl, sym, ◌∙◌, ap, inl, inr, arith, length-set, ltb}
use Rattle.std.specs.declared.option.Option.TheVariants.{None, Some}
use Rattle.std.specs.Prelude.{slice_set, leb, ◌==◌}
use Rattle.std.proofs.lemmas.Bool.{cases_lt}
use Rattle.std.proofs.lemmas.Bool.Decides.{nat_tests}
use Rattle.std.proofs.lemmas.List.{length-replicate, get_or-set_same, get_or_past}
use Rattle.quorum_rules.specs.Limits.{Numbers, IsValid, wait_of}
use Rattle.wire_forms.specs.declared.op.Op.{Op}
use Rattle.protocol.specs.Messages.{Reply, Tag}
use Rattle.protocol.specs.Instance.{setting}
use Rattle.protocol.specs.Operations.{answered, is_answered, is_of_kind, rounds_after}
use Rattle.protocol.specs.Seen.{SeenTask, block_of, work_of, answers_of, is_counted, counts_of, ends_phase}
use Rattle.protocol.proofs.lemmas.Counting.{both_true, update-cases}
use Rattle.protocol.proofs.lemmas.Seeing.{at_list, at_replicate}
use Rattle.operation_core.specs.declared.stage.Stage.{Stage}
use Rattle.operation_core.specs.declared.stage.Stage.TheVariants.{Times, Versions, Storing}
use Rattle.operation_core.specs.Stages.{stage_of, FitsStage}
use Rattle.operation_core.specs.Counting.{answer_at, task_in, IsOperation}
use Rattle.operation_core.proofs.lemmas.Counts.{count_one_more, count_none, count_most}
use Rattle.protocol.proofs.lemmas.Tests.{is_ltb}

-- an operation that no node has answered
pub no_answer : (c : Numbers) (phase rounds : ℕ) (stage : Stage) → IsValid c → rounds ≤ phase → FitsStage c stage → (answers : List (Option Reply)) → answers ≡ replicate c.n None
    → IsOperation c phase rounds (Some stage) answers 0
no_answer c phase rounds stage valid few fits answers none = record {
  valid = valid;
  places = ap length none ∙ length-replicate c.n None;
  counted = sym (count_none c.n (λ i. is_answered (answer_at answers i)) (λ i. ap (λ xs. is_answered (answer_at xs i)) none ∙ ap is_answered (at_replicate c.n None i)));
  few = few;
  fits = fits;
}

-- a node that has answered is there
pub kept_inside : (answers : List (Option Reply)) (node : ℕ) → is_answered (answer_at answers node) ≡ true → node < length answers
kept_inside answers node h = elim (cases_lt node (length answers)) [
  | inl l ↦ l
  | inr m ↦ absurd (let e = get_or_past answers node None m in let f = sym (ap is_answered e) ∙ h in cc)
]

module _ (c : Numbers) (phase rounds : ℕ) (stage : Option Stage) (answers : List (Option Reply)) (heard : ℕ) (h : IsOperation c phase rounds stage answers heard) where
  -- there are no more answers than nodes
  pub few_heard : heard ≤ c.n
  few_heard = omega (arith, h.counted, count_most c.n (λ i. is_answered (answer_at answers i)))

  module _ (node : ℕ) (there : node < c.n) where
    inside : node < length answers
    inside = omega (arith, there, h.places)

    others : (v : Option Reply) (i : ℕ) → (i ≡ node → ⊥) → is_answered (answer_at (slice_set answers node v) i) ≡ is_answered (answer_at answers i)
    others v i apart = elim (update-cases (answer_at answers) node v i) [ inl e ↦ absurd (apart e.0) | inr e ↦ ap is_answered (at_list answers None v node inside i ∙ e.1) ]

    -- with one more answer one more has answered
    pub counted_once : answer_at answers node ≡ None → (reply : Reply) → answered (setting c) (answer_at (slice_set answers node (Some reply))) ≡ heard + 1
    counted_once new reply =
        count_one_more c.n node (λ i. is_answered (answer_at answers i)) (λ i. is_answered (answer_at (slice_set answers node (Some reply)) i)) there (ap is_answered new) (ap is_answered (get_or-set_same answers node (Some reply) None inside)) (others (Some reply))
        ∙ ap (λ k. k + 1) (sym h.counted)

    pub counted_is : answer_at answers node ≡ None → (reply : Reply) → IsOperation c phase rounds stage (slice_set answers node (Some reply)) (heard + 1)
    counted_is new reply = record {
      valid = h.valid;
      places = length-set answers node (Some reply) ∙ h.places;
      counted = sym (counted_once new reply);
      few = h.few;
      fits = h.fits;
    }

not_answered : (o : Option Reply) → not (is_answered o) ≡ true → o ≡ None
not_answered None e = refl
not_answered (Some reply) e = absurd (cc)

turned : (a b : ℕ) → leb b a ≡ not (ltb a b)
turned a b = grind (arith, nat_tests)

-- an answer that a task counts is of a node that is there and hasn't answered
pub counts_new : (c : Numbers) (t : SeenTask) (node : ℕ) (tag : Tag) (reply : Reply) → is_counted (setting c) t node tag reply ≡ true → (node < c.n) × (answers_of t node ≡ None)
counts_new c t node tag reply e =
    let parts = both_true ((tag.op == t.op) && (tag.phase == t.phase) && ltb node c.n && is_of_kind t.stage reply) (not (is_answered (answers_of t node))) e in
    let kind = both_true ((tag.op == t.op) && (tag.phase == t.phase) && ltb node c.n) (is_of_kind t.stage reply) parts.0 in
    let there = both_true ((tag.op == t.op) && (tag.phase == t.phase)) (ltb node c.n) kind.0 in
    (is_ltb node c.n there.1, not_answered (answers_of t node) parts.1)

module _ (c : Numbers) (number : ℕ) (op : Op) (phase rounds : ℕ) (answers : List (Option Reply)) (heard : ℕ) (node : ℕ) (tag : Tag) (reply : Reply) where
  pub counts_inside : (stage : Option Stage) → counts_of (setting c) (task_in number op phase rounds stage answers) node tag reply ≡ true → (node < c.n) × (answer_at answers node ≡ None)
  counts_inside None e = absurd (cc)
  counts_inside (Some stage) e =
      counts_new c (record { op = number; block = block_of op; work = work_of op; phase = phase; rounds = rounds; stage = stage_of stage; answers = answers }) node tag reply e

  -- it is the last one where as many are counted with it as the phase waits for
  pub ends_where : (stage : Option Stage) → IsOperation c phase rounds stage answers heard → counts_of (setting c) (task_in number op phase rounds stage answers) node tag reply ≡ true
      → leb (wait_of c) (heard + 1) ≡ ends_phase (setting c) (task_in number op phase rounds stage answers) node tag reply
  ends_where None h e = absurd (cc)
  ends_where (Some stage) h e =
      let new = counts_inside (Some stage) e in
      let now = counted_once c phase rounds (Some stage) answers heard h node new.0 new.1 reply in
      let last : ends_phase (setting c) (task_in number op phase rounds (Some stage) answers) node tag reply ≡ not (ltb (heard + 1) (wait_of c)) = rw (e, now) refl in
      turned (heard + 1) (wait_of c) ∙ sym last

-- a further phase has at most one round more
pub rounds_few : (stage : Stage) (rounds phase : ℕ) → rounds ≤ phase → rounds_after (stage_of stage) rounds ≤ phase + 1
rounds_few Times rounds phase l = omega arith
rounds_few (Versions bound) rounds phase l = omega arith
rounds_few (Storing s) rounds phase l = omega arith
