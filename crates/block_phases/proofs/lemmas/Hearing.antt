-- What an answer makes of an operation's task, and that this doesn't hang on the operation's number.
use Rattle.std.proofs.Common.{◌≡◌, ℕ, ◌<◌, Bool, true, false, cond, ◌&&◌, not, eqb, ltb, if◌then◌else◌, refl, sym, ◌∙◌, ap, arith, []}
use Rattle.std.proofs.lemmas.Bool.{eq-eqb}
use Rattle.std.proofs.lemmas.Bool.Decides.{nat_tests}
use Rattle.protocol.specs.Messages.{Reply, Tag}
use Rattle.protocol.specs.Setting.{Setting}
use Rattle.protocol.specs.Operations.{Stage, Decision, decide, awaits_more, is_of_kind, is_answered}
use Rattle.protocol.specs.Operations.Stage.{Times, Versions, Storing}
use Rattle.protocol.specs.Operations.Decision.{GoesOn, Ends}
use Rattle.protocol.specs.Seen.{SeenTask, Hearing, answers_of, task_at, seen_counted, is_counted, by_decision, after_counting, hearing}
use Rattle.protocol.specs.Seen.Hearing.{Ignored, Counted, Begins, Ended}
use Rattle.block_phases.specs.Phases.{tag_of}

-- the task, whatever answers were counted in its phase
abbrev pub bare : SeenTask → SeenTask
bare t = record t { answers = [] }

-- an answer makes of a task one of the same phase, one of a further phase, or none
abbrev pub IsHeard : SeenTask → Hearing → Type 0
IsHeard t Ignored = Unit {0}
IsHeard t (Counted next) = bare next ≡ bare t
IsHeard t (Begins next) = (next.block ≡ t.block) × (next.work ≡ t.work) × (t.phase < next.phase)
IsHeard t (Ended outcome) = Unit {0}

if_heard : (t : SeenTask) (b : Bool) (x y : Hearing) → IsHeard t x → IsHeard t y → IsHeard t (if b then x else y)
if_heard t true x y p q = p
if_heard t false x y p q = q

decided_heard : (s : Setting) (t : SeenTask) (node : ℕ) (given : Reply) (d : Decision)
    → IsHeard t (by_decision s (seen_counted t node given) d)
decided_heard s t node given (GoesOn stage) = (refl, refl, omega arith)
decided_heard s t node given (Ends outcome) = tt

pub is_heard : (s : Setting) (client : ℕ) (t : SeenTask) (node : ℕ) (tag : Tag) (given : Reply)
    → IsHeard t (hearing s client t node tag given)
is_heard s client t node tag given =
    let next = seen_counted t node given in
    let decision = decide s client (task_at 0 next) next.stage in
    if_heard t (is_counted s t node tag given) (after_counting s client next) Ignored
    (if_heard t (awaits_more s (task_at 0 next)) (Counted next) (by_decision s next decision) refl (decided_heard s t node given decision))
    tt

and_second_false : (a b c d e : Bool) → b ≡ false → a && b && c && d && e ≡ false
and_second_false true b c d e h = rw h refl
and_second_false false b c d e h = refl

-- an answer to an earlier phase is ignored
pub late_ignored : (s : Setting) (client : ℕ) (t : SeenTask) (node : ℕ) (tag : Tag) (given : Reply)
    → tag.phase < t.phase
    → hearing s client t node tag given ≡ Ignored
late_ignored s client t node tag given lt =
    let other : eqb tag.phase t.phase ≡ false = grind (arith, nat_tests) in
    let none : is_counted s t node tag given ≡ false = and_second_false _ _ _ _ _ other in
    ap (λ (b : Bool). if b then after_counting s client (seen_counted t node given) else Ignored) none

-- ---- another number

-- the operation under another number
abbrev pub numbered : ℕ → SeenTask → SeenTask
numbered op t = record { op = op; block = t.block; work = t.work; phase = t.phase; rounds = t.rounds; stage = t.stage; answers = t.answers }

abbrev pub hearing_of : ℕ → Hearing → Hearing
hearing_of op Ignored = Ignored
hearing_of op (Counted u) = Counted (numbered op u)
hearing_of op (Begins u) = Begins (numbered op u)
hearing_of op (Ended outcome) = Ended outcome

module _ (s : Setting) (client node : ℕ) (reply : Reply) where
  -- how a phase ends hangs on no number
  decide_same : (op : ℕ) (t : SeenTask) (stage : Stage)
      → decide s client (task_at 0 (numbered op t)) stage ≡ decide s client (task_at 0 t) stage
  decide_same op t Times = refl
  decide_same op t (Versions bound) = refl
  decide_same op t (Storing stamp value) = refl

  decided_same : (op : ℕ) (t : SeenTask) (d : Decision) → by_decision s (numbered op t) d ≡ hearing_of op (by_decision s t d)
  decided_same op t (GoesOn stage) = refl
  decided_same op t (Ends outcome) = refl

  counting_same : (op : ℕ) (t : SeenTask) → after_counting s client (numbered op t) ≡ hearing_of op (after_counting s client t)
  counting_same op t = at (awaits_more s (task_at 0 t))
    where
      at : (b : Bool)
          → cond b (Counted (numbered op t)) (by_decision s (numbered op t) (decide s client (task_at 0 (numbered op t)) t.stage))
          ≡ hearing_of op (cond b (Counted t) (by_decision s t (decide s client (task_at 0 t) t.stage)))
      at true = refl
      at false = ap (by_decision s (numbered op t)) (decide_same op t t.stage) ∙ decided_same op t (decide s client (task_at 0 t) t.stage)

  -- whether an answer with the operation's own number counts
  counts_same : (op : ℕ) (t : SeenTask)
      → is_counted s (numbered op t) node (tag_of (numbered op t)) reply ≡ is_counted s t node (tag_of t) reply
  counts_same op t = ap all (eq-eqb op op refl) ∙ sym (ap all (eq-eqb t.op t.op refl))
    where
      all : Bool → Bool
      all b = b && eqb t.phase t.phase && ltb node s.n && is_of_kind t.stage reply && not (is_answered (answers_of t node))

  -- an answer with the operation's own number does the same
  pub hearing_same : (op : ℕ) (t : SeenTask)
      → hearing s client (numbered op t) node (tag_of (numbered op t)) reply ≡ hearing_of op (hearing s client t node (tag_of t) reply)
  hearing_same op t =
      ap (λ (b : Bool). cond b (after_counting s client (seen_counted (numbered op t) node reply)) Ignored) (counts_same op t)
      ∙ at (is_counted s t node (tag_of t) reply)
    where
      at : (b : Bool)
          → cond b (after_counting s client (seen_counted (numbered op t) node reply)) Ignored
          ≡ hearing_of op (cond b (after_counting s client (seen_counted t node reply)) Ignored)
      at true = counting_same op (seen_counted t node reply)
      at false = refl
