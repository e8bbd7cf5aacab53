-- What an entry more does to a client.
use Rattle.std.proofs.Common.{◌≡◌, ℕ, ◌+◌, ◌*◌, ◌^◌, ◌==◌, Bool, true, false, cond, List, [], ◌∷◌, ◌++◌, Option, refl, sym, ap, subst, ◌∙◌, arith}
use Rattle.std.specs.declared.option.Option.TheVariants.{None, Some}
use Rattle.std.proofs.lemmas.List.Sums.{sum_by-cons, sum_by_push}
use Rattle.quorum_rules.specs.Limits.{Numbers}
use Rattle.wire_forms.specs.declared.message.Body.TheVariants.{Ask as Asks, Answer as Answers}
use Rattle.protocol.specs.Messages.{Tag, Message, Body, Reply}
use Rattle.protocol.specs.Setting.{Setting}
use Rattle.protocol.specs.Instance.{setting}
use Rattle.protocol.specs.Operations.{Outcome, Decision}
use Rattle.protocol.specs.Operations.Decision.{GoesOn, Ends as EndsWith}
use Rattle.protocol.specs.Seen.{SeenTask, Hearing, is_counted, seen_counted, by_decision, after_counting, hearing}
use Rattle.protocol.specs.Seen.Hearing.{Ignored, Counted, Begins, Ended as Ends}
use Rattle.operation_core.specs.Clients.{ClientView, told, hears}
use Rattle.journals.specs.declared.desk.DeskAct.{DeskAct}
use Rattle.journals.specs.declared.desk.DeskAct.TheVariants.{Start, Crash, Call}
use Rattle.journals.specs.declared.desk.DeskEntry.{DeskEntry}
use Rattle.journals.specs.Desks.{DeskState, new_desk, by_hearing, desk_heard, desk_told, desk_after, desk_after_all}
use Rattle.client_desks.specs.Desks.{outcome_in, ending}
use Rattle.plan_followed.specs.Clients.{times, starts}

-- ---- one entry more

pub times_snoc : (test : DeskAct → Bool) (es : List DeskEntry) (e : DeskEntry) → times test (es ++ e ∷ []) ≡ times test es + cond (test e.act) 1 0
times_snoc test es e = sum_by_push (λ (x : DeskEntry). cond (test x.act) 1 0) es e

-- ---- what an answer does

-- the operation goes on as the same one
abbrev pub Keeps : SeenTask → Hearing → Type 0
Keeps t Ignored = Unit {0}
Keeps t (Counted u) = (u.op ≡ t.op) × (u.block ≡ t.block)
Keeps t (Begins u) = (u.op ≡ t.op) × (u.block ≡ t.block)
Keeps t (Ends outcome) = Unit {0}

module _ (s : Setting) (client : ℕ) where
  decision_keeps : (t u : SeenTask) → u.op ≡ t.op → u.block ≡ t.block → (x : Decision) → Keeps t (by_decision s u x)
  decision_keeps t u op block (GoesOn stage) = (op, block)
  decision_keeps t u op block (EndsWith outcome) = tt

  counting_keeps : (t u : SeenTask) → u.op ≡ t.op → u.block ≡ t.block → (b : Bool) (x : Decision) → Keeps t (cond b (Counted u) (by_decision s u x))
  counting_keeps t u op block true x = (op, block)
  counting_keeps t u op block false x = decision_keeps t u op block x

  hearing_keeps : (t : SeenTask) (node : ℕ) (tag : Tag) (reply : Reply) → Keeps t (hearing s client t node tag reply)
  hearing_keeps t node tag reply = at (is_counted s t node tag reply)
    where
      at : (b : Bool) → Keeps t (cond b (after_counting s client (seen_counted t node reply)) Ignored)
      at true = counting_keeps t (seen_counted t node reply) refl refl _ _
      at false = tt

pub hears_keep : (c : ClientView) (t : SeenTask) (m : Message) → Keeps t (hears c (Some t) m)
hears_keep c t m = at m.body
  where
    from : (b : Bool) (reply : Reply) → Keeps t (cond b (hearing (setting c.config) c.id t m.node m.tag reply) Ignored)
    from true reply = hearing_keeps (setting c.config) c.id t m.node m.tag reply
    from false reply = tt

    at : (body : Body) → Keeps t (told c t m body)
    at (Asks ask) = tt
    at (Answers reply) = from (m.client == c.id) reply

-- ---- the client after a call

-- the operation goes on, and nothing ended
pub record GoesOnWith (d new : DeskState) (t : SeenTask) : Type 0 where
  pub next : SeenTask
  pub task : new.client.seen.task ≡ Some next
  pub op : next.op ≡ t.op
  pub block : next.block ≡ t.block

-- what stays
pub record Stays (d new : DeskState) : Type 0 where
  pub config : new.client.config ≡ d.client.config
  pub id : new.client.id ≡ d.client.id
  pub life : new.client.seen.life ≡ d.client.seen.life
  pub started : new.client.seen.started ≡ d.client.seen.started
  pub crashed : new.crashed ≡ d.crashed

heard_stays : (d : DeskState) (n : ℕ) (h : Hearing) → Stays d (desk_heard d n h)
heard_stays d n Ignored = record { config = refl; id = refl; life = refl; started = refl; crashed = refl }
heard_stays d n (Counted t) = record { config = refl; id = refl; life = refl; started = refl; crashed = refl }
heard_stays d n (Begins t) = record { config = refl; id = refl; life = refl; started = refl; crashed = refl }
heard_stays d n (Ends outcome) = record { config = refl; id = refl; life = refl; started = refl; crashed = refl }

pub told_stays : (d : DeskState) (n : ℕ) (reply : Option Message) → Stays d (desk_told d n reply)
told_stays d n None = record { config = refl; id = refl; life = refl; started = refl; crashed = refl }
told_stays d n (Some m) = heard_stays d n (hears d.client d.client.seen.task m)

goes_on : (d : DeskState) (n : ℕ) (t : SeenTask) (h : Hearing) → d.client.seen.task ≡ Some t → Keeps t h → outcome_in h ≡ None → GoesOnWith d (desk_heard d n h) t
goes_on d n t Ignored e k f = record { next = t; task = e; op = refl; block = refl }
goes_on d n t (Counted u) e k f = record { next = u; task = refl; op = k.0; block = k.1 }
goes_on d n t (Begins u) e k f = record { next = u; task = refl; op = k.0; block = k.1 }
goes_on d n t (Ends outcome) e k f = absurd (cc)

ends : (d : DeskState) (n : ℕ) (h : Hearing) (outcome : Outcome) → outcome_in h ≡ Some outcome → (desk_heard d n h).client.seen.task ≡ None
ends d n Ignored outcome f = absurd (cc)
ends d n (Counted u) outcome f = absurd (cc)
ends d n (Begins u) outcome f = absurd (cc)
ends d n (Ends o) outcome f = refl

-- a call whose answer ends nothing
pub told_on : (d : DeskState) (n : ℕ) (t : SeenTask) (reply : Option Message) → d.client.seen.task ≡ Some t → ending d.client reply ≡ None → GoesOnWith d (desk_told d n reply) t
told_on d n t None e f = record { next = t; task = e; op = refl; block = refl }
told_on d n t (Some m) e f = goes_on d n t (hears d.client d.client.seen.task m) e (subst (λ (x : Option SeenTask). Keeps t (hears d.client x m)) (sym e) (hears_keep d.client t m)) f

-- a call whose answer ends the operation
pub told_end : (d : DeskState) (n : ℕ) (reply : Option Message) (outcome : Outcome) → ending d.client reply ≡ Some outcome → (desk_told d n reply).client.seen.task ≡ None
told_end d n None outcome f = absurd (cc)
told_end d n (Some m) outcome f = ends d n (hears d.client d.client.seen.task m) outcome f

-- ---- the numbers of operations

-- a client in its first life, whose operation has the number of its starts
pub record IsNumbered (d : DeskState) (count : ℕ) : Type 0 where
  pub life : d.client.seen.life ≡ 0
  pub started : d.client.seen.started ≡ count
  pub op : (t : SeenTask) → d.client.seen.task ≡ Some t → t.op ≡ count

number_heard : (d : DeskState) (n count : ℕ) (t : SeenTask) (h : Hearing) → d.client.seen.task ≡ Some t → Keeps t h → IsNumbered d count → (u : SeenTask) → (by_hearing d.client h).seen.task ≡ Some u → u.op ≡ count
number_heard d n count t Ignored e k g u f = g.op u f
number_heard d n count t (Counted v) e k g u f = let same : v ≡ u = cc in let a = g.op t e in let b = k.0 in ap (λ (x : SeenTask). x.op) (sym same) ∙ (b ∙ a)
number_heard d n count t (Begins v) e k g u f = let same : v ≡ u = cc in let a = g.op t e in let b = k.0 in ap (λ (x : SeenTask). x.op) (sym same) ∙ (b ∙ a)
number_heard d n count t (Ends outcome) e k g u f = absurd (cc)

number_told : (d : DeskState) (n count : ℕ) (reply : Option Message) (o : Option SeenTask) → d.client.seen.task ≡ o → IsNumbered d count → (u : SeenTask) → (desk_told d n reply).client.seen.task ≡ Some u → u.op ≡ count
number_told d n count None o e g u f = g.op u f
number_told d n count (Some m) None e g u f =
    g.op u (subst (λ (x : Option SeenTask). (by_hearing d.client (hears d.client x m)).seen.task ≡ Some u) e f)
number_told d n count (Some m) (Some t) e g u f =
    number_heard d n count t (hears d.client d.client.seen.task m) e (subst (λ (x : Option SeenTask). Keeps t (hears d.client x m)) (sym e) (hears_keep d.client t m)) g u f

same_number : (d : DeskState) (count : ℕ) → IsNumbered d count → IsNumbered d (0 + count)
same_number d count g = let e : count ≡ 0 + count = omega arith in subst (IsNumbered d) e g

number_act : (d : DeskState) (n count : ℕ) (act : DeskAct) → IsNumbered d count → IsNumbered (desk_after d n act) (cond (starts act) 1 0 + count)
number_act d n count (Start op) g =
    let life = g.life in let s = g.started in
    record { life = life; started = omega arith; op = λ u f. let e : d.client.seen.life * 2 ^ 32 + d.client.seen.started + 1 ≡ u.op = cc in omega (arith, ap (λ (x : ℕ). x * 2 ^ 32) life) }
number_act d n count Crash g = same_number (desk_after d n Crash) count (record { life = g.life; started = g.started; op = g.op })
number_act d n count (Call way ask reply) g =
    let s = told_stays d n reply in
    same_number (desk_told d n reply) count (record { life = s.life ∙ g.life; started = s.started ∙ g.started; op = number_told d n count reply d.client.seen.task refl g })

number_all : (d : DeskState) (count : ℕ) (es : List DeskEntry) → IsNumbered d count → IsNumbered (desk_after_all d es) (times starts es + count)
number_all d count [] g = same_number d count g
number_all d count (e ∷ es) g =
    let h = number_all (desk_after d e.number e.act) (cond (starts e.act) 1 0 + count) es (number_act d e.number count e.act g) in
    let same : times starts es + (cond (starts e.act) 1 0 + count) ≡ times starts (e ∷ es) + count = (let s = sum_by-cons (λ (x : DeskEntry). cond (starts x.act) 1 0) e es in omega arith) in subst (IsNumbered (desk_after_all (desk_after d e.number e.act) es)) same h

-- a client counts its operations from 1
pub numbered : (config : Numbers) (id : ℕ) (es : List DeskEntry) → IsNumbered (desk_after_all (new_desk config id) es) (times starts es)
numbered config id es =
    let same : times starts es + 0 ≡ times starts es = omega arith in
    subst (IsNumbered (desk_after_all (new_desk config id) es)) same
    (number_all (new_desk config id) 0 es (record { life = refl; started = refl; op = λ t e. absurd (cc) }))
