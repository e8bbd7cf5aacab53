-- At which places a client's operations start.
use Rattle.std.proofs.Common.{◌≡◌, ◌⊎◌, ℕ, zero, suc, ◌+◌, ◌<◌, ◌≤◌, Bool, false, cond, List, [], ◌∷◌, ◌++◌, map, sum_by, Option, refl, sym, ◌∙◌, ap, subst, inl, inr, arith, eqb, append_assoc, append-nil}
use Rattle.std.specs.declared.option.Option.TheVariants.{None, Some}
use Rattle.std.specs.List.{Contains, AllByRecursion}
use Rattle.std.proofs.lemmas.Bool.Decides.{eqb_tells}
use Rattle.std.proofs.lemmas.List.{map-append}
use Rattle.std.proofs.lemmas.List.Sums.{sum_by-cons, sum_by-append}
use Rattle.protocol.specs.Messages.{Message}
use Rattle.protocol.specs.World.{Record}
use Rattle.protocol.specs.Report.{Ascend}
use Rattle.protocol.specs.Seen.{SeenTask, Hearing, started_task}
use Rattle.protocol.specs.Seen.Hearing.{Ignored, Counted, Begins, Ended as Ends}
use Rattle.operation_core.specs.Clients.{hears}
use Rattle.journals.specs.declared.desk.DeskAct.{DeskAct}
use Rattle.journals.specs.declared.desk.DeskAct.TheVariants.{Start, Crash, Call}
use Rattle.journals.specs.declared.desk.DeskEntry.{DeskEntry}
use Rattle.journals.specs.Desks.{DeskState, Ended, desk_heard, desk_after, desk_after_all, DeskGoes, DeskKept}
use Rattle.journals.specs.Steps.{IsOwn}
use Rattle.journals.specs.Agreement.{ended_record}
use Rattle.journals.specs.Records.{record_of_task, client_records}
use Rattle.lists.proofs.lemmas.Members.{Contains-head, Contains-none, Contains-rest, Contains-cons_cases}

abbrev pub starts : List Record → List ℕ
starts rs = map (λ r. r.start) rs

-- the places at which the entries start operations
abbrev start_of : ℕ → DeskAct → List ℕ
start_of n (Start op) = (n + 1) ∷ []
start_of n Crash = []
start_of n (Call way ask reply) = []

abbrev pub starts_of : List DeskEntry → List ℕ
starts_of [] = []
starts_of (e ∷ es) = start_of e.number e.act ++ starts_of es

-- ---- they are the starts of the client's records

-- the place at which what is under way started
abbrev open_start : ℕ → Option SeenTask → List ℕ
open_start place None = []
open_start place (Some t) = place ∷ []

abbrev ended_starts : List Ended → List ℕ
ended_starts xs = map (λ x. x.start + 1) xs

abbrev begun_at : DeskState → List ℕ
begun_at d = ended_starts d.ended ++ open_start (d.began + 1) d.client.seen.task

starts_ended : (c : ℕ) (xs : List Ended) → starts (map (ended_record c) xs) ≡ ended_starts xs
starts_ended c [] = refl
starts_ended c (x ∷ xs) = ap (λ (l : List ℕ). (x.start + 1) ∷ l) (starts_ended c xs)

starts_open : (c place : ℕ) (task : Option SeenTask) → starts (record_of_task c (started_task place task)) ≡ open_start place task
starts_open c place None = refl
starts_open c place (Some t) = refl

starts_begun : (c : ℕ) (d : DeskState) → starts (client_records c d) ≡ begun_at d
starts_begun c d =
    map-append (λ (r : Record). r.start) (map (ended_record c) d.ended) (record_of_task c (started_task (d.began + 1) d.client.seen.task))
    ∙ ap (λ (l : List ℕ). l ++ starts (record_of_task c (started_task (d.began + 1) d.client.seen.task))) (starts_ended c d.ended)
    ∙ ap (λ (l : List ℕ). ended_starts d.ended ++ l) (starts_open c (d.began + 1) d.client.seen.task)

-- a reply starts nothing
heard_at : (d : DeskState) (n : ℕ) (t : SeenTask) (h : Hearing) → d.client.seen.task ≡ Some t → begun_at (desk_heard d n h) ≡ begun_at d
heard_at d n t Ignored e = rw e refl
heard_at d n t (Counted u) e = rw e refl
heard_at d n t (Begins u) e = rw e refl
heard_at d n t (Ends outcome) e = rw e (append-nil _ ∙ map-append (λ (x : Ended). x.start + 1) d.ended _)

heard_starts : (d : DeskState) (n : ℕ) (task : Option SeenTask) (m : Message) → d.client.seen.task ≡ task → begun_at (desk_heard d n (hears d.client task m)) ≡ begun_at d
heard_starts d n None m e = rw e refl
heard_starts d n (Some t) m e = heard_at d n t (hears d.client (Some t) m) e

step_starts : (d : DeskState) (n : ℕ) (act : DeskAct) → DeskGoes d act → begun_at (desk_after d n act) ≡ begun_at d ++ start_of n act
step_starts d n (Start op) goes = rw goes.1.idle (ap (λ (l : List ℕ). l ++ (n + 1) ∷ []) (sym (append-nil (ended_starts d.ended))))
step_starts d n Crash goes = sym (append-nil (begun_at d))
step_starts d n (Call way ask None) goes = sym (append-nil (begun_at d))
step_starts d n (Call way ask (Some m)) goes = heard_starts d n d.client.seen.task m refl ∙ sym (append-nil (begun_at d))

all_starts : (d : DeskState) (es : List DeskEntry) → DeskKept false d es → begun_at (desk_after_all d es) ≡ begun_at d ++ starts_of es
all_starts d [] kept = sym (append-nil (begun_at d))
all_starts d (e ∷ es) kept =
    all_starts (desk_after d e.number e.act) es kept.1 ∙ ap (λ (l : List ℕ). l ++ starts_of es) (step_starts d e.number e.act kept.0)
    ∙ append_assoc (begun_at d) (start_of e.number e.act) (starts_of es)

-- a client's operations start where its journal says
pub kept_starts : (c : ℕ) (d : DeskState) (es : List DeskEntry) → DeskKept false d es → begun_at d ≡ [] → starts (client_records c (desk_after_all d es)) ≡ starts_of es
kept_starts c d es kept none = starts_begun c (desk_after_all d es) ∙ all_starts d es kept ∙ ap (λ (l : List ℕ). l ++ starts_of es) none

-- ---- how often a number stands in a list

abbrev pub times : ℕ → List ℕ → ℕ
times n xs = sum_by (λ x. cond (eqb x n) 1 0) xs

pub times-append : (n : ℕ) (xs ys : List ℕ) → times n (xs ++ ys) ≡ times n xs + times n ys
times-append n xs ys = sum_by-append (λ y. cond {A = ℕ} (eqb y n) 1 0) xs ys

pub times-cons : (n x : ℕ) (xs : List ℕ) → times n (x ∷ xs) ≡ cond (eqb x n) 1 0 + times n xs
times-cons n x xs = sum_by-cons (λ y. cond {A = ℕ} (eqb y n) 1 0) x xs

-- the first is the number and counts once, or isn't and doesn't count
pub times-cases : (n x : ℕ) (xs : List ℕ) → ((x ≡ n) × (times n (x ∷ xs) ≡ 1 + times n xs)) ⊎ ((x ≡ n → ⊥) × (times n (x ∷ xs) ≡ times n xs))
times-cases n x xs = elim (eqb_tells x n) [
  | inl is ↦ inl (is.1, times-cons n x xs ∙ ap (λ (b : Bool). cond {A = ℕ} b 1 0 + times n xs) is.0)
  | inr not ↦ inr (not.1, (let e = times-cons n x xs ∙ ap (λ (b : Bool). cond {A = ℕ} b 1 0 + times n xs) not.0 in omega (arith, e)))
]

-- ---- each place at which entries start operations is that of one of them, and is there once

-- an entry of the client's own at this place
pub record StartsAt (es : List DeskEntry) (place : ℕ) : Type 0 where
  pub entry : DeskEntry
  pub there : Contains es entry
  pub own : IsOwn entry.act
  pub at : entry.number + 1 ≡ place

starts_later : (e : DeskEntry) (es : List DeskEntry) (place : ℕ) → StartsAt es place → StartsAt (e ∷ es) place
starts_later e es place h = record { entry = h.entry; there = Contains-rest h.entry e es h.there; own = h.own; at = h.at }

pub starts_there : (es : List DeskEntry) (place : ℕ) → 1 ≤ times place (starts_of es) → StartsAt es place
starts_there [] place some = absurd (omega (arith, some))
starts_there (e ∷ es) place some = by_act e.act refl (λ h. starts_later e es place (starts_there es place h))
  where
    by_act : (act : DeskAct) → e.act ≡ act → (1 ≤ times place (starts_of es) → StartsAt (e ∷ es) place) → StartsAt (e ∷ es) place
    by_act (Start op) is rest = elim (times-cases place (e.number + 1) (starts_of es)) [
      | inl now ↦ record { entry = e; there = Contains-head e es; own = subst (λ (a : DeskAct). IsOwn a) (sym is) tt; at = now.0 }
      | inr later ↦ rest (let s : 1 ≤ times place ((e.number + 1) ∷ starts_of es) = rw is at some in omega (arith, s, later.1))
    ]
    by_act Crash is rest = rest (rw is at some)
    by_act (Call way ask reply) is rest = rest (rw is at some)

pub one_or_none : (n : ℕ) → (n < 1) ⊎ (1 ≤ n)
one_or_none zero = inl (omega arith)
one_or_none (suc n) = inr (omega arith)

above : (m : ℕ) (es : List DeskEntry) → AllByRecursion (λ n. m < n) (map (λ (e : DeskEntry). e.number) es) → (e : DeskEntry) → Contains es e → m < e.number
above m [] all e there = absurd (Contains-none e there)
above m (x ∷ es) all e there = elim (Contains-cons_cases e x es there) [
  | inl is ↦ subst (λ (y : DeskEntry). m < y.number) (sym is) all.0
  | inr later ↦ above m es all.1 e later
]

pub starts_once : (es : List DeskEntry) (place : ℕ) → Ascend (map (λ (e : DeskEntry). e.number) es) → times place (starts_of es) ≤ 1
starts_once [] place up = omega arith
starts_once (e ∷ es) place up = by_act e.act (starts_once es place up.1)
  where
    none_later : e.number + 1 ≡ place → times place (starts_of es) < 1
    none_later now = elim (one_or_none (times place (starts_of es))) [
      | inl none ↦ none
      | inr some ↦ (let h = starts_there es place some in let l = above e.number es up.0 h.entry h.there in let at = h.at in absurd (omega (arith, l, now, at)))
    ]

    by_act : (act : DeskAct) → times place (starts_of es) ≤ 1 → times place (start_of e.number act ++ starts_of es) ≤ 1
    by_act (Start op) rest = elim (times-cases place (e.number + 1) (starts_of es)) [
      | inl now ↦ (let none = none_later now.0 in let one = now.1 in omega (arith, one, none))
      | inr later ↦ (let same = later.1 in omega (arith, same, rest))
    ]
    by_act Crash rest = rest
    by_act (Call way ask reply) rest = rest
