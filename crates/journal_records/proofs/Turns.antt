-- The operations that a client ended come one after another.
use Rattle.std.proofs.Common.{◌≡◌, ℕ, ◌<◌, List, [], ◌∷◌, ◌++◌, map, Option, refl, sym, subst}
use Rattle.std.specs.declared.option.Option.TheVariants.{None, Some}
use Rattle.std.specs.List.{AllByRecursion}
use Rattle.wire_forms.specs.declared.message.Message.{Message}
use Rattle.protocol.specs.Count.{one_more}
use Rattle.protocol.specs.Report.{Ascend}
use Rattle.protocol.specs.Seen.{SeenTask, Hearing}
use Rattle.protocol.specs.Seen.Hearing.{Ignored, Counted, Begins, Ended as Ends}
use Rattle.operation_core.specs.Clients.{hears}
use Rattle.journals.specs.declared.desk.DeskEntry.{DeskEntry}
use Rattle.journals.specs.declared.desk.DeskAct.{DeskAct}
use Rattle.journals.specs.declared.desk.DeskAct.TheVariants.{Start, Crash, Call}
use Rattle.journals.specs.Desks.{DeskState, Ended, ended_by, desk_heard, desk_after, desk_after_all}
use Rattle.journal_records.specs.Steady.{ComeInTurn}
use Rattle.journal_records.proofs.Operations.{task_after, task_is}
use Rattle.lists.proofs.lemmas.Members.{all_push}

all_weaken : {X : Type 0} (P Q : X → Type 0) → ((x : X) → P x → Q x) → (xs : List X) → AllByRecursion P xs → AllByRecursion Q xs
all_weaken P Q to [] h = tt
all_weaken P Q to (x ∷ xs) h = (to x h.0, all_weaken P Q to xs h.1)

turn_push : (xs : List Ended) (x : Ended) → ComeInTurn xs → AllByRecursion (λ y. y.end < x.start) xs → ComeInTurn (xs ++ x ∷ [])
turn_push [] x h past = (tt, tt)
turn_push (y ∷ xs) x h past = (all_push (λ z. y.end < z.start) xs x h.0 past.0, turn_push xs x h.1 past.1)

-- the operations came in turn, and the one under way, which began at this number, comes behind them
record AreInTurn (ended : List Ended) (began : ℕ) (task : Option SeenTask) : Type 0 where
  turns : ComeInTurn ended
  behind : (t : SeenTask) → task ≡ Some t → AllByRecursion (λ x. x.end < began) ended

-- what is heard while an operation is under way
told : (ended : List Ended) (began n : ℕ) (t : SeenTask) (h : Hearing) → AreInTurn ended began (Some t) → AreInTurn (one_more ended (ended_by began n (Some t) h)) began (task_after (Some t) h)
told ended began n t Ignored a = a
told ended began n t (Counted u) a = record { turns = a.turns; behind = λ v e. a.behind t refl }
told ended began n t (Begins u) a = record { turns = a.turns; behind = λ v e. a.behind t refl }
told ended began n t (Ends outcome) a = record {
  turns = turn_push ended (record { block = t.block; work = t.work; start = began; end = n; outcome = outcome }) a.turns (a.behind t refl);
  behind = λ v e. absurd (let none : None ≡ Some v = e in cc);
}

abbrev InTurn : DeskState → Type 0
InTurn d = AreInTurn d.ended d.began d.client.seen.task

heard : (d : DeskState) (n : ℕ) (m : Message) (task : Option SeenTask) → d.client.seen.task ≡ task → InTurn d → InTurn (desk_heard d n (hears d.client task m))
heard d n m None e a = subst (λ (o : Option SeenTask). AreInTurn (one_more d.ended (ended_by d.began n o Ignored)) d.began d.client.seen.task) (sym e) a
heard d n m (Some t) e a =
    let h = hears d.client (Some t) m in
    subst (λ (o : Option SeenTask). AreInTurn (one_more d.ended (ended_by d.began n d.client.seen.task h)) d.began o) (sym (task_is d.client h))
    (subst (λ (o : Option SeenTask). AreInTurn (one_more d.ended (ended_by d.began n o h)) d.began (task_after o h)) (sym e)
    (told d.ended d.began n t h (subst (λ (o : Option SeenTask). AreInTurn d.ended d.began o) e a)))

-- an act of a number above those at which operations ended
acted : (d : DeskState) (n : ℕ) (act : DeskAct) → AllByRecursion (λ x. x.end < n) d.ended → InTurn d → InTurn (desk_after d n act)
acted d n (Start op) past a = record { turns = a.turns; behind = λ t e. past }
acted d n Crash past a = a
acted d n (Call way ask None) past a = a
acted d n (Call way ask (Some m)) past a = heard d n m d.client.seen.task refl a

-- an operation that an act ended, ended at the act's number
ended_all : (P : Ended → Type 0) (ended : List Ended) (began n : ℕ) (task : Option SeenTask) (h : Hearing) → AllByRecursion P ended → ((x : Ended) → x.end ≡ n → P x)
    → AllByRecursion P (one_more ended (ended_by began n task h))
ended_all P ended began n None h all new = all
ended_all P ended began n (Some t) Ignored all new = all
ended_all P ended began n (Some t) (Counted u) all new = all
ended_all P ended began n (Some t) (Begins u) all new = all
ended_all P ended began n (Some t) (Ends outcome) all new =
    let x : Ended = record { block = t.block; work = t.work; start = began; end = n; outcome = outcome } in
    all_push P ended x all (new x refl)

ended_after : (P : Ended → Type 0) (d : DeskState) (n : ℕ) (act : DeskAct) → AllByRecursion P d.ended → ((x : Ended) → x.end ≡ n → P x) → AllByRecursion P (desk_after d n act).ended
ended_after P d n (Start op) all new = all
ended_after P d n Crash all new = all
ended_after P d n (Call way ask None) all new = all
ended_after P d n (Call way ask (Some m)) all new = ended_all P d.ended d.began n d.client.seen.task (hears d.client d.client.seen.task m) all new

abbrev numbers : List DeskEntry → List ℕ
numbers es = map (λ e. e.number) es

-- the operation ended below each of these numbers
abbrev IsBelow : List ℕ → Ended → Type 0
IsBelow ns x = AllByRecursion (λ n. x.end < n) ns

turns_from : (es : List DeskEntry) (d : DeskState) → Ascend (numbers es) → AllByRecursion (IsBelow (numbers es)) d.ended → InTurn d → ComeInTurn (desk_after_all d es).ended
turns_from [] d up below a = a.turns
turns_from (e ∷ es) d up below a =
    turns_from es (desk_after d e.number e.act) up.1
    (ended_after (IsBelow (numbers es)) d e.number e.act (all_weaken (IsBelow (numbers (e ∷ es))) (IsBelow (numbers es)) (λ x b. b.1) d.ended below)
    (λ x is. subst (λ (n : ℕ). AllByRecursion (λ k. n < k) (numbers es)) (sym is) up.0))
    (acted d e.number e.act (all_weaken (IsBelow (numbers (e ∷ es))) (λ x. x.end < e.number) (λ x b. b.0) d.ended below) a)

-- a client that has ended nothing yet, and whose numbers ascend
pub come_in_turn : (es : List DeskEntry) (d : DeskState) → d.ended ≡ [] → Ascend (numbers es) → ComeInTurn (desk_after_all d es).ended
come_in_turn es d none up =
    turns_from es d up (subst (AllByRecursion (IsBelow (numbers es))) (sym none) tt)
    (record { turns = subst ComeInTurn (sym none) tt; behind = λ t e. subst (AllByRecursion (λ x. x.end < d.began)) (sym none) tt })
