-- The records of a client whose journal has one entry more.
use Rattle.std.proofs.Common.{◌≡◌, ℕ, ◌+◌, List, [], ◌∷◌, ◌++◌, map, Option, refl, sym, ◌∙◌, ap, append-nil}
use Rattle.std.specs.declared.option.Option.TheVariants.{None, Some}
use Rattle.wire_forms.specs.declared.op.Op.{Op}
use Rattle.protocol.specs.Count.{one_more}
use Rattle.protocol.specs.Messages.{Message}
use Rattle.protocol.specs.World.{Record, open_record}
use Rattle.protocol.specs.Seen.{SeenTask, task_at, started_task}
use Rattle.protocol.specs.Seen.Hearing.{Ignored}
use Rattle.operation_core.specs.Clients.{ClientView, started}
use Rattle.journals.specs.declared.desk.DeskAct.TheVariants.{Start}
use Rattle.journals.specs.Desks.{DeskState, ended_by, by_hearing, desk_heard, desk_told, desk_after}
use Rattle.journals.specs.Agreement.{ended_record}
use Rattle.journals.specs.Records.{record_of_task, client_records}
use Rattle.client_desks.specs.Desks.{heard}
use Rattle.client_desks.specs.Recording.{hearing_of}

-- ---- what does nothing

ignored_ends : (start n : ℕ) (o : Option SeenTask) → ended_by start n o Ignored ≡ None
ignored_ends start n None = refl
ignored_ends start n (Some t) = refl

pub ignored_state : (d : DeskState) (n : ℕ) → desk_heard d n Ignored ≡ d
ignored_state d n = ap (λ x. record d { ended = one_more d.ended x }) (ignored_ends d.began n d.client.seen.task)

-- a reply, or none, is heard
pub told_heard : (d : DeskState) (n : ℕ) (reply : Option Message) → desk_told d n reply ≡ desk_heard d n (hearing_of d.client reply)
told_heard d n None = sym (ignored_state d n)
told_heard d n (Some m) = refl

pub heard_as : (k : ClientView) (reply : Option Message) → heard k reply ≡ by_hearing k (hearing_of k reply)
heard_as k None = refl
heard_as k (Some m) = refl

-- ---- a start

-- the client's records, with this operation under way
abbrev with_open : ℕ → DeskState → Option SeenTask → List Record
with_open c d task = map (ended_record c) d.ended ++ record_of_task c (started_task (d.began + 1) task)

pub start_records : (c n : ℕ) (d : DeskState) (op : Op) → d.client.seen.task ≡ None → client_records c (desk_after d n (Start op)) ≡ client_records c d ++ open_record c (task_at (n + 1) (started d.client op)) ∷ []
start_records c n d op idle =
    let none : client_records c d ≡ map (ended_record c) d.ended = ap (with_open c d) idle ∙ append-nil (map (ended_record c) d.ended) in
    ap (λ (l : List Record). l ++ open_record c (task_at (n + 1) (started d.client op)) ∷ []) (sym none)
