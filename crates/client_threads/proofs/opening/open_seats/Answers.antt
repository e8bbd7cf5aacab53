use Rattle.std.proofs.Common.{◌++◌, ◌∷◌, [], Some, length, map, sym, ap, subst, ◌∙◌, arith, All, length-append}
use Rattle.std.specs.Vec.Iter.{into_iter_items, into_iter_len}
use Rattle.std.proofs.lemmas.List.{map_push}
use Rattle.std.proofs.lemmas.List.Elements.{All-push, All-pop}
use Rattle.client_duties.specs.Tasks.{client_of}
use Rattle.phase_threads.specs.declared.duty.Seat.{Seat}
use Rattle.client_duties.specs.declared.work.ClientDuty.{ClientDuty}
use Rattle.event_clock.specs.Passes.{ClockId}
use Rattle.client_threads.specs.Opened.{IsUnusedPass, IsNewSeat}
use Rattle.thread_work.proofs.lemmas.Places.{walk_on}
use Rattle.client_threads.proofs.Walking.{made_more}
use Rattle.client_threads.proofs.opening.open_seats.Goals as goal

pub loop-task-preserved : goal.loop-task-preserved
loop-task-preserved c =
    let inv = c.loop-task.invariant in
    let steps = c.in-Some.ensures.steps in
    let plan = c.args.plan.now in
    let clock = c.args.clock.now in
    let task = c.in-Some.task in
    let pass = c.in-Some-pop.pass in
    let popped = c.in-Some-pop.ensures.items in
    let few = ap length popped in
    let u = All-pop (IsUnusedPass clock) c.loop-task.passes c.pop.new.self (Some pass) popped inv.4 in
    let seat = c.in_ok-open_seat.field-0 in
    let was = c.loop-task.seats.items in
    let pushed = c.in_ok-push.ensures.items in
    let id = λ (s : Seat ClientDuty). s.desk.id in (
      inv.0 ++ task ∷ [],
      walk_on c.args.tasks inv.0 (into_iter_items c.loop-task.task-iterator) (into_iter_items c.next.new.self) task (into_iter_len c.loop-task.task-iterator) (into_iter_len c.next.new.self) inv.1 steps.0 steps.1,
      subst (All (IsNewSeat plan clock)) (sym pushed) (All-push (IsNewSeat plan clock) was seat inv.2 (subst (λ (k : ClockId). IsNewSeat plan k seat) u.1.ticks c.in_ok-open_seat.ensures.seat)),
      made_more client_of [] (map id was) (map id c.push.new.self.items) inv.0 task seat.desk.id (ap (map id) pushed ∙ map_push id was seat) inv.3 c.in_ok-open_seat.ensures.id,
      u.0,
      omega (arith, few, inv.5, length-append c.pop.new.self (pass ∷ []), length-append inv.0 (task ∷ [])),
    )
