use Rattle.std.proofs.Common.{subst}
use Rattle.client_duties.specs.declared.task.Task.{Task}
use Rattle.client_duties.specs.Tasks.{IsTaskOf}
use Rattle.client_threads.proofs.Newcomers.{client_new, liar_new}
use Rattle.client_threads.proofs.opening.open_seat.Goals as goal

pub returns-in_ok-desk-in-Client-clause-seat : goal.returns-in_ok-desk-in-Client-clause-seat
returns-in_ok-desk-in-Client-clause-seat c =
    let made = c.new-in-Client.ensures in
    let task = subst (λ (t : Task). IsTaskOf c.args.plan.now t) c.in-Client.is c.requires.task in
    client_new c.args.plan.now c.args.pass c.in-Client.task.client c.in_ok-desk-in-Client.desk c.new-in-Client.result c.requires.unused c.in_ok-desk-in-Client.ensures task.correct made.plan made.ready made.first

pub returns-in_ok-desk-in-Liar-clause-seat : goal.returns-in_ok-desk-in-Liar-clause-seat
returns-in_ok-desk-in-Liar-clause-seat c =
    let made = c.new-in-Liar.ensures in
    let task = subst (λ (t : Task). IsTaskOf c.args.plan.now t) c.in-Liar.is c.requires.task in
    liar_new c.args.plan.now c.args.pass c.in-Liar.client c.in_ok-desk-in-Liar.desk c.new-in-Liar.result c.requires.unused c.in_ok-desk-in-Liar.ensures task.lying made.plan made.ready
