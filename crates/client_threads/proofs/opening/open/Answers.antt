use Rattle.std.proofs.Common.{◌+◌, Some, length, refl, ap, ◌∙◌, arith}
use Rattle.std.proofs.lemmas.List.Elements.{All-pop}
use Rattle.client_duties.specs.Tasks.{client_of}
use Rattle.phase_threads.specs.declared.duty.Seat.{Seat}
use Rattle.client_duties.specs.declared.work.ClientDuty.{ClientDuty}
use Rattle.client_threads.specs.Opened.{IsUnusedPass}
use Rattle.client_threads.proofs.Newcomers.{count_few, tasks_few, mapped, same_long, all_unused, liars_named, stands_first}
use Rattle.client_threads.proofs.opening.open.Goals as goal

pub overflow_cast-clients : goal.overflow_cast-clients
overflow_cast-clients c =
    let few = tasks_few c.args.plan.now c.requires.fits c.in_ok-tasks.tasks c.in_ok-tasks.ensures.clients in
    omega (arith, few, c.len-clients.ensures)

pub overflow_add-count_cells : goal.overflow_add-count_cells
overflow_add-count_cells c =
    let plan = c.args.plan.now in
    let few = tasks_few plan c.requires.fits c.in_ok-tasks.tasks c.in_ok-tasks.ensures.clients in
    let most = c.requires.fits.valid.nodes.1 in
    let cells = count_few plan c.args.shards plan.config.n c.requires.shards.0 c.requires.shards.1 in
    omega (arith, few, most, cells, c.len-clients.ensures, c.count_cells.ensures)

pub overflow_add-count_cells-2 : goal.overflow_add-count_cells-2
overflow_add-count_cells-2 c =
    let plan = c.args.plan.now in
    let few = tasks_few plan c.requires.fits c.in_ok-tasks.tasks c.in_ok-tasks.ensures.clients in
    let most = c.requires.fits.valid.nodes.1 in
    let cells = count_few plan c.args.shards plan.config.n c.requires.shards.0 c.requires.shards.1 in
    omega (arith, few, most, cells, c.len-clients.ensures, c.count_cells.ensures)

pub start-requires : goal.start-requires
start-requires c =
    let plan = c.args.plan.now in
    let few = tasks_few plan c.requires.fits c.in_ok-tasks.tasks c.in_ok-tasks.ensures.clients in
    let most = c.requires.fits.valid.nodes.1 in
    let cells = count_few plan c.args.shards plan.config.n c.requires.shards.0 c.requires.shards.1 in
    (omega arith, omega (arith, few, most, cells, c.len-clients.ensures, c.count_cells.ensures))

pub open_cells-requires-clause-unused : goal.open_cells-requires-clause-unused
open_cells-requires-clause-unused c = all_unused c.in_ok-clock.clock c.in_ok-clock.passes (c.count_cells.result + c.len-clients.result + 1) c.in_ok-clock.ensures.all c.in_ok-clock.ensures.each

pub returns-clause-stands : goal.returns-clause-stands
returns-clause-stands c =
    let clock = c.in_ok-clock.clock in
    let one = All-pop (IsUnusedPass clock) c.open_seats.new.passes c.pop.new.self (Some c.in-Some.keeper) c.in-Some.ensures.items c.in_ok-clients.ensures.unused in
    let long = same_long (λ (s : Seat ClientDuty). s.desk.id) client_of c.in_ok-clients.clients.items c.in_ok-tasks.tasks c.in_ok-clients.ensures.ids in
    stands_first c.phases_close.ensures.begins _ c.args.plan.now c.of.ensures (record {
      shards = c.args.shards;
      some = c.requires.shards.0;
      cells = c.in_ok-cells.ensures.cells;
      seats = c.in_ok-clients.ensures.seats;
      ids = c.in_ok-clients.ensures.ids ∙ c.in_ok-tasks.ensures.clients;
      keeper = one.1;
      passes = omega (arith, long, c.in_ok-clock.ensures.clock, c.len-clients.ensures, c.count_cells.ensures);
      begun = refl;
      named = liars_named c.args.plan.now c.requires.fits;
    })

pub returns-clause-passes : goal.returns-clause-passes
returns-clause-passes c =
    let long = mapped client_of c.in_ok-tasks.tasks in
    let named = ap length c.in_ok-tasks.ensures.clients in
    omega (arith, long, named, c.in_ok-clock.ensures.clock, c.len-clients.ensures, c.count_cells.ensures)
