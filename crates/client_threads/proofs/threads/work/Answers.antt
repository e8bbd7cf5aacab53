-- Lemmas of `Threading`.
use Rattle.std.proofs.Common.{◌≤◌, Ok, length, refl, subst, rules}
use Rattle.std.specs.Prelude.{All}
use Rattle.locked_nodes.specs.Cells.{KeptCell}
use Rattle.client_threads.specs.declared.state.Run.{Run}
use Rattle.client_threads.proofs.Threading.{may_phase, open_after, phase_done}
use Rattle.client_threads.proofs.threads.work.Goals as goal

pub phase-requires : goal.phase-requires
phase-requires g c =
    let run = c.args.run in
    let few : length run.clients.items ≤ 65535 = search rules in
    c.requires.phase.may run.clock run.cells run.clients (may_phase run c.requires.standing.0 few c.requires.standing.1 c.requires.standing.2)

pub returns-clause-open : goal.returns-clause-open
returns-clause-open g c =
    let run = c.args.run in
    let few : length run.clients.items ≤ 65535 = search rules in
    let may = may_phase run c.requires.standing.0 few c.requires.standing.1 c.requires.standing.2 in
    let told = c.requires.phase.does run.clock run.cells run.clients (Ok (c.in_ok-clock.clock, c.in_ok-clock.left)) may c.in_ok-clock.ensures in
    let new : Run = record { plan = run.plan; clock = c.in_ok-clock.clock; cells = c.in_ok-clock.left.cells; clients = c.in_ok-clock.left.seats; keeper = run.keeper; begun = run.begun } in
    open_after run new (record { plan = refl; clock = told.clock; keeper = refl; begun = refl; cells = told.cells; desks = told.desks }) (subst (All KeptCell) c.as_slice.ensures.value c.know_cells.ensures) c.requires.standing.1.opened

pub returns-clause-done : goal.returns-clause-done
returns-clause-done g c none k standing =
    let run = c.args.run in
    let few : length run.clients.items ≤ 65535 = search rules in
    let may = may_phase run c.requires.standing.0 few c.requires.standing.1 c.requires.standing.2 in
    let told = c.requires.phase.does run.clock run.cells run.clients (Ok (c.in_ok-clock.clock, c.in_ok-clock.left)) may c.in_ok-clock.ensures in
    let new : Run = record { plan = run.plan; clock = c.in_ok-clock.clock; cells = c.in_ok-clock.left.cells; clients = c.in_ok-clock.left.seats; keeper = run.keeper; begun = run.begun } in
    phase_done run new (record { plan = refl; clock = told.clock; keeper = refl; begun = refl; cells = told.cells; desks = told.desks }) (subst (All KeptCell) c.as_slice.ensures.value c.know_cells.ensures)
    (told.duties none) (told.pairs none) k standing

pub returns-clause-clock : goal.returns-clause-clock
returns-clause-clock g c =
    let run = c.args.run in
    let few : length run.clients.items ≤ 65535 = search rules in
    let may = may_phase run c.requires.standing.0 few c.requires.standing.1 c.requires.standing.2 in
    let told = c.requires.phase.does run.clock run.cells run.clients (Ok (c.in_ok-clock.clock, c.in_ok-clock.left)) may c.in_ok-clock.ensures in
    told.clock
