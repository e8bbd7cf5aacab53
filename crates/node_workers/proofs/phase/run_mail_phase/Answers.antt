-- Lemmas of `Phasing`, `Staying` and `Ending`.
use denote.Param.Send.{sendable}
use Rattle.std.proofs.Common.{ap, ◌∙◌}
use Rattle.client_endpoints.specs.Endpoint.{SharedCellsView}
use Rattle.client_endpoints.proofs.lemmas.Sending.{shared_cells_sync}
use Rattle.node_workers.specs.ThreadStates.{nodes_in, clients_in}
use Rattle.node_workers.proofs.Sending.{state_send}
use Rattle.node_workers.proofs.Working.{can_all}
use Rattle.node_workers.proofs.Phasing.{can_serve, is_ready}
use Rattle.node_workers.proofs.Ending.{may_close, has_phased}
use Rattle.node_workers.proofs.Staying.{ways_back, may_back, phased_back}
use Rattle.node_workers.proofs.phase.run_mail_phase.Goals as goal

pub each_at_once-requires-send-P : goal.each_at_once-requires-send-P
each_at_once-requires-send-P g c κs within = let s = c.type_bounds.send-T in search (sendable, state_send) depth 40

pub each_at_once-requires-sync-C : goal.each_at_once-requires-sync-C
each_at_once-requires-sync-C g c κs within = search (sendable, shared_cells_sync) depth 40

pub each_at_once-requires-clause-can : goal.each_at_once-requires-clause-can
each_at_once-requires-clause-can g c κs within =
    let of = c.args.clock in
    let cells = c.args.cells.items in
    let seats = c.args.seats.items in
    let shared_cells = c.in_ok-shared_cells.shared_cells in
    let states = c.in_ok-shared_cells.states.items in
    let h = c.in_ok-shared_cells.ensures in
    can_all g.T.Duty.ready shared_cells states (can_serve h.config of cells seats h.boxes h.rows h.portions (nodes_in states) (clients_in states) shared_cells h.opened) (is_ready h.config of cells seats h.boxes h.rows h.portions (nodes_in states) (clients_in states) shared_cells h.opened g.T.Duty.ready c.requires.ready)

pub close-requires : goal.close-requires
close-requires g c =
    let shared_cells = c.in_ok-shared_cells.shared_cells in
    let states = c.in_ok-shared_cells.states.items in
    let last = c.in-Whole.states.items in
    let whole = c.in_ok-started.ensures.whole c.in-Whole.states c.in-Whole.is in
    may_close g.T.Duty.done c.args.clock c.args.cells.items c.args.seats.items shared_cells states c.in_ok-shared_cells.ensures last whole

pub returns-in-Whole : goal.returns-in-Whole
returns-in-Whole g c =
    let shared_cells = c.in_ok-shared_cells.shared_cells in
    let states = c.in_ok-shared_cells.states.items in
    let last = c.in-Whole.states.items in
    let whole = c.in_ok-started.ensures.whole c.in-Whole.states c.in-Whole.is in
    has_phased g.T.Duty.done c.args.clock c.args.cells.items c.args.seats.items shared_cells states c.in_ok-shared_cells.ensures last whole
    c.into_parts-clock.result.0 c.in_ok-close-in-Whole.field-0 c.into_parts-clock.ensures.clock c.in_ok-close-in-Whole.ensures c.requires.pairs

pub run_by_locks-requires-clause-ways : goal.run_by_locks-requires-clause-ways
run_by_locks-requires-clause-ways g c κs within =
    ways_back c.args.clock c.args.cells.items c.args.seats.items c.in_ok-shared_cells.shared_cells c.in_ok-shared_cells.states.items c.in_ok-shared_cells.ensures c.in-Nobody.states.items (c.in_ok-started.ensures.nobody c.in-Nobody.states c.in-Nobody.is)

pub run_by_locks-requires-clause-may : goal.run_by_locks-requires-clause-may
run_by_locks-requires-clause-may g c κs within =
    let clock = c.into_parts-clock.result.0 in
    let h = c.in_ok-shared_cells.ensures in
    may_back c.args.clock c.args.cells.items c.args.seats.items c.in_ok-shared_cells.shared_cells c.in_ok-shared_cells.states.items h c.in-Nobody.states.items (c.in_ok-started.ensures.nobody c.in-Nobody.states c.in-Nobody.is)
    g.T.Duty.ready g.T.Duty.done clock (c.into_parts-clock.ensures.clock ∙ ap (λ (f : SharedCellsView). f.clock) h.opened.is) c.requires

pub returns : goal.returns
returns g c =
    let clock = c.into_parts-clock.result.0 in
    let h = c.in_ok-shared_cells.ensures in
    phased_back c.args.clock c.args.cells.items c.args.seats.items c.in_ok-shared_cells.shared_cells c.in_ok-shared_cells.states.items h c.in-Nobody.states.items (c.in_ok-started.ensures.nobody c.in-Nobody.states c.in-Nobody.is)
    g.T.Duty.ready g.T.Duty.done clock (c.into_parts-clock.ensures.clock ∙ ap (λ (f : SharedCellsView). f.clock) h.opened.is) c.run_by_locks.result c.run_by_locks.ensures
