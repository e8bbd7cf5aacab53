-- Lemmas of `Locking` and `Staying`.
use Rattle.node_workers.specs.ThreadStates.{cells_at, seats_at}
use Rattle.node_workers.proofs.Locking.{may_as}
use Rattle.node_workers.proofs.Staying.{phased_as}
use Rattle.node_workers.proofs.phase.run_by_locks.Goals as goal

pub run_phase-requires-after_bounds : goal.run_phase-requires-after_bounds
run_phase-requires-after_bounds g c κs within =
    let parted = c.in_ok-cells in
    may_as g.T.Duty.ready c.args.clock (cells_at c.args.states.items) (seats_at c.args.states.items) parted.field-0.cells.items parted.field-0.seats.items parted.ensures.cells parted.ensures.seats c.requires.may

pub returns : goal.returns
returns g c =
    let parted = c.in_ok-cells in
    phased_as g.T.Duty.done c.args.clock (cells_at c.args.states.items) (seats_at c.args.states.items) parted.field-0.cells.items parted.field-0.seats.items parted.ensures.cells parted.ensures.seats c.run_phase.result c.run_phase.ensures
