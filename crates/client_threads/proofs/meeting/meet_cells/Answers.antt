use Rattle.std.proofs.Common.{◌≡◌, ◌≤◌, get_or, ap, arith}
use Rattle.std.proofs.lemmas.Option.{slice_get-get_or}
use Rattle.locked_nodes.specs.Cells.{KeptCell}
use Rattle.client_threads.specs.Met.{HasMetCell}
use Rattle.client_threads.proofs.Stepping.{partly_all, partly_old, partly_long}
use Rattle.client_threads.proofs.Stepping.Partly.{Same}
use Rattle.client_threads.proofs.Working.{zip_map}
use Rattle.client_threads.proofs.Keepers.{MeetsCell, same_keeper, keeper_on, meets_cell, cells_on, zip_right, partly_next}
use Rattle.client_threads.proofs.meeting.meet_cells.Goals as goal
use Rattle.lists.proofs.lemmas.Members.{all_at_place}

pub loop-cell-init : goal.loop-cell-init
loop-cell-init c = (same_keeper c.args.keeper.now, Same c.args.cells.now)

pub meet-requires-clause-clock : goal.meet-requires-clause-clock
meet-requires-clause-clock c =
    let low = c.args.keeper.now.seen in
    let cells = c.args.cells.now in
    let i = c.loop-cell.cell-index in
    let x = get_or c.loop-cell.cells i c.cell-item.result in
    let at = slice_get-get_or c.loop-cell.cells i c.cell-item.result (omega (arith, c.loop-cell-test.true, c.loop-cell.auto.cells)) in
    let was = partly_old (MeetsCell low c.loop-cell.keeper.seen) cells c.loop-cell.cells i x c.loop-cell.invariant.1 at in
    all_at_place (λ x. x.charter.pass.clock ≡ c.args.clock.now) cells i x c.requires.cells was

pub loop-cell-preserved : goal.loop-cell-preserved
loop-cell-preserved c =
    let first = c.args.keeper.now in
    let low = first.seen in
    let old = c.args.cells.now in
    let inv = c.loop-cell.invariant in
    let i = c.loop-cell.cell-index in
    let x = get_or c.loop-cell.cells i c.cell-item.result in
    let keeper = c.loop-cell.keeper in
    let next = c.meet.new.caller in
    let y = c.meet.new.self in
    let at = slice_get-get_or c.loop-cell.cells i c.cell-item.result (omega (arith, c.loop-cell-test.true, c.loop-cell.auto.cells)) in
    let goes = keeper_on first keeper x.pass next inv.0 c.meet.ensures.caller in
    let grew : keeper.seen ≤ next.seen = omega (arith, ap (λ p. p.seen) c.meet.ensures.caller) in (
      goes,
      partly_next (MeetsCell low next.seen) old c.loop-cell.cells i x y (cells_on low keeper.seen next.seen old c.loop-cell.cells i grew inv.1) at (meets_cell low keeper next x y inv.0.seen c.meet.ensures.caller c.meet.ensures.cell c.known.ensures),
    )

pub returns-clause-cells : goal.returns-clause-cells
returns-clause-cells c =
    let R = MeetsCell c.args.keeper.now.seen c.loop-cell.keeper.seen in
    let p = c.loop-cell.invariant.1 in
    let long = partly_long R c.args.cells.now c.loop-cell.cells c.loop-cell.cell-index p in
    let z = partly_all R c.args.cells.now c.loop-cell.cells c.loop-cell.cell-index p (omega (arith, long, c.loop-cell-test.false)) in
    zip_map R HasMetCell c.args.cells.now c.loop-cell.cells (λ x y m. m.met) z

pub returns-clause-seen : goal.returns-clause-seen
returns-clause-seen c =
    let low = c.args.keeper.now.seen in
    let high = c.loop-cell.keeper.seen in
    let R = MeetsCell low high in
    let p = c.loop-cell.invariant.1 in
    let long = partly_long R c.args.cells.now c.loop-cell.cells c.loop-cell.cell-index p in
    let z = partly_all R c.args.cells.now c.loop-cell.cells c.loop-cell.cell-index p (omega (arith, long, c.loop-cell-test.false)) in
    zip_right R (λ x. (low ≤ x.pass.seen) × (x.pass.seen ≤ high)) c.args.cells.now c.loop-cell.cells (λ x y m. (m.within.low, m.within.high)) z

pub returns-clause-kept : goal.returns-clause-kept
returns-clause-kept c =
    let R = MeetsCell c.args.keeper.now.seen c.loop-cell.keeper.seen in
    let p = c.loop-cell.invariant.1 in
    let long = partly_long R c.args.cells.now c.loop-cell.cells c.loop-cell.cell-index p in
    let z = partly_all R c.args.cells.now c.loop-cell.cells c.loop-cell.cell-index p (omega (arith, long, c.loop-cell-test.false)) in
    zip_right R KeptCell c.args.cells.now c.loop-cell.cells (λ x y m. m.kept) z
