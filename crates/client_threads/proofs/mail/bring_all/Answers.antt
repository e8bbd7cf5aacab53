use Rattle.std.proofs.Common.{◌≡◌, ◌+◌, get_or, arith, set}
use Rattle.std.proofs.lemmas.Option.{slice_get-get_or}
use Rattle.locked_nodes.specs.Cells.{KeptCell, HasNoLateMail, HasMoreAside}
use Rattle.locked_nodes.proofs.lemmas.Aside.{aside_none}
use Rattle.client_threads.proofs.Stepping.{partly_all, partly_stays, partly_old, partly_long}
use Rattle.client_threads.proofs.Stepping.Partly.{Same}
use Rattle.client_threads.proofs.Keepers.{partly_map, partly_next, zip_right, set_all}
use Rattle.client_threads.proofs.Mailing.{HasAllAside}
use Rattle.client_threads.proofs.mail.bring_all.Goals as goal
use Rattle.lists.proofs.lemmas.Members.{all_at_place}

pub loop-cell-init : goal.loop-cell-init
loop-cell-init g c = (Same c.args.cells.now, c.know_cells.ensures)

pub bring-requires : goal.bring-requires
bring-requires g c =
    let i = c.loop-cell.cell-index in
    let x = get_or c.loop-cell.cells i c.cell-item.result in
    let at = slice_get-get_or c.loop-cell.cells i c.cell-item.result (omega (arith, c.loop-cell-test.true, c.loop-cell.auto.cells)) in
    all_at_place (λ x. x.charter.pass.clock ≡ c.args.clock.now) c.args.cells.now i x c.requires (partly_old HasAllAside c.args.cells.now c.loop-cell.cells i x c.loop-cell.invariant.0 at)

pub returns-in_err-bring-clause-cells : goal.returns-in_err-bring-clause-cells
returns-in_err-bring-clause-cells g c =
    let i = c.loop-cell.cell-index in
    let old = c.args.cells.now in
    let cells = c.loop-cell.cells in
    let x = get_or cells i c.cell-item.result in
    let y = c.bring.new.cell in
    let at = slice_get-get_or cells i c.cell-item.result (omega (arith, c.loop-cell-test.true, c.loop-cell.auto.cells)) in
    let p = partly_map HasAllAside HasMoreAside old cells i (λ x y b. b.more) c.loop-cell.invariant.0 in
    partly_stays HasMoreAside aside_none old (set cells i y) (i + 1) (partly_next HasMoreAside old cells i x y p at c.bring.ensures.cell)

pub loop-cell-preserved : goal.loop-cell-preserved
loop-cell-preserved g c =
    let i = c.loop-cell.cell-index in
    let old = c.args.cells.now in
    let cells = c.loop-cell.cells in
    let x = get_or cells i c.cell-item.result in
    let y = c.bring.new.cell in
    let at = slice_get-get_or cells i c.cell-item.result (omega (arith, c.loop-cell-test.true, c.loop-cell.auto.cells)) in
    let inv = c.loop-cell.invariant in (
      partly_next HasAllAside old cells i x y inv.0 at (record { more = c.bring.ensures.cell; none = c.in_ok-bring.ensures.none }),
      set_all KeptCell cells i y inv.1 c.bring.ensures.known,
    )

pub returns-clause-cells : goal.returns-clause-cells
returns-clause-cells g c =
    let i = c.loop-cell.cell-index in
    let p = partly_map HasAllAside HasMoreAside c.args.cells.now c.loop-cell.cells i (λ x y b. b.more) c.loop-cell.invariant.0 in
    partly_stays HasMoreAside aside_none c.args.cells.now c.loop-cell.cells i p

pub returns-clause-none : goal.returns-clause-none
returns-clause-none g c =
    let i = c.loop-cell.cell-index in
    let p = c.loop-cell.invariant.0 in
    let long = partly_long HasAllAside c.args.cells.now c.loop-cell.cells i p in
    zip_right HasAllAside HasNoLateMail c.args.cells.now c.loop-cell.cells (λ x y b. b.none) (partly_all HasAllAside c.args.cells.now c.loop-cell.cells i p (omega (arith, long, c.loop-cell-test.false)))
