-- Lemmas of `Working`.
use Rattle.std.proofs.Common.{◌≡◌, List, refl, sym, subst, ◌∙◌}
use Rattle.std.specs.Prelude.{All}
use Rattle.std.specs.List.{AllZip}
use Rattle.std.specs.Vec.{with_items}
use Rattle.std.proofs.lemmas.List.{with_items_is}
use Rattle.locked_nodes.specs.Cells.{CellView, KeptCell, HasNoLateMail, HasMoreAside}
use Rattle.client_threads.specs.Running.{plan_of}
use Rattle.client_threads.specs.declared.state.Run.{Run}
use Rattle.client_threads.proofs.Working.{IsMailed, open_mailed, is_worked, zip_long}
use Rattle.client_threads.proofs.Rounds.{cells_tick}
use Rattle.client_threads.proofs.run.work_off.Goals as goal

pub bring_all-brought-requires : goal.bring_all-brought-requires
bring_all-brought-requires g c =
    let run = c.in_ok-run.run' in
    subst (All (λ (x : CellView). x.charter.pass.clock ≡ run.clock)) (sym c.as_mut_slice.ensures.value) (cells_tick (plan_of run).config run.clock run.cells.items c.in_ok-run.ensures.«open».cells)

pub stop-requires-in-Err-clause-opened : goal.stop-requires-in-Err-clause-opened
stop-requires-in-Err-clause-opened g c =
    let mid = c.in_ok-run.run' in
    let cells = c.bring_all-brought.new.cells in
    let new : Run = record { plan = mid.plan; clock = mid.clock; cells = with_items mid.cells cells; clients = mid.clients; keeper = mid.keeper; begun = mid.begun } in
    let zip = subst (λ (l : List CellView). AllZip HasMoreAside l cells) c.as_mut_slice.ensures.value c.bring_all-brought.ensures.cells in
    let is : (with_items mid.cells cells).items ≡ cells = with_items_is mid.cells cells (zip_long HasMoreAside c.as_mut_slice.result.now cells c.bring_all-brought.ensures.cells ∙ c.as_mut_slice.ensures.len) in
    let mailed : IsMailed mid new = record { plan = refl; clock = refl; clients = refl; keeper = refl; begun = refl; cells = subst (AllZip HasMoreAside mid.cells.items) (sym is) zip } in
    open_mailed mid new mailed c.in_ok-run.ensures.«open»

pub returns-in-Ok-clause-plan : goal.returns-in-Ok-clause-plan
returns-in-Ok-clause-plan g c = (c.in_ok-run.ensures.done c.in_default.is c.requires.between.0 c.requires.between.1.standing).same.plan

pub returns-in-Ok-clause-worked : goal.returns-in-Ok-clause-worked
returns-in-Ok-clause-worked g c k between =
    let mid = c.in_ok-run.run' in
    let cells = c.bring_all-brought.new.cells in
    let new : Run = record { plan = mid.plan; clock = mid.clock; cells = with_items mid.cells cells; clients = mid.clients; keeper = mid.keeper; begun = mid.begun } in
    let zip = subst (λ (l : List CellView). AllZip HasMoreAside l cells) c.as_mut_slice.ensures.value c.bring_all-brought.ensures.cells in
    let is : (with_items mid.cells cells).items ≡ cells = with_items_is mid.cells cells (zip_long HasMoreAside c.as_mut_slice.result.now cells c.bring_all-brought.ensures.cells ∙ c.as_mut_slice.ensures.len) in
    let mailed : IsMailed mid new = record { plan = refl; clock = refl; clients = refl; keeper = refl; begun = refl; cells = subst (AllZip HasMoreAside mid.cells.items) (sym is) zip } in
    is_worked c.phases_work.ensures.work c.phases_close.ensures.goes_on c.phases_work.ensures.late k c.args.run mid new between (c.in_ok-run.ensures.done c.in_default.is k between.standing) mailed
    (subst (All KeptCell) (sym is) c.bring_all-brought.ensures.known) (subst (All HasNoLateMail) (sym is) c.in-Ok.ensures.none)
