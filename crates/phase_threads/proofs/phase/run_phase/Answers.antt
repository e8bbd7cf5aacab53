-- Lemmas of `Phasing`.
use Rattle.std.proofs.Common.{◌≡◌, ◌+◌, List, length, All, sym, ap, subst, ◌∙◌, rules}
use Rattle.locked_nodes.specs.Cells.{CellView}
use Rattle.locked_nodes.specs.CellShards.{cell_shards_of}
use Rattle.std.specs.Global.{Vec}
use Rattle.std.specs.Prelude.{map, reverse}
use Rattle.receipt_lock.specs.Chits.{Holder as Chit, Deposit}
use Rattle.locked_nodes.specs.declared.charter.Item.{Item}
use Rattle.client_endpoints.specs.Endpoint.{SharedCellsView}
use Rattle.thread_work.specs.Pairwise.{Beside}
use Rattle.phase_threads.specs.Phased.{IsClosed, new_portion}
use Rattle.phase_threads.proofs.Opening.{same_vec}
use Rattle.phase_threads.proofs.lemmas.Phasing.{shared_cells_with, portions_rest, portions_new, posts_can, ends_locks, portions_own, portions_left, chits_all, desks_later, duties_done, cells_worked, pairs_again}
use Rattle.phase_threads.proofs.phase.run_phase.Goals as goal

pub open_states-requires-clause-rest : goal.open_states-requires-clause-rest
open_states-requires-clause-rest g c =
    portions_rest c.in_ok-vaults.vaults.items c.in_ok-vaults.portions.items c.in_ok-vaults.ensures.portions.1

pub open_states-requires-clause-new : goal.open_states-requires-clause-new
open_states-requires-clause-new g c =
    portions_new c.in_ok-vaults.vaults.items c.in_ok-vaults.portions.items c.in_ok-vaults.ensures.portions.1

pub work_all-states-requires-after_bounds : goal.work_all-states-requires-after_bounds
work_all-states-requires-after_bounds g c κs within =
    let cells = c.args.cells.items in
    let vaults = c.in_ok-vaults.vaults in
    let posted = c.in_ok-states.ensures (new_portion vaults.items) c.in_ok-vaults.ensures.portions.1 in
    posts_can _ cells vaults c.args.seats.items c.in_ok-states.states.items c.in_ok-vaults.ensures.vaults posted g.T.Duty.ready c.requires.cluster.0 c.args.clock c.new-shared_cells.result (c.new-shared_cells.ensures ∙ ap (shared_cells_with c.args.clock vaults) (c.in_ok-cell_shards.ensures ∙ ap (λ (l : List CellView). cell_shards_of l) c.as_slice.ensures.value))
    c.requires.cluster.1 c.requires.cluster.2 c.requires.ready

pub part-requires : goal.part-requires
part-requires g c =
    let vaults = c.in_ok-vaults.vaults in
    let posted = c.in_ok-states.ensures (new_portion vaults.items) c.in_ok-vaults.ensures.portions.1 in
    ends_locks _ c.args.cells.items vaults c.args.seats.items c.in_ok-states.states.items c.in_ok-vaults.ensures.vaults posted g.T.Duty.done c.work_all-states.result.items c.work_all-states.ensures

pub into_vaults-vaults-requires : goal.into_vaults-vaults-requires
into_vaults-vaults-requires g c = (c.in_ok-vaults.vaults, c.into_parts-clock.ensures.cells ∙ ap (λ (f : SharedCellsView). f.cells) c.new-shared_cells.ensures)

pub close_row-requires-clause-own : goal.close_row-requires-clause-own
close_row-requires-clause-own g c =
    let vaults = c.in_ok-vaults.vaults in
    let posted = c.in_ok-states.ensures (new_portion vaults.items) c.in_ok-vaults.ensures.portions.1 in
    let lasts = c.in_ok-seats.field-0.seats.items in
    let portions = c.in_ok-seats.field-0.portions.items in
    let own = portions_own _ c.args.cells.items vaults c.args.seats.items c.in_ok-states.states.items c.in_ok-vaults.ensures.vaults posted g.T.Duty.done c.work_all-states.result.items c.work_all-states.ensures lasts c.in_ok-seats.ensures.seats portions c.in_ok-seats.ensures.portions in
    subst (λ (l : Vec (Deposit Item)). All (λ (h : List (Chit Item)). map (λ (x : Chit Item). x.vault) (reverse h) ≡ map (λ (v : Deposit Item). v.id) l.items) portions) (sym (same_vec c.into_parts-clock.result.1 c.into_vaults-vaults.result vaults c.into_vaults-vaults.ensures (c.into_parts-clock.ensures.cells ∙ ap (λ (f : SharedCellsView). f.cells) c.new-shared_cells.ensures))) own

pub close_row-requires-clause-rest : goal.close_row-requires-clause-rest
close_row-requires-clause-rest g c =
    let vaults = c.in_ok-vaults.vaults in
    let posted = c.in_ok-states.ensures (new_portion vaults.items) c.in_ok-vaults.ensures.portions.1 in
    portions_left _ c.args.cells.items vaults c.args.seats.items c.in_ok-states.states.items c.in_ok-vaults.ensures.vaults posted g.T.Duty.done c.work_all-states.result.items c.work_all-states.ensures c.in_ok-seats.field-0.seats.items c.in_ok-seats.ensures.seats c.in_ok-seats.field-0.portions.items c.in_ok-seats.ensures.portions c.in_ok-seats.ensures.rest

pub close_row-requires-clause-all : goal.close_row-requires-clause-all
close_row-requires-clause-all g c =
    let seats = c.args.seats.items in
    let vaults = c.in_ok-vaults.vaults in
    let posted = c.in_ok-states.ensures (new_portion vaults.items) c.in_ok-vaults.ensures.portions.1 in
    let portions = c.in_ok-seats.field-0.portions.items in
    let enough : length c.in_ok-vaults.portions.items ≡ length seats + 1 = search rules in
    let all = chits_all _ c.args.cells.items vaults seats c.in_ok-states.states.items c.in_ok-vaults.ensures.vaults posted g.T.Duty.done c.work_all-states.result.items c.work_all-states.ensures c.in_ok-seats.field-0.seats.items c.in_ok-seats.ensures.seats portions c.in_ok-seats.ensures.portions (sym c.in_ok-vaults.ensures.portions.0 ∙ enough) in
    subst (λ (l : Vec (Deposit Item)). All (λ (v : Deposit Item). v.chits ≡ length portions) l.items) (sym (same_vec c.into_parts-clock.result.1 c.into_vaults-vaults.result vaults c.into_vaults-vaults.ensures (c.into_parts-clock.ensures.cells ∙ ap (λ (f : SharedCellsView). f.cells) c.new-shared_cells.ensures))) all

pub returns : goal.returns
returns g c =
    let cells = c.args.cells.items in
    let seats = c.args.seats.items in
    let vaults = c.in_ok-vaults.vaults in
    let opened = c.in_ok-vaults.ensures.vaults in
    let states = c.in_ok-states.states.items in
    let posted = c.in_ok-states.ensures (new_portion vaults.items) c.in_ok-vaults.ensures.portions.1 in
    let done = g.T.Duty.done in
    let ends = c.work_all-states.result.items in
    let went = c.work_all-states.ensures in
    let lasts = c.in_ok-seats.field-0.seats.items in
    let portions = c.in_ok-seats.field-0.portions.items in
    let left = c.in_ok-seats.ensures.seats in
    let given = c.in_ok-seats.ensures.portions in
    let now = c.in_ok-cells.cells.items in
    let same = same_vec c.into_parts-clock.result.1 c.into_vaults-vaults.result vaults c.into_vaults-vaults.ensures (c.into_parts-clock.ensures.cells ∙ ap (λ (f : SharedCellsView). f.cells) c.new-shared_cells.ensures) in
    let closed = subst (λ (l : Vec (Deposit Item)). Beside (IsClosed portions) l.items now) same c.in_ok-cells.ensures in
    record {
      clock = c.into_parts-clock.ensures.clock ∙ ap (λ (f : SharedCellsView). f.clock) c.new-shared_cells.ensures;
      cells = cells_worked _ cells vaults seats states opened posted done ends went lasts left portions given now closed;
      desks = desks_later _ cells vaults seats states opened posted done ends went lasts left;
      duties = λ none. duties_done _ cells vaults seats states opened posted done ends went lasts left (c.in_ok-seats.ensures.refused none);
      pairs = λ none. pairs_again _ cells vaults seats states opened posted done ends went lasts left portions given now closed (c.in_ok-seats.ensures.refused none) c.in_ok-seats.ensures.agree c.requires.pairs;
    }
