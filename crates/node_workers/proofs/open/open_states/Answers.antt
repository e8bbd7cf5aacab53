-- Lemmas of `Phasing`.
use Rattle.std.proofs.Common.{◌≡◌, List, length, ap, ◌∙◌, rules}
use Rattle.locked_nodes.specs.Cells.{CellView}
use Rattle.locked_nodes.specs.CellShards.{cell_shards_of}
use Rattle.client_endpoints.specs.Endpoint.{SharedCellsView}
use Rattle.phase_threads.specs.declared.duty.Seat.{Seat}
use Rattle.node_workers.specs.Opened.{ids_of}
use Rattle.node_workers.proofs.Phasing.{open_all, mail_cells}
use Rattle.node_workers.proofs.open.open_states.Goals as goal

pub returns : goal.returns
returns g c =
    let of = c.args.clock in
    let cells = c.args.cells.items in
    let seats = c.args.seats.items in
    let boxes = c.in_ok-boxes.boxes in
    let rows = c.in_ok-boxes.answer_putters.items in
    let shared_cells = c.new-shared_cells.result in
    let all : length rows ≡ length cells = search rules in
    let ids : c.in_ok-clients.clients ≡ ids_of seats = c.in_ok-clients.ensures ∙ ap (λ (l : List (Seat g.row.T.Denot)). ids_of l) c.as_slice-2.ensures.value in
    let made : shared_cells ≡ mail_cells of (cell_shards_of cells) = c.new-shared_cells.ensures ∙ ap (mail_cells of) (c.in_ok-cell_shards.ensures ∙ ap (λ (l : List CellView). cell_shards_of l) c.as_slice.ensures.value) in
    let ticks = c.clock.ensures ∙ ap (λ (f : SharedCellsView). f.clock) made in
    record {
      config = c.requires.cluster.0;
      boxes = boxes;
      rows = rows;
      portions = c.in_ok-states.putters.items;
      opened = open_all all c.as_slice-3.ensures.value ids ticks c.in_ok-states-2.ensures.nodes c.in_ok-boxes.ensures.boxes c.in_ok-boxes.ensures.putters c.in_ok-states.ensures.nodes c.in_ok-states.ensures.putters c.in_ok-states-2.ensures.clients made c.requires.cluster.1 c.requires.cluster.2;
    }
