use Rattle.std.proofs.Common.{◌≡◌, ◌≤◌, All, List, length, refl, sym, ◌∙◌, ap, subst, arith}
use Rattle.std.specs.List.{AllZip}
use Rattle.std.specs.Vec.{with_items}
use Rattle.std.proofs.lemmas.List.{with_items_is}
use Rattle.locked_nodes.specs.Cells.{CellView}
use Rattle.client_desks.specs.Desks.{DeskView}
use Rattle.phase_threads.specs.Standing.{AreCells, AreInside, IsDeskAt}
use Rattle.phase_threads.specs.declared.duty.Seat.{Seat}
use Rattle.client_duties.specs.declared.work.ClientDuty.{ClientDuty}
use Rattle.client_threads.specs.Met.{HasMetCell, HasMetSeat}
use Rattle.client_threads.specs.Running.{desks_of, plan_of}
use Rattle.client_threads.proofs.Keepers.{keeper_then}
use Rattle.client_threads.proofs.Working.{zip_long}
use Rattle.client_threads.proofs.Rounds.{seats_tick, cells_met, inside_met, seats_met, cells_within, desks_within}
use Rattle.client_threads.proofs.between.meet_all.Goals as goal

pub meet_desks-requires-clause-desks : goal.meet_desks-requires-clause-desks
meet_desks-requires-clause-desks c =
    let run = c.args.run.now in
    subst (All (λ (s : Seat ClientDuty). s.desk.pass.clock ≡ run.clock)) (sym c.as_mut_slice-2.ensures.value) (seats_tick (plan_of run).config run.clock run.clients.items c.requires.desks)

pub returns-clause-open : goal.returns-clause-open
returns-clause-open c =
    let run = c.args.run.now in
    let config = (plan_of run).config in
    let cells = c.meet_cells.new.cells in
    let seats = c.meet_desks.new.seats in
    let zc = subst (λ (l : List CellView). AllZip HasMetCell l cells) c.as_mut_slice.ensures.value c.meet_cells.ensures.cells in
    let zs = subst (λ (l : List (Seat ClientDuty)). AllZip HasMetSeat l seats) c.as_mut_slice-2.ensures.value c.meet_desks.ensures.seats in
    let lc = zip_long HasMetCell run.cells.items cells zc in
    let ls = zip_long HasMetSeat run.clients.items seats zs in
    let bc : (with_items run.cells cells).items ≡ cells = with_items_is run.cells cells (zip_long HasMetCell c.as_mut_slice.result.now cells c.meet_cells.ensures.cells ∙ c.as_mut_slice.ensures.len) in
    let bs : (with_items run.clients seats).items ≡ seats = with_items_is run.clients seats (zip_long HasMetSeat c.as_mut_slice-2.result.now seats c.meet_desks.ensures.seats ∙ c.as_mut_slice-2.ensures.len) in
    let two = keeper_then run.keeper c.meet_cells.new.keeper c.meet_desks.new.keeper c.meet_cells.ensures.keeper c.meet_desks.ensures.keeper in
    let mc = ap length bc in
    let ms = ap length bs in
    record {
      cells = subst (AreCells config run.clock) (sym bc) (cells_met config run.clock run.cells.items cells zc c.requires.cells);
      inside = subst (AreInside config) (sym bc) (inside_met config run.cells.items cells zc c.requires.inside);
      desks = subst (λ (l : List (Seat ClientDuty)). All (IsDeskAt config run.clock) (desks_of l)) (sym bs) (seats_met config run.clock run.clients.items seats zs c.requires.desks);
      keeper = (two.clock ∙ c.requires.keeper.0, two.drawn ∙ c.requires.keeper.1);
      passes = omega (arith, c.requires.passes, lc, ls, mc, ms);
    }

pub returns-clause-met : goal.returns-clause-met
returns-clause-met c =
    let run = c.args.run.now in
    let cells = c.meet_cells.new.cells in
    let seats = c.meet_desks.new.seats in
    let k0 = run.keeper in
    let k1 = c.meet_cells.new.keeper in
    let k2 = c.meet_desks.new.keeper in
    let one = c.meet_cells.ensures.keeper in
    let two = c.meet_desks.ensures.keeper in
    let zc = subst (λ (l : List CellView). AllZip HasMetCell l cells) c.as_mut_slice.ensures.value c.meet_cells.ensures.cells in
    let zs = subst (λ (l : List (Seat ClientDuty)). AllZip HasMetSeat l seats) c.as_mut_slice-2.ensures.value c.meet_desks.ensures.seats in
    let bc : (with_items run.cells cells).items ≡ cells = with_items_is run.cells cells (zip_long HasMetCell c.as_mut_slice.result.now cells c.meet_cells.ensures.cells ∙ c.as_mut_slice.ensures.len) in
    let bs : (with_items run.clients seats).items ≡ seats = with_items_is run.clients seats (zip_long HasMetSeat c.as_mut_slice-2.result.now seats c.meet_desks.ensures.seats ∙ c.as_mut_slice-2.ensures.len) in
    record {
      plan = refl;
      clock = refl;
      begun = refl;
      keeper = keeper_then k0 k1 k2 one two;
      cells = subst (AllZip HasMetCell run.cells.items) (sym bc) zc;
      seats = subst (AllZip HasMetSeat run.clients.items) (sym bs) zs;
      cells_seen = subst (All (λ (x : CellView). (k0.seen ≤ x.pass.seen) × (x.pass.seen ≤ k2.seen))) (sym bc) (cells_within k0.seen k1.seen k2.seen cells two.seen c.meet_cells.ensures.seen);
      desks_seen = subst (λ (l : List (Seat ClientDuty)). All (λ (d : DeskView). (k0.seen ≤ d.pass.seen) × (d.pass.seen ≤ k2.seen)) (desks_of l)) (sym bs) (desks_within k0.seen k1.seen k2.seen k2.seen seats one.seen (omega arith) c.meet_desks.ensures.seen);
    }
