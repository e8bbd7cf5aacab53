-- One pass meets all others of a run.
use Rattle.std.proofs.Common.{◌≡◌, ℕ, ◌≤◌, List, [], ◌∷◌, ◌∙◌, arith}
use Rattle.std.specs.List.{AllZip, All}
use Rattle.std.proofs.lemmas.List.Elements.{All-nil, All-cons, All-head, All-tail}
use Rattle.quorum_rules.specs.Limits.{Numbers}
use Rattle.event_clock.specs.Passes.{ClockId}
use Rattle.locked_nodes.specs.Cells.{CellView}
use Rattle.client_desks.specs.Desks.{DeskView}
use Rattle.phase_threads.specs.Standing.{AreCells, AreInside, IsDeskAt}
use Rattle.phase_threads.specs.declared.duty.Seat.{Seat}
use Rattle.client_duties.specs.declared.work.ClientDuty.{ClientDuty}
use Rattle.client_threads.specs.Met.{HasMetCell, HasMetSeat}
use Rattle.client_threads.specs.Running.{desks_of}
use Rattle.client_threads.proofs.Working.{zip_map, IsFixedAs, fixed_same, cells_fixed, inside_fixed}

pub cells_tick : (config : Numbers) (clock : ClockId) (xs : List CellView) → AreCells config clock xs → All (λ c. c.charter.pass.clock ≡ clock) xs
cells_tick config clock xs h = λ k d lt. (h.each k d lt).ticks

pub seats_tick : (config : Numbers) (clock : ClockId) (ss : List (Seat ClientDuty)) → All (IsDeskAt config clock) (desks_of ss) → All (λ s. s.desk.pass.clock ≡ clock) ss
seats_tick config clock [] h = All-nil (λ (s : Seat ClientDuty). s.desk.pass.clock ≡ clock)
seats_tick config clock (s ∷ ss) h =
    All-cons (λ (s : Seat ClientDuty). s.desk.pass.clock ≡ clock) s ss (All-head (IsDeskAt config clock) s.desk (desks_of ss) h).ticks (seats_tick config clock ss (All-tail (IsDeskAt config clock) s.desk (desks_of ss) h))

pub cells_met : (config : Numbers) (clock : ClockId) (xs ys : List CellView) → AllZip HasMetCell xs ys → AreCells config clock xs → AreCells config clock ys
cells_met config clock xs ys z h = cells_fixed config clock xs ys (zip_map HasMetCell IsFixedAs xs ys (λ x y m. fixed_same x y m.charter) z) h

pub inside_met : (config : Numbers) (xs ys : List CellView) → AllZip HasMetCell xs ys → AreInside config xs → AreInside config ys
inside_met config xs ys z h = inside_fixed config xs ys (zip_map HasMetCell IsFixedAs xs ys (λ x y m. fixed_same x y m.charter) z) h

pub seats_met : (config : Numbers) (clock : ClockId) (ss ts : List (Seat ClientDuty)) → AllZip HasMetSeat ss ts → All (IsDeskAt config clock) (desks_of ss) → All (IsDeskAt config clock) (desks_of ts)
seats_met config clock [] [] z h = All-nil (IsDeskAt config clock)
seats_met config clock [] (t ∷ ts) z h = absurd z
seats_met config clock (s ∷ ss) [] z h = absurd z
seats_met config clock (s ∷ ss) (t ∷ ts) z h =
    let was = All-head (IsDeskAt config clock) s.desk (desks_of ss) h in
    All-cons (IsDeskAt config clock) t.desk (desks_of ts) (record { cluster = z.0.desk.config ∙ was.cluster; ticks = z.0.desk.pass.clock ∙ was.ticks }) (seats_met config clock ss ts z.1 (All-tail (IsDeskAt config clock) s.desk (desks_of ss) h))

pub cells_within : (low high next : ℕ) (xs : List CellView) → high ≤ next → All (λ c. (low ≤ c.pass.seen) × (c.pass.seen ≤ high)) xs → All (λ c. (low ≤ c.pass.seen) × (c.pass.seen ≤ next)) xs
cells_within low high next xs le h = λ k d lt. (let w = h k d lt in (w.0, omega (arith, w.1, le)))

pub desks_within : (first low high next : ℕ) (ss : List (Seat ClientDuty)) → first ≤ low → high ≤ next → All (λ s. (low ≤ s.desk.pass.seen) × (s.desk.pass.seen ≤ high)) ss
    → All (λ d. (first ≤ d.pass.seen) × (d.pass.seen ≤ next)) (desks_of ss)
desks_within first low high next [] le more h = All-nil (λ (d : DeskView). (first ≤ d.pass.seen) × (d.pass.seen ≤ next))
desks_within first low high next (s ∷ ss) le more h =
    let w = All-head (λ (s : Seat ClientDuty). (low ≤ s.desk.pass.seen) × (s.desk.pass.seen ≤ high)) s ss h in
    All-cons (λ (d : DeskView). (first ≤ d.pass.seen) × (d.pass.seen ≤ next)) s.desk (desks_of ss) (omega (arith, w.0, le), omega (arith, w.1, more))
    (desks_within first low high next ss le more (All-tail (λ (s : Seat ClientDuty). (low ≤ s.desk.pass.seen) × (s.desk.pass.seen ≤ high)) s ss h))
