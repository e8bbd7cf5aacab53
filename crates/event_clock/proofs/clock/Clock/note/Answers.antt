use Rattle.std.proofs.Common.{arith, sym, ap, ◌∙◌}
use Rattle.event_clock.specs.Passes.{Holder, ClockId}
use Rattle.event_clock.proofs.Steps.{notes}
use Rattle.event_clock.proofs.clock.Clock.note.Goals as goal

pub split_seat-requires : goal.split_seat-requires
split_seat-requires c =
    let same = ap (λ (p : Holder). p.clock) c.pass.view_is ∙ c.requires.own ∙ sym c.self.view_is in
    (ap (λ (k : ClockId). k.table) same, omega (arith, c.self.invariant.0), notes c.self.inside.table.shared.key c.pass.inside.seat.id c.pass.inside.seat.me.0)
