use Rattle.std.proofs.Common.{length, arith, sym, ap, ◌∙◌}
use Rattle.event_clock.specs.Passes.{Holder, Sight, ClockId}
use Rattle.event_clock.proofs.Steps.{takes_in}
use Rattle.event_clock.proofs.clock.Clock.heed.Goals as goal

pub join_seat-requires : goal.join_seat-requires
join_seat-requires c =
    let own = ap (λ (p : Holder). p.clock) c.pass.view_is ∙ c.requires.own ∙ sym c.self.view_is in
    let note = c.into_parts-seat in
    let brought = ap (λ (n : Sight). n.clock) note.ensures.sight ∙ c.requires.note ∙ sym c.self.view_is in
    let seat = c.pass.inside.seat in (
      ap (λ (k : ClockId). k.table) own,
      ap (λ (k : ClockId). k.table) brought,
      note.ensures.note.bare,
      omega (arith, c.self.invariant.0),
      takes_in c.self.inside.table.shared.key seat.id seat.me.0 note.result.0.id note.result.0.me.0 (omega (arith, ap length c.pass.invariant.single)),
    )
