use Rattle.std.proofs.Common.{◌≡◌, false, refl, ap, inl, inr, Err}
use Rattle.std.proofs.lemmas.Bool.{cases_Bool}
use Rattle.store_device.proofs.Rooms.{room_before, refused}
use Rattle.store_device.proofs.seat.answer.Goals as goal

pub returns-in-Ok-clause-replied : goal.returns-in-Ok-clause-replied
returns-in-Ok-clause-replied g c =
    let D = g.D.Disk in
    let h = c.in-Ok.ensures in
    let whole : c.args.node.now.broken ≡ false = elim (cases_Bool c.args.node.now.broken) [ inl e ↦ absurd (let q = h.broken.1 e in cc) | inr e ↦ e ] in
    λ more few has. (room_before D.seen D.most c.args.node.now c.handle_all.new.self more _ whole h.config h.done.slots h.room has, refl)

pub returns-in-Err-clause-replied : goal.returns-in-Err-clause-replied
returns-in-Err-clause-replied g c =
    let D = g.D.Disk in
    let h = c.in-Err.ensures in
    refused D.seen D.most c.args.node.now c.handle_all.new.self c.args.asks.now c.in-Err.refusal c.silence.result c.silence.ensures.memory
    h.calm h.breaks (λ e. (h.full (ap Err e)).1) (λ e. h.broken.0 (ap Err e))
