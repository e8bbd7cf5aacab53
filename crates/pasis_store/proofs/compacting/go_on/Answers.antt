use Rattle.std.proofs.Common.{rules, ◌≡◌, ℕ, None, Some, ◌∙◌, ap}
use Rattle.store_device.specs.Stores.{seat_at}
use Rattle.store_device.specs.Seating.{with_seat}
use Rattle.pasis_store.proofs.Reseating.{goes_on}
use Rattle.pasis_store.proofs.compacting.go_on.Goals as goal

pub returns-clause-on : goal.returns-clause-on
returns-clause-on c =
    let told = c.take_node.ensures.node in
    let place = c.from.ensures in
    let taken : Some c.in-Some.node ≡ seat_at c.args.store.now c.args.seat = first_of (search rules, cc) in
    goes_on c.args.store.now c.take_node.new.self c.seat_node.new.self c.args.seat c.args.disk c.put_in_place.new.self c.in-Some.node c.go_on-was.new.self
    c.requires.holds taken (c.take_node.ensures.gone ∙ ap (λ (k : ℕ). with_seat c.args.store.now k None) c.from.ensures) (c.seat_node.ensures ∙ ap (λ (k : ℕ). with_seat c.take_node.new.self k (Some c.go_on-was.new.self)) c.from-2.ensures)
    c.put_in_place.ensures.bytes c.in-Ok.ensures.durable c.go_on-was.ensures.state c.go_on-was.ensures.whole c.go_on-was.ensures.disk
