use Rattle.std.proofs.Common.{◌≡◌, ℕ, List, length, Some, sym, ap, subst, ◌∙◌}
use Rattle.std.specs.Slots.{slots_items}
use mathlib.Core.Option.{some-injective}
use Rattle.receipt_lock.specs.Tickets.{Begins, AllStand, times_placed, once_from}
use Rattle.receipt_lock.specs.Chits.{Deposit, all_mine}
use Rattle.receipt_lock.proofs.Steps.{closes}
use Rattle.receipt_lock.proofs.Seats.{story_of}
use Rattle.receipt_lock.proofs.vault.Vault.close.Given as given
use Rattle.receipt_lock.proofs.vault.Vault.close.Goals as goal

pub unreachable-requires : goal.unreachable-requires
unreachable-requires g c =
    let key = c.self.inside.table.shared.key in
    let seat = c.join_all-keeper.result in
    let closed = c.close_with-closed.result in
    let all = c.join_all-keeper.ensures.all ∙ c.requires.all ∙ ap (λ (d : Deposit g.row.T-Entry.Denot). d.chits) (sym c.self.view_is) in
    let story = closes g.T.Kept.list key.chits (g.T.Kept.list key.value.value) seat.id seat.me.0 (slots_items closed.words) (slots_items closed.slots) c.join_all-keeper.ensures.idle all c.close_with-closed.ensures.values.2 in
    c.in_default.not-Some story.0 (some-injective c.take-value.result (Some story.0) (sym c.take-value.ensures.value ∙ story.1))

-- the whole story of the value that comes out
story : (g : given.Over) (c : goal.In-Some g) → Begins c.args.self.id.begun (g.T.Kept.list c.in-Some.value) × AllStand (g.T.Kept.list c.in-Some.value) (all_mine c.args.chits) × ((p : ℕ) → times_placed p (all_mine c.args.chits) ≡ once_from (length c.args.self.id.begun) (length (g.T.Kept.list c.in-Some.value)) p)
story g c =
    let E = g.row.T-Entry.Denot in
    let key = c.self.inside.table.shared.key in
    let seat = c.join_all-keeper.result in
    let closed = c.close_with-closed.result in
    let value = c.in-Some.value in
    let all = c.join_all-keeper.ensures.all ∙ c.requires.all ∙ ap (λ (d : Deposit E). d.chits) (sym c.self.view_is) in
    let is = story_of g.T.Kept.list key.chits (g.T.Kept.list key.value.value) seat.id seat.me.0 (slots_items closed.words) (slots_items closed.slots) value c.join_all-keeper.ensures.idle all c.close_with-closed.ensures.values.2 c.in-Some.ensures.value in
    let first = ap (λ (d : Deposit E). d.id.begun) c.self.view_is in
    let P : List E → List (ℕ × E) → Type 0 = λ begun mine. Begins begun (g.T.Kept.list value) × AllStand (g.T.Kept.list value) mine × ((p : ℕ) → times_placed p mine ≡ once_from (length begun) (length (g.T.Kept.list value)) p) in
    subst (λ begun. P begun (all_mine c.args.chits)) first (subst (P (g.T.Kept.list key.value.value)) c.join_all-keeper.ensures.mine is)

pub returns : goal.returns
returns g c = let is = story g c in record { begins = is.0; stand = is.1; once = is.2 }
