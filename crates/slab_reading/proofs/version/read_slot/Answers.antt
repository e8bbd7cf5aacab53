use Rattle.std.proofs.Common.{◌≡◌, ℕ, List, length, drop, sym, ◌∙◌, ap, arith}
use Rattle.std.proofs.lemmas.List.{take_at}
use Rattle.slab_layout.specs.Shapes.{part, data_at, data_len}
use Rattle.slab_layout.specs.Data.{version_in}
use Rattle.slab_reading.proofs.Pieces.{data_were_read}
use Rattle.slab_reading.proofs.version.read_slot.Goals as goal

pub returns-in-Ok-clause-version : goal.returns-in-Ok-clause-version
returns-in-Ok-clause-version g c clean =
    let s = c.args.shape in
    let slot : ℕ = c.args.kept.now.slot in
    let base : List ℕ = g.F.SlabFile.seen c.args.file.now in
    let room : List ℕ = c.read_data.new.room in
    let holds = c.in_ok-read_data.ensures.read c.if-not-branch.false clean in
    let long : length room ≡ data_len s = omega (arith, c.read_data.auto.room, c.deref_mut.ensures.value, c.in_ok-room.ensures.len, c.data_len.ensures) in
    let was : part base (data_at s slot) (data_len s) ≡ room = data_were_read s base slot c.data_at-at.result room (c.data_at-at.ensures.place ∙ ap (λ (k : ℕ). data_at s k) c.from.ensures) long holds in
    let vec = c.in_ok-room.room in
    let whole : length room ≡ vec.len = omega (arith, c.read_data.auto.room, c.deref_mut.ensures.value, c.deref_mut.ensures.len, vec.ok.0) in
    let given : c.deref.result.now ≡ room = c.deref.ensures.value ∙ take_at room (drop (length room) vec.items) vec.len whole in
    c.in-Ok.ensures ∙ (λ i. version_in s.nodes (c.stamp.ensures i) ((given ∙ sym was) i))
