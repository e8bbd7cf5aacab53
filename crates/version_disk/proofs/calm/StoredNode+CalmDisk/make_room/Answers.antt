use Rattle.std.proofs.Common.{◌≤◌, ◌+◌, length, ◌∙◌, ap, arith}
use Rattle.std.proofs.lemmas.Result.{on_ok_weaker}
use Rattle.disk_model.specs.Memory.{Calm}
use Rattle.slot_disk.specs.Slots.{body_len}
use Rattle.slot_disk.proofs.lemmas.Closing.{fits_room}
use Rattle.version_disk.proofs.calm.«StoredNode+CalmDisk».make_room.Goals as goal

pub returns-clause-place : goal.returns-clause-place
returns-clause-place c =
    on_ok_weaker c.grow.result (λ made.
    let b = c.grow.new.self.bytes in
    let body = body_len c.self.inside.node.config in
    let is_room = ap (λ (d : Calm). d.room) made in
    let is_bytes = ap (λ (d : Calm). length d.bytes) made in
    let size = c.body_size.ensures.size ∙ ap body_len c.config.ensures in
    let enough : length b + (body + 1 + 1) ≤ c.grow.new.self.room = omega (arith, is_room, is_bytes, size, ap length c.bytes-bytes.ensures) in
    fits_room body b c.grow.new.self.room enough) c.grow.ensures.ok
