use Rattle.std.proofs.Common.{◌≡◌, ◌≤◌, ◌+◌, length, take, arith}
use Rattle.std.proofs.lemmas.List.{length-take}
use Rattle.outside_io.proofs.lemmas.Known.{gave_more}
use Rattle.nbd_front.proofs.filling.take_bytes.Goals as goal

pub returns-in_err-extend_from_slice-in-Ok-clause-most : goal.returns-in_err-extend_from_slice-in-Ok-clause-most
returns-in_err-extend_from_slice-in-Ok-clause-most g c =
    let taken = c.loop-room.taken.items in
    let given = take c.in-Ok.count c.read.new.room in
    let room : length c.read.new.room ≡ length (take c.min-wanted.result c.loop-room.room) = c.read.auto.room in
    let fits : length taken + length given ≤ c.args.len = omega (arith, length-take c.in-Ok.count c.read.new.room, c.in-Ok.ensures.bound.0, room, length-take c.min-wanted.result c.loop-room.room, c.min-wanted.ensures, c.loop-room-test.true, c.len.ensures, c.len-in-loop-room.ensures, c.loop-room.taken.ok) in
    λ h. gave_more _ _ _ taken given c.args.len c.loop-room.invariant.0 c.in-Ok.ensures.bytes.0 fits
