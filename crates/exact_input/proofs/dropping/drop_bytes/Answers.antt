use Rattle.std.proofs.Common.{◌≡◌, ◌≤◌, ◌+◌, ◌++◌, ◌∙◌, length, take, arith, length-append}
use Rattle.std.proofs.lemmas.List.{length-take}
use Rattle.outside_io.proofs.lemmas.Known.{Consumes-then}
use Rattle.exact_input.proofs.dropping.drop_bytes.Goals as goal

pub loop-dropped-preserved : goal.loop-dropped-preserved
loop-dropped-preserved g c =
    let inv = c.loop-dropped.invariant in
    let count = c.in_ok-count.count in
    let given = take count c.read.new.room in
    let room : length c.read.new.room ≡ length (take c.min-wanted.result c.loop-dropped.room) = c.read.auto.room in
    let fits : c.loop-dropped.dropped + count ≤ c.args.len = omega (arith, c.in_ok-count.ensures.bound.0, room, length-take c.min-wanted.result c.loop-dropped.room, c.min-wanted.ensures, c.loop-dropped-test.true) in
    let size : length given ≡ count = omega (arith, length-take count c.read.new.room, c.in_ok-count.ensures.bound.0) in
    ((inv.0.0 ++ given, Consumes-then _ _ _ inv.0.0 given inv.0.1 c.in_ok-count.ensures.bytes.0, omega (arith, length-append inv.0.0 given, size, inv.0.2)), c.in_ok-count.ensures.cause.calm ∙ inv.1, fits)
