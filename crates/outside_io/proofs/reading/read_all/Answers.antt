use Rattle.std.proofs.Common.{◌≡◌, ◌≤◌, ℕ, List, ◌+◌, ◌++◌, ◌∙◌, ap, arith, length, take, drop, length-append}
use Rattle.std.proofs.lemmas.List.{take-append-le, length-take}
use Rattle.outside_io.proofs.lemmas.Known.{Consumes-then}
use Rattle.outside_io.proofs.reading.read_all.Goals as goal

room_left : (have wanted count given room : ℕ) (xs : List ℕ) → count ≤ room → count ≡ given → room ≡ length (take wanted xs) → have + wanted ≤ 4194305 → have + given ≤ 4194305
room_left have wanted count given room xs within is size most = omega (arith, length-take wanted xs)

pub loop-preserved : goal.loop-preserved
loop-preserved g c =
    let given = take c.in-Ok.count c.read.new.room in
    let size : length c.read.new.room ≡ length (take c.wanted_at-wanted.result c.loop.room) = c.read.auto.room in
    let fits : length c.loop.input.items + length given ≤ 4194305 = room_left (length c.loop.input.items) c.wanted_at-wanted.result c.in-Ok.count (length given) (length c.read.new.room) c.loop.room c.in-Ok.ensures.bound.0 c.in-Ok.ensures.bound.1 size (omega (arith, c.len.ensures, c.wanted_at-wanted.ensures.most)) in
    let rest = drop c.wanted_at-wanted.result c.loop.room in
    let same : take c.in-Ok.count (c.read.new.room ++ rest) ≡ given = take-append-le c.in-Ok.count c.read.new.room rest c.in-Ok.ensures.bound.0 in
    let kept = c.extend_from_slice.ensures.succeeds (omega (arith, fits, ap length same, c.loop.invariant)) in
    let items : c.extend_from_slice.new.self.items ≡ c.loop.input.items ++ given = (rw kept at c.extend_from_slice.ensures.items) ∙ ap (λ z. c.loop.input.items ++ z) same in
    let size = ap length items in
    let more : c.loop.counter + 1 ≤ length c.extend_from_slice.new.self.items = omega (arith, size, length-append c.loop.input.items given, c.in-Ok.ensures.bound, c.in-Ok.count-test.1, c.loop.invariant) in (
      rw items (Consumes-then _ _ _ c.loop.input.items given c.loop.invariant.0 c.in-Ok.ensures.bytes.0),
      c.in-Ok.ensures.cause.calm ∙ c.loop.invariant.1,
      more,
      omega (arith, c.if-len-gt-LIMIT.false),
      omega (arith, c.loop.invariant, c.extend_from_slice.ensures.capacity),
    )
