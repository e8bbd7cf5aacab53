use Rattle.std.proofs.Common.{◌≡◌, ◌+◌, ◌-◌, ◌∙◌, length, take}
use Rattle.outside_io.proofs.lemmas.Known.{Consumes-then}
use Rattle.exact_input.proofs.Pieces.{same_len, filled_more, within_more}
use Rattle.exact_input.proofs.filling.fill.Goals as goal

pub loop-count-preserved : goal.loop-count-preserved
loop-count-preserved g c =
    let room = c.loop-count.room in
    let at = c.loop-count.count in
    let piece = c.read.new.room in
    let more = c.in_ok-more.more in
    let inv = c.loop-count.invariant in
    let few = c.in_ok-more.ensures.bound.0 in
    let long = same_len room piece at more inv.2 c.read.auto.room in (
      rw (filled_more room piece at more inv.2 c.read.auto.room few) (Consumes-then _ _ _ (take at room) (take more piece) inv.0 c.in_ok-more.ensures.bytes.0),
      c.in_ok-more.ensures.cause.calm ∙ inv.1,
      rw long (within_more room piece at more inv.2 c.read.auto.room few),
      long ∙ inv.3,
    )
