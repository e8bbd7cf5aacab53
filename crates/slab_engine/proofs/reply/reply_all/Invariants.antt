use Rattle.std.proofs.Common.{IsTrue}
use Rattle.slab_layout.specs.Shapes.{shape_of}
use Rattle.slab_index.specs.Slots.{version_at}
use Rattle.slab_reading.specs.Reading.{OnlyReads}
use Rattle.slab_engine.specs.Seen.{listed}
use Rattle.slab_engine.specs.Replies.{AreSaidBelow, AreLostBelow}
use Rattle.slab_engine.proofs.reply.reply_all.Given as goal

abbrev pub invariant-loop-i : goal.invariant-loop-i
invariant-loop-i g l =
    let F = g.F.SlabFile in
    OnlyReads F.seen F.may_leave F.moment F.left_since F.is_usable F.is_clean l.fn.file l.file
    × (IsTrue (F.is_clean l.file) → AreSaidBelow l.identity.first (version_at (shape_of l.identity.config) (F.seen l.fn.file)) (listed l.answers) l.asks l.plans l.i l.replies.items)
    × AreLostBelow l.asks l.plans l.i (listed l.fn.answers) (listed l.answers)
