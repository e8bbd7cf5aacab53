use Rattle.std.proofs.Common.{◌≡◌, length}
use Rattle.node_workers.specs.Portions.{AreSpread}
use Rattle.node_workers.specs.Opened.{IsAnswerBox}
use Rattle.node_workers.proofs.Opening.{UpTo}
use Rattle.node_workers.proofs.open.open_answers.Given as goal

-- the inboxes of the first seats are open
abbrev pub invariant-loop-i : goal.invariant-loop-i
invariant-loop-i g l =
    UpTo (IsAnswerBox l.clock l.nodes) l.seats l.takers
    × (length l.takers ≡ l.i)
    × AreSpread l.nodes l.takers l.putters.items
