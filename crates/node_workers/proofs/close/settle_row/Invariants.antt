use Rattle.std.proofs.Common.{◌≡◌, length}
use Rattle.node_workers.proofs.Settling.{AreSettledFrom}
use Rattle.node_workers.proofs.close.settle_row.Given as goal

abbrev pub invariant-loop-sent : goal.invariant-loop-sent
invariant-loop-sent l = (l.mails.items ≡ l.initial.mails.items) × AreSettledFrom l.initial.mails.items l.initial.row l.row

abbrev pub decreases-loop-sent : goal.decreases-loop-sent
decreases-loop-sent l = length l.row
