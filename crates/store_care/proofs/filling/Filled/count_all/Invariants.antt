use Rattle.std.proofs.Common.{◌≡◌, drop}
use Rattle.store_care.specs.Filling.{with_replies}
use Rattle.store_care.proofs.filling.Filled.count_all.Given as goal

abbrev pub invariant-loop-reply : goal.invariant-loop-reply
invariant-loop-reply l = with_replies l.self (drop l.reply-index l.replies) ≡ with_replies l.fn.self l.replies
