-- Those that were passed are formed.
use Rattle.std.proofs.Common.{ℕ, ◌<◌, get_or}
use Rattle.protocol.specs.Messages.{Reply, IsFormedReply}
use Rattle.store_device.proofs.forms.form_all.Given as goal

abbrev pub invariant-loop-reply : goal.invariant-loop-reply
invariant-loop-reply l = (k : ℕ) (d : Reply) → k < l.reply-index → IsFormedReply (get_or l.replies k d)
