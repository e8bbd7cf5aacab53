use Rattle.std.proofs.Common.{◌≡◌, Some}
use Rattle.protocol.specs.Count.{collect}
use Rattle.operation_core.specs.Mails.{message_of}
use Rattle.operation_core.proofs.mailing.mail.Given as goal

abbrev pub invariant-loop-node : goal.invariant-loop-node
invariant-loop-node l = l.mail ≡ collect l.node (λ i. Some (message_of l.config l.head l.stage i))
