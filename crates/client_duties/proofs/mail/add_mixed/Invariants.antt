use Rattle.std.proofs.Common.{◌≡◌, ◌++◌, map}
use Rattle.std.specs.List.{range_with_len}
use Rattle.protocol.specs.Instance.{setting}
use Rattle.protocol.specs.Lines.{mix_ask}
use Rattle.client_duties.proofs.mail.add_mixed.Given as goal

abbrev pub invariant-loop-node : goal.invariant-loop-node
invariant-loop-node l = l.mail ≡ l.fn.mail ++ map (λ i. mix_ask (setting l.config) l.client i l.block l.time l.value l.other) (range_with_len 0 l.node)
