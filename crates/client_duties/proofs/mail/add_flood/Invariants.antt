use Rattle.std.proofs.Common.{◌≡◌, ◌++◌, ◌-◌, map}
use Rattle.std.specs.List.{flat_map, range_with_len}
use Rattle.protocol.specs.Instance.{setting}
use Rattle.protocol.specs.Lines.{mix_ask}
use Rattle.client_duties.proofs.mail.add_flood.Given as goal

abbrev pub invariant-loop-fall : goal.invariant-loop-fall
invariant-loop-fall l = l.mail ≡ l.fn.mail ++ flat_map (λ k. map (λ i. mix_ask (setting l.config) l.client i l.block (l.time - k) l.value l.other) (range_with_len 0 l.config.n)) (range_with_len 0 l.fall)
