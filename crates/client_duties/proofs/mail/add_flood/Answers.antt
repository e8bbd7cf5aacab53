use Rattle.std.proofs.Common.{◌∙◌, ◌-◌, ℕ, ap, ◌++◌, List, map}
use Rattle.std.specs.List.{range_with_len}
use Rattle.protocol.specs.Messages.{Message}
use Rattle.protocol.specs.Instance.{setting}
use Rattle.protocol.specs.Lines.{mix_ask}
use Rattle.client_duties.proofs.Folding.{many_more}
use Rattle.client_duties.proofs.mail.add_flood.Goals as goal

abbrev sent : goal.In_ok-add_mixed → ℕ → ℕ → List Message
sent c count k = map (λ (i : ℕ). mix_ask (setting c.args.config.now) c.args.client i c.args.block (c.args.time - k) c.args.value.now c.args.other.now) (range_with_len 0 count)

pub loop-fall-preserved : goal.loop-fall-preserved
loop-fall-preserved c =
    let n = c.args.config.now.n in
    c.in_ok-add_mixed.ensures
    ∙ ap (λ (k : ℕ). c.loop-fall.mail ++ sent c k c.loop-fall.fall) (c.from-nodes.ensures ∙ c.n.ensures.is)
    ∙ ap (λ (ms : List Message). ms ++ sent c n c.loop-fall.fall) c.loop-fall.invariant
    ∙ many_more c.args.mail.now (sent c n) c.loop-fall.fall
