use Rattle.std.proofs.Common.{◌∙◌, ap, [], ◌∷◌, ◌++◌, List}
use Rattle.protocol.specs.Messages.{Message}
use Rattle.protocol.specs.Instance.{setting}
use Rattle.protocol.specs.Lines.{mix_ask}
use Rattle.client_duties.proofs.Folding.{one_more}
use Rattle.client_duties.proofs.mail.add_mixed.Goals as goal

pub loop-node-preserved : goal.loop-node-preserved
loop-node-preserved c =
    let f = λ (i : Rattle.std.proofs.Common.ℕ). mix_ask (setting c.args.config.now) c.args.client i c.args.block c.args.time c.args.value.now c.args.other.now in
    let more = one_more c.args.mail.now f c.loop-node.node in
    c.in_ok-push.ensures.ok ∙ ap (λ (m : Message). c.loop-node.mail ++ m ∷ []) c.in_ok-mix_ask.ensures ∙ ap (λ (ms : List Message). ms ++ f c.loop-node.node ∷ []) c.loop-node.invariant ∙ more
