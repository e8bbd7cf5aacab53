use Rattle.std.proofs.Common.{◌∙◌, ap, [], ◌∷◌, ◌++◌, List}
use Rattle.protocol.specs.Messages.{Message}
use Rattle.protocol.specs.Instance.{setting}
use Rattle.protocol.specs.Lines.{sound_ask}
use Rattle.client_duties.proofs.Folding.{one_more}
use Rattle.client_duties.proofs.mail.add_sound.Goals as goal

pub loop-node-preserved : goal.loop-node-preserved
loop-node-preserved c =
    let f = λ (i : Rattle.std.proofs.Common.ℕ). sound_ask (setting c.args.config.now) c.args.client i c.args.block c.args.time c.args.value.now in
    let more = one_more c.args.mail.now f c.loop-node.node in
    c.in_ok-push.ensures.ok ∙ ap (λ (m : Message). c.loop-node.mail ++ m ∷ []) c.in_ok-sound_ask.ensures ∙ ap (λ (ms : List Message). ms ++ f c.loop-node.node ∷ []) c.loop-node.invariant ∙ more
