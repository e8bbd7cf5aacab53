use Rattle.std.proofs.Common.{◌∙◌, ap}
use Rattle.operation_core.specs.Clients.{ClientView}
use Rattle.client_core.proofs.lemmas.AnswersHeard.{answer_is}
use Rattle.client_core.proofs.client.Client.prepare.Goals as goal

pub returns-in-Answer : goal.returns-in-Answer
returns-in-Answer c =
    let o = c.args.self.now in
    let own = c.if-message-self.true ∙ ap (λ (x : ClientView). x.id) c.self.view_is in
    rw (answer_is o c.args.message.now c.in-Answer.reply own c.in-Answer.is o.seen.task) c.step_by.ensures
