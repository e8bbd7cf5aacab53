use Rattle.std.proofs.Common.{◌∙◌, sym}
use Rattle.world_state.specs.Worlds.{setting_in, world_in}
use Rattle.world_steps.proofs.play.call.Goals as goal
use Rattle.std.proofs.lemmas.Result.{on_ok_weaker}
use Rattle.world_state.proofs.lemmas.Became.{became_this}
use Rattle.world_steps.proofs.LineEvents.{called_plays}

-- src/play.rt:86:5
pub returns-clause-ok : goal.returns-clause-ok
returns-clause-ok c =
    on_ok_weaker c.hear_given.result
    (λ h. became_this _ _ _ _ h
    (called_plays (setting_in c.args.state.now) c.args.place (world_in c.args.state.now) c.args.client c.args.node c.in-Some.message c.in-Ask.ask c.in_ok-answer.answer c.requires.working (sym c.in-Some.is ∙ c.in_ok-message.ensures) c.in-Ask.is c.in_ok-answer.ensures.answer))
    c.hear_given.ensures.ok
