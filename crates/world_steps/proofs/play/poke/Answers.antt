use Rattle.std.proofs.Common.{rules}
use Rattle.world_state.specs.Worlds.{setting_in, world_in}
use Rattle.world_steps.proofs.play.poke.Goals as goal
use Rattle.std.proofs.lemmas.Result.{on_ok_weaker}
use Rattle.world_state.proofs.lemmas.Became.{became_this}
use Rattle.world_steps.proofs.LineEvents.{poked_plays}

-- src/play.rt:137:5
pub returns-clause-ok : goal.returns-clause-ok
returns-clause-ok c =
    on_ok_weaker c.give.result
    (λ h. became_this _ _ _ _ h
    (poked_plays (setting_in c.args.state.now) c.args.place (world_in c.args.state.now) c.args.message.now c.in-Ask.ask c.in_ok-answer.answer c.in-Ask.is c.in_ok-answer.ensures.answer _ (search rules)))
    c.give.ensures.ok
