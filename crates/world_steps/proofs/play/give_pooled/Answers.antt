use Rattle.std.proofs.Common.{◌≡◌, rules}
use Rattle.std.specs.Prelude.{slice_get}
use Rattle.std.specs.declared.option.Option.TheVariants.{Some}
use Rattle.std.proofs.lemmas.Result.{on_ok_weaker}
use Rattle.world_state.specs.Worlds.{setting_in, world_in}
use Rattle.world_state.proofs.lemmas.Became.{became_this}
use Rattle.world_steps.proofs.LineEvents.{given_plays}
use Rattle.world_steps.proofs.play.give_pooled.Goals as goal

pub returns-clause-ok : goal.returns-clause-ok
returns-clause-ok c =
    let there : slice_get c.args.state.now.seen.pool c.args.number ≡ Some c.in_ok-message.message = search rules in
    on_ok_weaker c.give.result
    (λ h. became_this _ _ _ _ h
    (given_plays (setting_in c.args.state.now) c.args.place (world_in c.args.state.now) c.args.node c.args.number c.in_ok-message.message c.in-Ask.ask c.in_ok-answer.answer there c.in-Ask.is c.in_ok-answer.ensures.answer _ (search rules)))
    c.give.ensures.ok
