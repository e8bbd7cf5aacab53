-- What the line of the event makes of the world, the event does.
use Rattle.std.proofs.Common.{◌≡◌, subst, OnOk}
use Rattle.protocol.specs.Lines.{Line, plays}
use Rattle.world_state.specs.Worlds.{setting_in, world_in}
use Rattle.world_steps.proofs.SingleEvents.{happened_on_ok}
use Rattle.world_steps.proofs.world.World.step.Goals as goal

pub returns-clause-ok : goal.returns-clause-ok
returns-clause-ok c = subst (λ (l : Line). OnOk c.play.result (world_in c.play.new.self ≡ plays (setting_in c.args.self.now) (world_in c.args.self.now) c.args.place l)) c.in_ok-line.ensures c.play.ensures.ok

pub returns-clause-happens : goal.returns-clause-happens
returns-clause-happens c =
    happened_on_ok (setting_in c.args.self.now) (world_in c.args.self.now) c.args.place c.play.result c.args.event.now c.in_ok-line.line (world_in c.play.new.self) c.in_ok-line.ensures
    c.play.ensures.allowed c.play.ensures.ok
