use Rattle.std.proofs.Common.{subst, sym}
use Rattle.world_steps.proofs.world.World.new.Goals as goal
use Rattle.world_steps.specs.Reached.{IsReached}
use Rattle.world_steps.proofs.Reached.{begins}

pub invariant_of-result : goal.invariant_of-result
invariant_of-result c =
    subst IsReached (sym c.in_ok-new.ensures.ok)
    (begins c.in_ok-state.state c.args.config.now c.args.liars.now c.in_ok-state.ensures.valid c.in_ok-state.ensures.cluster c.requires c.in_ok-state.ensures.liars c.in_ok-state.ensures.start)
