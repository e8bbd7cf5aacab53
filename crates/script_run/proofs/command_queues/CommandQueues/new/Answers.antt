use Rattle.std.proofs.Common.{[]}
use Rattle.protocol.specs.World.{start_world}
use Rattle.world_state.specs.Worlds.{setting_in, world_in}
use Rattle.script_run.proofs.Keeping.{both, none_left, new_queues}
use Rattle.script_run.proofs.command_queues.CommandQueues.new.Goals as goal

pub invariant_of-result : goal.invariant_of-result
invariant_of-result c = (new_queues c.args.config.now c.in_ok-left.left.items c.in_ok-left.ensures, c.in_ok-world.ensures.cluster)

pub returns-clause-start : goal.returns-clause-start
returns-clause-start c =
    both (world_in c.in_ok-world.world) (start_world (setting_in c.in_ok-world.world)) _ (λ k. []) c.in_ok-world.ensures.start (none_left 1001 c.in_ok-left.left.items c.in_ok-left.ensures)
