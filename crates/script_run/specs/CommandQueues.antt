-- The queues that the code keeps, as contracts see them.
use Rattle.std.specs.Prelude.{◌≡◌, ℕ, List, [], length, slice_index_or, slice_get}
use Rattle.std.specs.declared.option.Option.TheVariants.{Some}
use Rattle.std.specs.List.{All}
use Rattle.quorum_rules.specs.Limits.{Numbers}
use Rattle.block_device.specs.declared.steps.BlockStep.{BlockStep}
use Rattle.block_device.specs.Steps.{Fits}
use Rattle.world_state.specs.Worlds.{WorldView, world_in}
use Rattle.script_run.specs.Performing.{CommandQueues}

-- the world, and by client number what is left
pub record QueuesView : Type 0 where
  pub world : WorldView
  pub left : List (List BlockStep)

-- the queues of the definitions that it shows
abbrev pub queues_in : QueuesView → CommandQueues
queues_in v = record { world = world_in v.world; left = λ k. slice_index_or v.left k [] }

-- there is a queue for each client, and the steps that are left are for this cluster
pub record AreQueues (c : Numbers) (left : List (List BlockStep)) : Type 0 where
  pub count : length left ≡ 1001
  pub fit : (k : ℕ) (steps : List BlockStep) → slice_get left k ≡ Some steps → All (Fits c) steps
