use Rattle.world_steps.proofs.fault.meets_busy_block.Goals as goal

pub returns-in-Prune : goal.returns-in-Prune
returns-in-Prune c = rw c.in-Prune.is c.is_busy_at.ensures
