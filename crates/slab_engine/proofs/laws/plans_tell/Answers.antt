use Rattle.slab_engine.proofs.Planning.{plan_tells}
use Rattle.slab_engine.proofs.laws.plans_tell.Goals as goal

pub returns : goal.returns
returns c = plan_tells
