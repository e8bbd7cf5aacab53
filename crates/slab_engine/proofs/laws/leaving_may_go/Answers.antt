use Rattle.slab_engine.proofs.Dropping.{less_leaving}
use Rattle.slab_engine.proofs.laws.leaving_may_go.Goals as goal

pub returns : goal.returns
returns c = less_leaving
