use Rattle.std.proofs.Common.{◌≡◌, map, take}
use Rattle.protocol.specs.Instance.{setting}
use Rattle.slab_engine.specs.Seen.{listed}
use Rattle.slab_engine.specs.Plans.{plan_at}
use Rattle.slab_engine.proofs.plan.plan_all.Given as goal

abbrev pub invariant-loop-ask : goal.invariant-loop-ask
invariant-loop-ask l = l.plans.items ≡ map (plan_at (setting l.config) l.number l.first (listed l.answers) l.index) (take l.ask-index l.asks)
