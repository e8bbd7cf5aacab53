use Rattle.soak_loads.proofs.Loads.{loads_done, loads_plain}
use Rattle.soak_loads.proofs.laws.plain_loads.Goals as goal

pub returns : goal.returns
returns c = record {
  done = loads_done c.owned_plans.ensures.done c.blocks_have_one_client.ensures;
  plain = loads_plain c.owned_plans.ensures.plain c.blocks_have_one_client.ensures;
}
