use Rattle.soak_loads.proofs.Blocks.{one_client}
use Rattle.soak_loads.proofs.laws.blocks_have_one_client.Goals as goal

pub returns : goal.returns
returns c = one_client
