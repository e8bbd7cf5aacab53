-- The law's clauses are lemmas of `Linear` and `Holding`, since the setting of a cluster is valid.
use Rattle.protocol.specs.Instance.{setting_of}
use Rattle.block_turns.proofs.Linear.{lives_linear, acknowledged_done}
use Rattle.block_turns.proofs.Holding.{latest_are_blocks}
use Rattle.block_turns.proofs.lives_are_linearizable.Goals as goal

pub returns : goal.returns
returns c = record {
  linear = λ n nodes clients good. lives_linear (setting_of n nodes clients) (c.cluster.ensures n nodes clients good);
  done = λ n nodes clients good. acknowledged_done (setting_of n nodes clients) (c.cluster.ensures n nodes clients good);
  latest = λ n nodes clients good. latest_are_blocks (setting_of n nodes clients) (c.cluster.ensures n nodes clients good);
}
