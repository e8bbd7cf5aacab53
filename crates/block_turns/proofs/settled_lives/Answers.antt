-- The law's clauses are lemmas of `Settling`, `Holding` and `Forgetting`, since the setting of a cluster is valid.
use Rattle.protocol.specs.Instance.{setting_of}
use Rattle.block_turns.proofs.Settling.{settled_lives_begin_anew, settled_lives_forget}
use Rattle.block_turns.proofs.Holding.{held_blocks_settle, held_blocks_stay}
use Rattle.block_turns.proofs.Forgetting.{held_lives_begin_anew, held_lives_forget}
use Rattle.block_turns.proofs.settled_lives.Goals as goal

pub returns : goal.returns
returns c = record {
  anew = λ n nodes clients good. settled_lives_begin_anew (setting_of n nodes clients) (c.cluster.ensures n nodes clients good);
  forgotten = λ n nodes clients good. settled_lives_forget (setting_of n nodes clients) (c.cluster.ensures n nodes clients good) c.reads.ensures.written;
  held = λ n nodes clients good. held_blocks_settle (setting_of n nodes clients) (c.cluster.ensures n nodes clients good);
  stays = λ n nodes clients good. held_blocks_stay (setting_of n nodes clients);
  held_anew = λ n nodes clients good. held_lives_begin_anew (setting_of n nodes clients) (c.cluster.ensures n nodes clients good);
  held_forgotten = λ n nodes clients good. held_lives_forget (setting_of n nodes clients) (c.cluster.ensures n nodes clients good) c.reads.ensures.written;
}
