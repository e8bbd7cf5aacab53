use Rattle.std.proofs.Common.{◌≡◌, ◌-◌, ◌≤◌, ◌<◌, ℕ}
use Rattle.std.specs.List.{filter, range_with_len}
use Rattle.store_front.specs.Rounds.{needs, with_blocks}
use Rattle.store_front.specs.Touching.{Knows, KnowsMore}
use Rattle.store_front.proofs.round.Touched.add.Given as goal

abbrev pub invariant-loop-block : goal.invariant-loop-block
invariant-loop-block l = record {
  read : l.self.read.keys ≡ with_blocks l.initial.self.read.keys (filter (needs l.config l.request) (range_with_len l.blocks.first (l.block - l.blocks.first)));
  more : KnowsMore l.initial.self l.self;
  known : (k : ℕ) → l.blocks.first ≤ k → k < l.block → Knows l.self l.request.kind k;
  count : l.self.count ≡ l.initial.self.count;
}
