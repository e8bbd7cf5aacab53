-- Lemmas of `Lives`.
use Rattle.std.proofs.Common.{refl, []}
use Rattle.node_core.specs.Seen.{new_node}
use Rattle.version_disk.proofs.Lives.{ends, stays_good, grows}
use Rattle.version_disk.proofs.laws.acknowledged_is_there.Goals as goal

pub returns : goal.returns
returns a = record {
  there = λ c number life lives. ends c number life [] (new_node c number) refl lives;
  never_damaged = λ c number life lives. stays_good c number life [] refl lives;
  only_grows = λ c number bytes life. grows c number bytes life;
}
