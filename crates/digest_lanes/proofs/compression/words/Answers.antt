use Rattle.std.proofs.Common.{refl}
use Rattle.digest_lanes.proofs.Vectors.{four_cases}
use Rattle.digest_lanes.proofs.compression.words.Goals as goal

pub returns : goal.returns
returns c = record {
  len = refl;
  each = four_cases (λ j. _) c.word_at.ensures c.word_at-2.ensures c.word_at-3.ensures c.word_at-4.ensures;
}
