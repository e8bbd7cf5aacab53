use Rattle.digest_lanes.proofs.Vectors.{AreVectors_set, lane_set}
use Rattle.digest_lanes.proofs.Rounds.{word_is}
use Rattle.digest_lanes.proofs.compression.next_word.Goals as goal

pub returns-clause-value : goal.returns-clause-value
returns-clause-value c = word_is c.args.w.now c.args.place _ _ c.requires.vectors c.requires.place c.small_sigma1.ensures c.small_sigma0.ensures

pub returns-clause-window : goal.returns-clause-window
returns-clause-window c = λ j h. lane_set c.args.w.now c.args.place _ j

pub returns-clause-vectors : goal.returns-clause-vectors
returns-clause-vectors c =
    AreVectors_set 16 c.args.w.now c.args.place _ c.requires.vectors
    (word_is c.args.w.now c.args.place _ _ c.requires.vectors c.requires.place c.small_sigma1.ensures c.small_sigma0.ensures).len
