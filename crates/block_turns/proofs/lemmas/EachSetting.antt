-- The laws of lives in each valid setting, whether a cluster's or another.
use Rattle.protocol.specs.Setting.{Setting, IsValid}
use Rattle.block_turns.specs.Laws.{LivesAreLinearizable}
use Rattle.block_turns.specs.Growing.{LivesGoOn, PrunesKeepSome, UndonePrunesKeepAll}
use Rattle.block_turns.proofs.Linear.{lives_linear}
use Rattle.block_turns.proofs.Growth.{lives_go_on, prunes_keep_some, undone_keep_all}

pub setting_linear : (s : Setting) → IsValid s → LivesAreLinearizable s
setting_linear s good = lives_linear s good

pub one_turn_more : (s : Setting) → LivesGoOn s
one_turn_more s = lives_go_on s

pub prune_in_part : (s : Setting) → PrunesKeepSome s
prune_in_part s = prunes_keep_some s

pub prune_undone : (s : Setting) → UndonePrunesKeepAll s
prune_undone s = undone_keep_all s
