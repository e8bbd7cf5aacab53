-- The law's clauses are lemmas of `Growth`.
use Rattle.protocol.specs.Instance.{setting_of}
use Rattle.block_turns.proofs.Growth.{lives_begin, lives_go_on, earlier_lives, earlier_apart, late_taken, nothing_taken, more_taken, prunes_keep_some, undone_keep_all}
use Rattle.block_turns.proofs.lives_grow.Goals as goal

pub returns : goal.returns
returns c = record {
  begin = λ n nodes clients good. lives_begin (setting_of n nodes clients);
  go_on = λ n nodes clients good. lives_go_on (setting_of n nodes clients);
  earlier = λ n nodes clients good. earlier_lives (setting_of n nodes clients);
  earlier_apart = λ n nodes clients good. earlier_apart (setting_of n nodes clients);
  late = λ n nodes clients good. late_taken (setting_of n nodes clients);
  nothing = λ n nodes clients good. nothing_taken (setting_of n nodes clients);
  more = λ n nodes clients good. more_taken (setting_of n nodes clients);
  prunes = λ n nodes clients good. prunes_keep_some (setting_of n nodes clients);
  undone = λ n nodes clients good. undone_keep_all (setting_of n nodes clients);
}
