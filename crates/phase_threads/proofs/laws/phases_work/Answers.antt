-- Lemmas of `Working` and `Sharded`.
use Rattle.phase_threads.proofs.lemmas.Working.{phases_work, journals_below, cells_prune}
use Rattle.phase_threads.proofs.lemmas.Sharded.{nodes_prune, nothing_late}
use Rattle.phase_threads.proofs.laws.phases_work.Goals as goal

pub returns : goal.returns
returns c = record {
  work = phases_work;
  below = journals_below;
  prunes = cells_prune;
  may = nodes_prune c.kept_journals.ensures.calm;
  late = nothing_late c.kept_journals.ensures.calm;
}
