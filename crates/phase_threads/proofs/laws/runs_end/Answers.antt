-- The lemma of `Ending`.
use Rattle.phase_threads.proofs.lemmas.Ending.{runs_end}
use Rattle.phase_threads.proofs.laws.runs_end.Goals as goal

pub returns : goal.returns
returns c = runs_end c.kept_journals.ensures.one c.kept_journals.ensures.several c.plans.ensures.conduct c.phases_close.ensures.ends
