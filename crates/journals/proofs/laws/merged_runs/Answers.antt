-- What the induction over the steps gives, from the laws of runs.
use Rattle.journals.proofs.Cited.{Laws}
use Rattle.journals.proofs.lemmas.Law.{all_reach, are_run, all_recorded}
use Rattle.journals.proofs.laws.merged_runs.Goals as goal

pub returns : goal.returns
returns c =
    let laws : Laws = record {
      formed = c.false_replies.ensures;
      taken = c.refusals.ensures.taken;
      grows = c.pools.ensures.lines;
      runs = c.runs.ensures;
      tasks = c.tasks.ensures;
      starts = c.views.ensures.begun;
      heard = c.views.ensures.heard;
      full_begun = c.views.ensures.full_begun;
      full_heard = c.views.ensures.full_heard;
      greatest = c.given.ensures.greatest;
      replaced = c.replacements.ensures;
    } in
    record {
      reach = all_reach laws;
      run = are_run laws;
      recorded = all_recorded laws;
      legal = λ conduct j lines of_run merge w h run apart is. (
        c.safety.ensures.legal j.config _ _ of_run.cluster lines w run h apart is,
        c.safety.ensures.in_time j.config _ _ of_run.cluster lines w run h apart is,
      );
      sound = λ conduct j lines of_run merge w h e run is. c.safety.ensures.sound j.config _ _ of_run.cluster lines w run h e is;
    }
