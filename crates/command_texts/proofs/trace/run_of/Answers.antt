use Rattle.plan_followed.specs.Asked.{conduct_of}
use Rattle.command_texts.proofs.Running.{plan_liars, told_lines, leads_to}
use Rattle.world_state.specs.Worlds.{world_in}
use Rattle.merge_trace.specs.Traces.{placed}
use Rattle.command_texts.proofs.Told.{fits_history}
use Rattle.command_texts.proofs.trace.run_of.Goals as goal

pub merge-requires-clause-desks : goal.merge-requires-clause-desks
merge-requires-clause-desks c = c.requires.run.follows.are_for.ascend

pub merge-requires-clause-liars : goal.merge-requires-clause-liars
merge-requires-clause-liars c = plan_liars c.plans.ensures.liars c.args.plan.now c.args.journals.now (c.args.drawn, c.requires.run)

pub merge-requires-clause-once : goal.merge-requires-clause-once
merge-requires-clause-once c = c.requires.run.numbers.once

pub merge-requires-clause-nodes : goal.merge-requires-clause-nodes
merge-requires-clause-nodes c =
    let of = c.followed_plans.ensures.of_run c.args.plan.now c.args.journals.now c.args.drawn c.requires.run in
    c.kept_journals.ensures.nodes c.args.journals.now of.cluster.config (conduct_of c.args.plan.now.rules, of.kept)

pub merge-requires-clause-fits : goal.merge-requires-clause-fits
merge-requires-clause-fits c =
    let of = c.followed_plans.ensures.of_run c.args.plan.now c.args.journals.now c.args.drawn c.requires.run in
    c.kept_journals.ensures.fits c.args.journals.now of.cluster.config
    (plan_liars c.plans.ensures.liars c.args.plan.now c.args.journals.now (c.args.drawn, c.requires.run)) (conduct_of c.args.plan.now.rules, of.kept) of.pairs

pub returns-clause-run : goal.returns-clause-run
returns-clause-run c =
    let m = c.in_ok-merged in
    record {
      merged = m.ensures.lines;
      setting = m.ensures.setting;
      run = leads_to c.followed_plans.ensures.of_run c.merged_runs.ensures.run c.args.plan.now c.args.journals.now c.args.drawn c.requires.run m.merged.lines (world_in m.merged.world) m.ensures.lines m.ensures.world;
    }

pub returns-clause-told : goal.returns-clause-told
returns-clause-told c = told_lines c.told_lines.ensures c.args.plan.now c.args.journals.now c.requires.of_scripts (c.args.drawn, c.requires.run) c.in_ok-merged.merged.lines c.in_ok-merged.ensures.lines

pub returns-clause-fits : goal.returns-clause-fits
returns-clause-fits c =
    let m = c.in_ok-merged in
    fits_history c.followed_plans.ensures.of_run c.merged_lines.ensures.place c.all_records.ensures.had c.few_records.ensures c.args.plan.now c.args.journals.now c.args.drawn c.requires.run c.requires.clock
    (placed 0 m.merged.lines) (world_in m.merged.world) m.ensures.lines
    (leads_to c.followed_plans.ensures.of_run c.merged_runs.ensures.run c.args.plan.now c.args.journals.now c.args.drawn c.requires.run m.merged.lines (world_in m.merged.world) m.ensures.lines m.ensures.world)
