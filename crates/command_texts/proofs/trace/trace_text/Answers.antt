use Rattle.command_texts.proofs.Running.{runs_plan, journals_declare, journals_told, traces_plan}
use Rattle.command_texts.proofs.trace.trace_text.Goals as goal

pub script_of-requires-clause-liars : goal.script_of-requires-clause-liars
script_of-requires-clause-liars c = journals_declare c.plans_declare.ensures c.args.plan.now c.args.journals (c.args.drawn, c.requires.run)

pub script_of-requires-clause-lines : goal.script_of-requires-clause-lines
script_of-requires-clause-lines c = journals_told c.args.plan.now c.args.journals (c.args.drawn, c.requires.run) c.in_ok-merged.merged.lines c.in_ok-merged.ensures.told

pub returns : goal.returns
returns c =
    let run = runs_plan c.complete_histories.ensures c.args.plan.now c.args.journals (c.args.drawn, c.requires.run) c.in_ok-merged.merged.lines c.in_ok-merged.merged.world c.in_ok-merged.ensures.run c.in_ok-merged.ensures.fits c.in_ok-report.report c.in_ok-report.ensures in
    traces_plan c.args.plan.now c.args.journals (c.args.drawn, c.requires.run) c.in_ok-report.report c.in_ok-text.text c.in_ok-script.script run c.in_ok-script.ensures.text c.in_ok-script.ensures.events c.in_ok-text.ensures
