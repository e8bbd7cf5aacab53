use Rattle.std.proofs.Common.{map}
use Rattle.event_lines.specs.declared.line.ReplayLine.TheVariants.{Plain}
use Rattle.script_text.specs.Replays.{replay_text}
use Rattle.pasis_shell.proofs.Tracing.{trace_replays}
use Rattle.pasis_shell.proofs.laws.traces_replay.Goals as goal

pub returns-clause-replays : goal.returns-clause-replays
returns-clause-replays c = trace_replays c.plans_declare.ensures c.replays_are_spelled.ensures.accepted c.replays_are_spelled.ensures.text

pub returns-clause-only : goal.returns-clause-only
returns-clause-only c =
    λ plan journals text written t known few replays.
    let script = replay_text plan.config plan.liars (map Plain t.run.made.lines) in
    c.scripts_have_one_report.ensures script written t.report replays
    (trace_replays c.plans_declare.ensures c.replays_are_spelled.ensures.accepted c.replays_are_spelled.ensures.text plan journals text t known few)
