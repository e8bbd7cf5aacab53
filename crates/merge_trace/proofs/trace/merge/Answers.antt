use Rattle.merge_trace.proofs.Tracing.{last_world}
use Rattle.journals.specs.Journals.{setting_for}
use Rattle.merge_trace.proofs.trace.merge.Goals as goal

pub returns-clause-world : goal.returns-clause-world
returns-clause-world c = last_world (setting_for c.args.journals.now) c.in_ok-trace.trace c.in_ok-trace.ensures.world
