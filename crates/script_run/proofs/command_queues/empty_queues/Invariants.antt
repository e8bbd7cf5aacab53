use Rattle.std.proofs.Common.{◌≡◌, [], replicate}
use Rattle.script_run.proofs.command_queues.empty_queues.Given as goal

abbrev pub invariant-loop : goal.invariant-loop
invariant-loop l = l.left.items ≡ replicate l.counter []
