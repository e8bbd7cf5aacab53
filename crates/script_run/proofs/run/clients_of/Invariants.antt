use Rattle.std.proofs.Common.{◌≡◌, ◌+◌, ◌≤◌}
use Rattle.script_run.proofs.Counting.{counted_below}
use Rattle.script_run.proofs.run.clients_of.Given as goal

abbrev pub invariant-loop-client : goal.invariant-loop-client
invariant-loop-client l = record { counted : l.count ≡ counted_below l.client l.liars.clients; few : l.count + 1 ≤ l.client }
