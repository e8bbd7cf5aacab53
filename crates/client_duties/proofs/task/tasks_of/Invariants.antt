use Rattle.std.proofs.Common.{◌≡◌, map, All}
use Rattle.client_duties.specs.Tasks.{client_of, IsTaskOf}
use Rattle.client_duties.proofs.task.tasks_of.Given as goal

abbrev pub invariant-loop-client : goal.invariant-loop-client
invariant-loop-client l = record {
  clients : map client_of l.tasks ≡ l.yielded;
  each : All (IsTaskOf l.plan) l.tasks;
}
