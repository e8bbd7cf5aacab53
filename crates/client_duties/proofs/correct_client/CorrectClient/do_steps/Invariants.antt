use Rattle.std.proofs.Common.{◌≡◌, length}
use Rattle.std.specs.declared.option.Option.TheVariants.{None}
use Rattle.client_desks.specs.Later.{IsLater}
use Rattle.client_endpoints.specs.Endpoint.{Fit, fixed}
use Rattle.client_duties.specs.ClientDuty.{IsSame, Goes, IsAmidOrOff, StepsFit}
use Rattle.client_duties.proofs.correct_client.CorrectClient.do_steps.Given as goal

abbrev pub invariant-loop-step : goal.invariant-loop-step
invariant-loop-step g l = record {
  stays : fixed l.endpoint ≡ fixed l.fn.endpoint;
  fit : Fit l.endpoint l.shared_cells;
  sound : l.endpoint.refused ≡ None;
  later : IsLater l.fn.endpoint.desk l.endpoint.desk;
  same : IsSame l.fn.self l.self;
  phases : l.self.phases.items ≡ l.fn.self.phases.items;
  goes : Goes l.self l.endpoint.desk;
  amid : IsAmidOrOff l.self l.steps l.endpoint.desk;
  steps : StepsFit l.self.plan.value l.self.client l.self.phases.items l.steps;
}

abbrev pub decreases-loop-step : goal.decreases-loop-step
decreases-loop-step g l = length l.steps
