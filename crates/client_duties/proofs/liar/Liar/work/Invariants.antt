use Rattle.std.proofs.Common.{◌≡◌, [], length}
use Rattle.std.specs.declared.option.Option.TheVariants.{None}
use Rattle.client_desks.specs.Later.{IsLater}
use Rattle.client_endpoints.specs.Endpoint.{Fit, fixed}
use Rattle.client_duties.specs.ClientDuty.{HasMail}
use Rattle.client_duties.proofs.liar.Liar.work.Given as goal

abbrev pub invariant-loop-ask : goal.invariant-loop-ask
invariant-loop-ask g l = record {
  stays : fixed l.endpoint ≡ fixed l.fn.endpoint;
  fit : Fit l.endpoint l.shared_cells;
  sound : l.endpoint.refused ≡ None;
  later : IsLater l.fn.endpoint.desk l.endpoint.desk;
  plan : l.self.plan.value ≡ l.fn.self.plan.value;
  client : l.self.client ≡ l.fn.self.client;
  mail : HasMail l.self l.endpoint.desk;
  none : l.fn.self.mail.items ≡ [] → (l.self.mail.items ≡ []) × (l.endpoint.desk.entries ≡ l.fn.endpoint.desk.entries);
}

abbrev pub decreases-loop-ask : goal.decreases-loop-ask
decreases-loop-ask g l = length l.self.mail.items
