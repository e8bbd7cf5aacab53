-- Lemmas of `EndpointSteps`.
use Rattle.std.proofs.Common.{◌≡◌, true, rules}
use Rattle.client_endpoints.proofs.EndpointSteps.{endpoint_ended}
use Rattle.client_endpoints.proofs.endpoint.Endpoint.end.Goals as goal

pub invariant_of-self-else-not-end : goal.invariant_of-self-else-not-end
invariant_of-self-else-not-end g c =
    let was = c.self.inside in
    let none : c.end.result ≡ true = search rules in
    endpoint_ended was.began.value was.desk was.transport c.in-Mail.mail c.end.new.self was.refused c.self.invariant c.in-Mail.is (c.end.ensures.none none)
