-- Lemmas of `EndpointSteps`.
use Rattle.std.proofs.Common.{None, sym, subst}
use Rattle.client_endpoints.specs.Endpoint.{IsEndpoint}
use Rattle.client_endpoints.proofs.EndpointSteps.{endpoint_new}
use Rattle.client_endpoints.proofs.endpoint.Endpoint.new.Goals as goal

pub invariant_of-result : goal.invariant_of-result
invariant_of-result c = subst (λ d. IsEndpoint d c.args.desk c.args.transport None) (sym c.of.ensures) (endpoint_new c.args.desk c.args.transport c.requires.rest c.requires.new)
