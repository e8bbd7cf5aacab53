-- Lemmas of `EndpointSteps`.
use Rattle.std.proofs.Common.{◌≡◌, None, sym, ap, subst, ◌∙◌}
use Rattle.std.specs.Prelude.{OnOk}
use Rattle.client_endpoints.specs.Endpoint.{EndpointView, IsEndpoint, HasSent}
use Rattle.client_endpoints.proofs.EndpointSteps.{endpoint_both}
use Rattle.client_endpoints.proofs.endpoint.Endpoint.send.Goals as goal

pub invariant_of-self : goal.invariant_of-self
invariant_of-self g c =
    let was = c.self.inside in
    let turn = c.send_by-answer in
    let sound : was.refused ≡ None = ap (λ (k : EndpointView). k.refused) c.self.view_is ∙ c.requires.sound in
    let endpoint : IsEndpoint was.began.value was.desk was.transport None = subst (IsEndpoint was.began.value was.desk was.transport) sound c.self.invariant in
    subst (IsEndpoint was.began.value turn.new.desk turn.new.transport) (sym c.refusal_of-self-inside.ensures) (endpoint_both turn.result was.began.value was.desk turn.new.desk was.transport turn.new.transport endpoint turn.ensures.both turn.ensures.rest)

pub returns-clause-sent : goal.returns-clause-sent
returns-clause-sent g c = subst (λ (k : EndpointView). OnOk c.send_by-answer.result (HasSent k.desk c.args.ask.now c.send_by-answer.new.desk)) c.self.view_is c.send_by-answer.ensures.sent
