-- Lemmas of `EndpointSteps`.
use Rattle.std.proofs.Common.{◌≡◌, None, sym, ap, subst, ◌∙◌}
use Rattle.journals.specs.declared.desk.DeskAct.TheVariants.{Crash}
use Rattle.client_endpoints.specs.Endpoint.{EndpointView, IsEndpoint}
use Rattle.client_endpoints.proofs.EndpointSteps.{endpoint_own}
use Rattle.client_endpoints.proofs.endpoint.Endpoint.crash.Goals as goal

pub invariant_of-self : goal.invariant_of-self
invariant_of-self c =
    let was = c.self.inside in
    let done = c.crash-answer in
    let sound : was.refused ≡ None = ap (λ (k : EndpointView). k.refused) c.self.view_is ∙ c.requires.sound in
    let endpoint : IsEndpoint was.began.value was.desk was.transport None = subst (IsEndpoint was.began.value was.desk was.transport) sound c.self.invariant in
    subst (IsEndpoint was.began.value done.new.self was.transport) (sym c.refusal_of-self-inside.ensures) (endpoint_own done.result Crash was.began.value was.desk done.new.self was.transport endpoint tt done.ensures.ok)
