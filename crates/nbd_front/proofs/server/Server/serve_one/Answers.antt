use Rattle.std.proofs.Common.{◌≡◌, ◌<◌, ◌*◌, ◌∙◌, Ok, refl, ap, sym, subst, length}
use Rattle.quorum_rules.specs.Limits.{Numbers}
use Rattle.nbd_front.specs.declared.ending.Served.TheVariants.{Over}
use Rattle.nbd_front.specs.Sessions.{most_requests}
use Rattle.nbd_front.specs.Servers.{SeenServer, bytes_of, HasAsked, HasFinished, HasLeft, IsAsked}
use Rattle.nbd_front.specs.Outcomes.{outcome, given_back}
use Rattle.nbd_front.proofs.Devices.{length_array}
use Rattle.nbd_front.proofs.Stepping.{carried}
use Rattle.nbd_front.proofs.server.Server.serve_one.Goals as goal

pub answer-requires-clause-asked : goal.answer-requires-clause-asked
answer-requires-clause-asked g c =
    let inside = c.self.inside in
    let asked : HasAsked c.device_len-size.result inside.served (g.S.Source.left c.args.source.now) (g.S.Source.left c.take_request.new.source) c.in-Ok-Some.asked = rw c.in-Ok-Some.field-0-is at c.in-Ok-Some.ensures.some in
    let size : c.device_len-size.result ≡ length (bytes_of c.args.self) =
    c.device_len-size.ensures.is ∙ ap (λ (k : Numbers). k.size * k.blocks) c.config.ensures ∙ sym (length_array inside.device c.self.invariant.order) ∙ ap (λ (x : SeenServer). length (bytes_of x)) c.self.view_is in
    (asked.0, subst (λ n. IsAsked n asked.0 c.in-Ok-Some.asked) size asked.3)

pub returns-in-Ok-Some-clause-step : goal.returns-in-Ok-Some-clause-step
returns-in-Ok-Some-clause-step g c =
    let inside = c.self.inside in
    let asked : HasAsked c.device_len-size.result inside.served (g.S.Source.left c.args.source.now) (g.S.Source.left c.take_request.new.source) c.in-Ok-Some.asked = rw c.in-Ok-Some.field-0-is at c.in-Ok-Some.ensures.some in
    let size : c.device_len-size.result ≡ length (bytes_of c.args.self) =
    c.device_len-size.ensures.is ∙ ap (λ (k : Numbers). k.size * k.blocks) c.config.ensures ∙ sym (length_array inside.device c.self.invariant.order) ∙ ap (λ (x : SeenServer). length (bytes_of x)) c.self.view_is in
    let few = subst (λ (x : SeenServer). x.served < most_requests) c.self.view_is asked.2 in
    carried c.args.self (given_back c.answer.result) asked.0 _ _ _ _ (outcome c.answer.result) asked.1 few asked.3.whole (c.answer.ensures.answered asked.0 (subst (λ n. IsAsked n asked.0 c.in-Ok-Some.asked) size asked.3))

pub returns-in-Ok-None-clause-step : goal.returns-in-Ok-None-clause-step
returns-in-Ok-None-clause-step g c =
    let inside = c.self.inside in
    let gone : HasLeft inside.served inside.place (g.S.Source.left c.args.source.now) (g.S.Source.left c.take_request.new.source) = c.in-Ok-None.ensures.none (ap Ok c.in-Ok-None.field-0-is) in
    (subst (λ (x : SeenServer). HasFinished (Ok Over) x (g.S.Source.left c.args.source.now) (g.S.Source.left c.take_request.new.source)) c.self.view_is (record { bytes = gone.bytes; gave = gone.gave; few = gone.few; ends = gone.ends }), refl)
