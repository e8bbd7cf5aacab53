use Rattle.std.proofs.Common.{◌∷◌, [], refl, ◌∙◌, ap, subst}
use Rattle.protocol.specs.World.{World}
use Rattle.std.specs.Prelude.{slice_index_or}
use Rattle.protocol.specs.Seen.{client_at, new_client}
use Rattle.world_state.specs.Worlds.{setting_in, world_in}
use Rattle.world_state.specs.Changes.{client_in, handles}
use Rattle.world_state.proofs.lemmas.Became.{became_then}
use Rattle.world_state.proofs.HeardEffects.{Fits, slot-fits, may-apply, heard-applied, sent-together}
use Rattle.world_state.proofs.state.State.hear_given.Goals as goal

pub apply-requires-clause-effect : goal.apply-requires-clause-effect
apply-requires-clause-effect c =
    let v = c.args.self.now in
    let k = c.args.client in
    let e = c.in_ok-give.ensures.ok in
    may-apply v k c.args.place c.args.message c.requires.answer c.in_ok-effect.effect c.give.new.self e.config
    (ap (λ (w : World). w.place) e.now) c.requires.later c.in_ok-give.ensures.clients (ap (λ (w : World). w.task k) e.now)
    (subst (λ x. Fits x.config.n x.seen.place (client_at x.seen k).task) c.self.view_is (slot-fits c.self.inside c.self.invariant.0 k c.requires.client)) c.in_ok-effect.ensures.effect

pub apply-requires-clause-awake : goal.apply-requires-clause-awake
apply-requires-clause-awake c = ap (λ (w : World). w.client_crashed c.args.client) c.in_ok-give.ensures.ok.now ∙ c.requires.awake

pub returns-clause-ok : goal.returns-clause-ok
returns-clause-ok c =
    let v = c.args.self.now in
    let k = c.args.client in
    let m = c.args.message in
    let one = handles (setting_in v) (world_in v) c.args.place c.args.node c.args.ask.now (m ∷ []) in
    let pool = sent-together (world_in v).pool (m ∷ c.in_ok-effect.next) c.in_ok-effect.next _ m refl c.in_ok-effect.ensures.mail in
    let e = c.in_ok-give.ensures.ok in
    became_then v c.give.new.self c.apply.new.state _ _ _ e c.apply.ensures
    (heard-applied v k c.args.place m c.requires.answer c.in_ok-effect.effect one refl
    (subst (λ x. Fits x.config.n x.seen.place (client_at x.seen k).task) c.self.view_is (slot-fits c.self.inside c.self.invariant.0 k c.requires.client)) c.in_ok-effect.ensures.effect
    (client_in c.give.new.self k) (λ i. record { config = e.config i; id = k; seen = slice_index_or (c.in_ok-give.ensures.clients i) k new_client })
    (world_in c.give.new.self) (e.now ∙ (λ i. record one { pool = pool i })))
