use Rattle.std.proofs.Common.{◌≡◌, List, ◌++◌, get_or, Some, refl, sym, ◌∙◌, ap, subst}
use Rattle.std.proofs.lemmas.Option.{get_or_from_slice_get}
use Rattle.protocol.specs.Messages.{Message}
use Rattle.protocol.specs.World.{World, heard}
use Rattle.std.specs.Prelude.{slice_get, slice_index_or}
use Rattle.protocol.specs.Seen.{client_at, new_client}
use Rattle.world_state.specs.Worlds.{setting_in, world_in}
use Rattle.world_state.specs.Changes.{client_in, IsAnswer}
use Rattle.world_state.proofs.lemmas.Became.{became_then}
use Rattle.world_state.proofs.HeardEffects.{Fits, slot-fits, may-apply, heard-applied}
use Rattle.world_state.proofs.state.State.hear.Goals as goal

-- the message of a place is the one that stands there
here : (pool lent : List Message) (i : Rattle.std.proofs.Common.ℕ) (x m : Message) → x ≡ get_or lent i x → lent ≡ pool → slice_get pool i ≡ Some m → x ≡ m
here pool lent i x m e f g = e ∙ ap (λ (l : List Message). get_or l i x) f ∙ get_or_from_slice_get pool i m x g

pub apply-requires-clause-effect : goal.apply-requires-clause-effect
apply-requires-clause-effect c =
    let v = c.args.self.now in
    let k = c.args.client in
    let x = c.index-as_slice-message.result in
    let known = c.requires.answer in
    let same = here v.seen.pool c.as_slice.result.now c.args.message x known.0 c.index-as_slice-message.is (c.as_slice.ensures ∙ ap (λ y. y.seen.pool) c.self.view_is) known.1 in
    let e = c.in_ok-send.ensures.ok in
    may-apply v k c.args.place x (subst (λ y. IsAnswer k y) (sym same) known.2) c.in_ok-effect.effect c.send.new.self e.config
    (ap (λ (w : World). w.place) e.now) c.requires.later c.in_ok-send.ensures.clients (ap (λ (w : World). w.task k) e.now)
    (subst (λ y. Fits y.config.n y.seen.place (client_at y.seen k).task) c.self.view_is (slot-fits c.self.inside c.self.invariant.0 k c.requires.client)) c.in_ok-effect.ensures.effect

pub apply-requires-clause-awake : goal.apply-requires-clause-awake
apply-requires-clause-awake c = ap (λ (w : World). w.client_crashed c.args.client) c.in_ok-send.ensures.ok.now ∙ c.requires.awake

pub returns-clause-ok : goal.returns-clause-ok
returns-clause-ok c = λ m known.
    let v = c.args.self.now in
    let k = c.args.client in
    let x = c.index-as_slice-message.result in
    let same = here v.seen.pool c.as_slice.result.now c.args.message x m c.index-as_slice-message.is (c.as_slice.ensures ∙ ap (λ y. y.seen.pool) c.self.view_is) known in
    let asked = c.requires.answer in
    let same_asked = here v.seen.pool c.as_slice.result.now c.args.message x asked.0 c.index-as_slice-message.is (c.as_slice.ensures ∙ ap (λ y. y.seen.pool) c.self.view_is) asked.1 in
    let e = c.in_ok-send.ensures.ok in
    became_then v c.send.new.self c.apply.new.state _ _ _ e c.apply.ensures
    (heard-applied v k c.args.place x (subst (λ y. IsAnswer k y) (sym same_asked) asked.2) c.in_ok-effect.effect (world_in v) refl
    (subst (λ y. Fits y.config.n y.seen.place (client_at y.seen k).task) c.self.view_is (slot-fits c.self.inside c.self.invariant.0 k c.requires.client)) c.in_ok-effect.ensures.effect
    (client_in c.send.new.self k) (λ i. record { config = e.config i; id = k; seen = slice_index_or (c.in_ok-send.ensures.clients i) k new_client })
    (world_in c.send.new.self) (e.now ∙ (λ i. record (world_in v) { pool = (world_in v).pool ++ c.in_ok-effect.ensures.mail i; place = c.args.place }))
    ∙ ap (λ (y : Message). heard (setting_in v) (world_in v) c.args.place k y y.body) same)
