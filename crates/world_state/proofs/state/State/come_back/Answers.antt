use Rattle.std.proofs.Common.{◌+◌, ◌≤◌, sym, ◌∙◌, ap, arith}
use Rattle.protocol.specs.World.{back_again}
use Rattle.operation_core.specs.Clients.{ClientView}
use Rattle.client_core.specs.Clients.{idle_client}
use Rattle.world_state.specs.contracts.state.State.{the_view}
use Rattle.world_state.specs.Worlds.{setting_in, world_in}
use Rattle.world_state.proofs.KeptWorlds.{client-within}
use Rattle.world_state.proofs.ChangedClients.{slot-is}
use Rattle.world_state.proofs.lemmas.Became.{known_as}
use Rattle.world_state.proofs.ClientSlots.{slot-client, slot-crashed}
use Rattle.world_state.proofs.ReturnedClients.{back-kept, back-uses, back-became}
use Rattle.world_state.proofs.state.State.come_back.Goals as goal

pub invariant_of-self : goal.invariant_of-self
invariant_of-self c =
    let w = c.self.inside in
    let k = c.args.client in
    let inside = client-within w c.self.invariant.0 k c.requires.client in
    let slot = c.index_mut-slot.result.now in
    let there = c.index_mut-slot.ensures.value in
    let later : w.place ≤ c.args.place = (let l = c.requires.later in let e = ap (λ v. v.seen.place) c.self.view_is in omega (arith, l, e)) in
    let again = c.sibling-again.ensures ∙ ap (λ (x : ClientView). idle_client x.config k (c.life-life.result + 1)) (slot-is w c.self.invariant.0 k c.requires.client slot there) in
    let crashed = sym (slot-crashed w k inside slot there) ∙ ap (λ v. (world_in v).client_crashed k) c.self.view_is ∙ c.requires.crashed in (
      back-kept w k inside slot c.self.invariant.0 c.args.place later c.sibling-again.result (c.life-life.result + 1) again,
      c.self.invariant.1,
      back-uses w k inside slot c.self.invariant.0 c.args.place later c.sibling-again.result (c.life-life.result + 1) again there crashed c.self.invariant.2,
    )

pub returns : goal.returns
returns c =
    let w = c.self.inside in
    let k = c.args.client in
    let inside = client-within w c.self.invariant.0 k c.requires.client in
    let slot = c.index_mut-slot.result.now in
    let there = c.index_mut-slot.ensures.value in
    let later : w.place ≤ c.args.place = (let l = c.requires.later in let e = ap (λ v. v.seen.place) c.self.view_is in omega (arith, l, e)) in
    let again = c.sibling-again.ensures ∙ ap (λ (x : ClientView). idle_client x.config k (c.life-life.result + 1)) (slot-is w c.self.invariant.0 k c.requires.client slot there) in
    let life = c.life-life.ensures ∙ ap (λ x. x.life) (sym (slot-client w k inside slot there)) in
    known_as (the_view w) c.args.self.now _ c.self.view_is (λ v. back_again (setting_in v) (world_in v) c.args.place k)
    (back-became w k inside slot c.self.invariant.0 c.args.place later c.sibling-again.result (c.life-life.result + 1) again there (ap (λ n. n + 1) life))
