use Rattle.std.proofs.Common.{◌<◌, length, get_or, sym, ◌∙◌, ap, arith}
use Rattle.protocol.specs.World.{started_by}
use Rattle.operation_core.specs.Clients.{ClientView, started, with_started}
use Rattle.client_core.specs.Clients.{mail_of}
use Rattle.world_state.specs.contracts.state.State.{the_view}
use Rattle.world_state.specs.Worlds.{setting_in, world_in}
use Rattle.world_state.specs.Changes.{client_in}
use Rattle.world_state.proofs.KeptWorlds.{client-within}
use Rattle.world_state.proofs.ClientSlots.{slot-client, slot-crashed}
use Rattle.world_state.proofs.lemmas.Became.{known_as}
use Rattle.world_state.proofs.StartedOperations.{new_task, begun-kept, begun-uses, begun-became}
use Rattle.world_state.proofs.BlockUses.{use-few}
use Rattle.protocol.specs.Seen.{client_at}
use Rattle.world_state.proofs.state.State.start.Goals as goal

pub overflow_add-block_use : goal.overflow_add-block_use
overflow_add-block_use c =
    let within : c.block_of-block.result < length c.self.inside.uses.items = (let l = c.requires.block in let n = c.self.invariant.2.count in let e = ap (λ v. v.config.blocks) c.self.view_is in let f = c.block_of-block.ensures in omega (arith, l, n, e, f)) in
    let few = use-few _ _ _ _ c.self.invariant.2 c.block_of-block.result c.index_mut-block_use.result.now within c.index_mut-block_use.ensures.value in
    let many = c.self.invariant.0.clients in
    omega (arith, few, many)

pub invariant_of-self-2 : goal.invariant_of-self-2
invariant_of-self-2 c =
    let is = c.in_ok-starter.ensures ∙ c.client_of.ensures.same ∙ ap (λ v. client_in v c.args.client) (sym c.self.view_is) in
    rw (c.len-index.ensures, c.block_of-block.ensures) (
      begun-kept c.self.inside c.args.client (client-within c.self.inside c.self.invariant.0 c.args.client c.requires.client) c.index_mut-slot.result.now c.index_mut-slot.ensures.value c.self.invariant.0
          c.args.op c.args.place (let l = c.requires.later in let e = ap (λ v. v.seen.place) c.self.view_is in omega (arith, l, e)) c.start.new.self
          (c.in_ok-mail.ensures.ok ∙ ap (λ (x : ClientView). with_started x (started x c.args.op)) is) c.add.new.records c.in_ok-add.ensures.told,
      c.self.invariant.1,
      begun-uses c.self.inside c.args.client (client-within c.self.inside c.self.invariant.0 c.args.client c.requires.client) c.index_mut-slot.result.now c.index_mut-slot.ensures.value c.self.invariant.0
          c.args.op c.args.place (let l = c.requires.later in let e = ap (λ v. v.seen.place) c.self.view_is in omega (arith, l, e)) c.start.new.self
          (c.in_ok-mail.ensures.ok ∙ ap (λ (x : ClientView). with_started x (started x c.args.op)) is) c.add.new.records c.in_ok-add.ensures.told
          c.self.invariant.2
          (ap (λ x. x.task) (sym (slot-client c.self.inside c.args.client (client-within c.self.inside c.self.invariant.0 c.args.client c.requires.client) c.index_mut-slot.result.now c.index_mut-slot.ensures.value)) ∙ ap (λ v. (client_at v.seen c.args.client).task) c.self.view_is ∙ c.requires.idle)
          (sym (slot-crashed c.self.inside c.args.client (client-within c.self.inside c.self.invariant.0 c.args.client c.requires.client) c.index_mut-slot.result.now c.index_mut-slot.ensures.value) ∙ ap (λ v. (world_in v).client_crashed c.args.client) c.self.view_is ∙ c.requires.awake)
          c.index_mut-block_use.result.now (let l = c.requires.block in let n = c.self.invariant.2.count in let e = ap (λ v. v.config.blocks) c.self.view_is in omega (arith, l, n, e))
          (c.index_mut-block_use.ensures.value ∙ ap (λ j. get_or c.self.inside.uses.items j c.index_mut-block_use.result.now) c.block_of-block.ensures),
    )

pub returns-clause-ok : goal.returns-clause-ok
returns-clause-ok c =
    let is = c.in_ok-starter.ensures ∙ c.client_of.ensures.same ∙ ap (λ v. client_in v c.args.client) (sym c.self.view_is) in
    rw c.len-index.ensures
    (known_as (the_view c.self.inside) c.args.self.now _ c.self.view_is (λ v. started_by (setting_in v) (world_in v) c.args.place c.args.client (new_task v c.args.client c.args.op c.args.place))
    (begun-became c.self.inside c.args.client (client-within c.self.inside c.self.invariant.0 c.args.client c.requires.client) c.index_mut-slot.result.now c.index_mut-slot.ensures.value c.self.invariant.0
    c.args.op c.args.place (let l = c.requires.later in let e = ap (λ v. v.seen.place) c.self.view_is in omega (arith, l, e)) c.start.new.self
    (c.in_ok-mail.ensures.ok ∙ ap (λ (x : ClientView). with_started x (started x c.args.op)) is) c.add.new.records c.in_ok-add.ensures.told
    c.add.new.pool c.in_ok-mail.mail c.in_ok-add.ensures.sent (c.in_ok-mail.ensures.mail ∙ ap (λ (x : ClientView). mail_of x (started x c.args.op)) is)))
