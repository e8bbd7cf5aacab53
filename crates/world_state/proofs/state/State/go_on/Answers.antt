use Rattle.std.proofs.Common.{sym, ◌∙◌, ap, subst}
use Rattle.std.specs.Prelude.{IfSome}
use Rattle.std.specs.Vec.{with_item}
use Rattle.std.specs.declared.option.Option.TheVariants.{None}
use Rattle.protocol.specs.Instance.{setting}
use Rattle.protocol.specs.Seen.{seen_goes_on}
use Rattle.operation_core.specs.Stages.{stage_of}
use Rattle.operation_core.specs.Counting.{next_task, GoesOn}
use Rattle.client_core.specs.Clients.{operation_of, next_of}
use Rattle.world_state.specs.Worlds.{world_in}
use Rattle.world_state.specs.contracts.state.State.{the_view}
use Rattle.world_state.specs.Changes.{HasBecome, client_in}
use Rattle.world_state.specs.AnswerEffects.{settled, goes_on}
use Rattle.world_state.proofs.KeptWorlds.{client-within}
use Rattle.world_state.proofs.ChangedClients.{slot-is, same-client, becomes, next-is, next-some}
use Rattle.world_state.proofs.SettledRecords.{task-there, settle-within, settle-kept, settle-world}
use Rattle.world_state.proofs.SettledUses.{stands, go-on-uses}
use Rattle.world_state.proofs.state.State.go_on.Goals as goal

pub go_on-requires : goal.go_on-requires
go_on-requires c =
    let is = slot-is c.self.inside c.self.invariant.0 c.args.client c.requires.client c.index_mut-slot.result.now c.index_mut-slot.ensures.value in
    subst (λ x. GoesOn (operation_of x) c.args.stage) (sym (is ∙ ap (λ v. client_in v c.args.client) c.self.view_is)) c.requires.stage

pub tell-requires : goal.tell-requires
tell-requires c =
    let w = c.self.inside in
    let k = c.args.client in
    let inside = client-within w c.self.invariant.0 k c.requires.client in
    let slot = c.index_mut-slot.result.now in
    let there = c.index_mut-slot.ensures.value in
    let next = next_task slot.client.config slot.client.seen.task (stage_of c.args.stage) in
    let same = same-client w c.self.invariant.0 k c.requires.client slot there c.go_on.new.self next c.go_on.ensures in
    let may = becomes w c.self.invariant.0 k c.requires.client slot there c.go_on.new.self next c.go_on.ensures c.args.self.now c.self.view_is (next_of (client_in c.args.self.now k) c.args.stage)
    (next-is w c.self.invariant.0 k c.requires.client slot there c.args.self.now c.self.view_is c.args.stage) c.requires.task in
    settle-within w k inside slot there c.self.invariant.0 c.go_on.new.self same None c.stamp-stamp.result None may

pub invariant_of-self : goal.invariant_of-self
invariant_of-self c =
    let w = c.self.inside in
    let k = c.args.client in
    let inside = client-within w c.self.invariant.0 k c.requires.client in
    let slot = c.index_mut-slot.result.now in
    let there = c.index_mut-slot.ensures.value in
    let next = next_task slot.client.config slot.client.seen.task (stage_of c.args.stage) in
    let same = same-client w c.self.invariant.0 k c.requires.client slot there c.go_on.new.self next c.go_on.ensures in
    let may = becomes w c.self.invariant.0 k c.requires.client slot there c.go_on.new.self next c.go_on.ensures c.args.self.now c.self.view_is (next_of (client_in c.args.self.now k) c.args.stage)
    (next-is w c.self.invariant.0 k c.requires.client slot there c.args.self.now c.self.view_is c.args.stage) c.requires.task in
    let busy = task-there w k inside slot there c.self.invariant.0 c.go_on.new.self same None c.stamp-stamp.result None may in (
      settle-kept w k inside slot there c.self.invariant.0 c.go_on.new.self same None c.stamp-stamp.result None may (stands c.go_on.new.self.seen.task c.stamp-stamp.result c.stamp-stamp.ensures) c.tell.new.records c.tell.ensures,
      c.self.invariant.1,
      go-on-uses w k inside slot there c.self.invariant.0 c.self.invariant.2 c.go_on.new.self same may (seen_goes_on (setting slot.client.config) busy.0 (stage_of c.args.stage))
          (next-some slot.client c.go_on.new.self c.args.stage busy.0 busy.1 c.go_on.ensures) c.stamp-stamp.result c.tell.new.records c.tell.ensures,
    )

pub returns : goal.returns
returns c =
    let w = c.self.inside in
    let k = c.args.client in
    let inside = client-within w c.self.invariant.0 k c.requires.client in
    let slot = c.index_mut-slot.result.now in
    let there = c.index_mut-slot.ensures.value in
    let next = next_task slot.client.config slot.client.seen.task (stage_of c.args.stage) in
    let same = same-client w c.self.invariant.0 k c.requires.client slot there c.go_on.new.self next c.go_on.ensures in
    let may = becomes w c.self.invariant.0 k c.requires.client slot there c.go_on.new.self next c.go_on.ensures c.args.self.now c.self.view_is (next_of (client_in c.args.self.now k) c.args.stage)
    (next-is w c.self.invariant.0 k c.requires.client slot there c.args.self.now c.self.view_is c.args.stage) c.requires.task in
    let new = the_view (record w { client_slots = with_item w.client_slots k (record slot { client = c.go_on.new.self }); records = c.tell.new.records }) in
    let goes = ap (λ x. x.seen.task) c.go_on.ensures ∙ next-is w c.self.invariant.0 k c.requires.client slot there c.args.self.now c.self.view_is c.args.stage in
    subst (λ o. IfSome ((world_in c.args.self.now).task k) (λ t. HasBecome c.args.self.now new (goes_on (world_in c.args.self.now) k t o))) goes
    (subst (λ v. IfSome ((world_in v).task k) (λ t. HasBecome v new (goes_on (world_in v) k t c.go_on.new.self.seen.task))) c.self.view_is
    (subst (λ o. IfSome ((world_in (the_view w)).task k) (λ t. HasBecome (the_view w) new (settled (world_in (the_view w)) k t c.go_on.new.self.seen.task None o None))) c.stamp-stamp.ensures
    (settle-world w k inside slot there c.self.invariant.0 c.go_on.new.self same None c.stamp-stamp.result None may (stands c.go_on.new.self.seen.task c.stamp-stamp.result c.stamp-stamp.ensures) c.tell.new.records c.tell.ensures)))
